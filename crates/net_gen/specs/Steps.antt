-- The steps of a run, what each leaves, and its line.
use Rattle.std.specs.Prelude.{ℕ, ◌+◌, List, [], ◌∷◌, ◌++◌, length, map, false, codes, decimal}
use Rattle.std.specs.FinSet as set
use Rattle.kern_model.specs.declared.object.DevEvent.{DevEvent}
use Rattle.kern_model.specs.declared.object.DevEvent.TheVariants as device_event
use Rattle.uci_tree.specs.declared.package.Package.{Package}
use Rattle.net_rules.specs.declared.event.Event.TheVariants as event
use Rattle.net_rules.specs.Inputs.{no_inputs}
use Rattle.net_rules.specs.Moment.{Moment}
use Rattle.net_start.specs.Inputs.{comes}
use Rattle.step_net.specs.NetLine.{NetLine, load_line}
use Rattle.step_net.specs.Acted.{acted}
use Rattle.step_net.specs.Effects.{Effects, no_effects, joined}
use Rattle.step_net.specs.Moved.{Luck, failures_of, moved}
use Rattle.net_gen.specs.declared.packages.Standing.TheVariants as standing
use Rattle.net_gen.specs.declared.steps.Step.{Step}
use Rattle.net_gen.specs.declared.steps.Step.TheVariants as step
use Rattle.net_gen.specs.Packages.{no_package, network}

-- the device that all ports are VLANs of, and that it comes
abbrev pub device : List ℕ
device = codes "eth0"

abbrev pub device_comes : DevEvent
device_comes = comes device

-- the device comes, goes and comes, and then rows are loaded again
abbrev pub steps : List Step
steps = step.Add ∷ step.Remove ∷ step.Add ∷ step.Reload ∷ []

-- the word of a step
abbrev pub word_of : Step → List ℕ
word_of step.Add = codes "add"
word_of step.Remove = codes "del"
word_of step.Reload = codes "reload"

-- what a step asks of the plane, where these rows are loaded again
abbrev pub line_of : Package → Step → NetLine
line_of rows step.Add = NetLine.happens (event.Device device_comes)
line_of rows step.Remove = NetLine.happens (event.Device (device_event.Remove device))
line_of rows step.Reload = load_line rows no_package

-- a line with a word and a number
abbrev pub number_line : List ℕ → ℕ → List ℕ
number_line word number = word ++ codes " " ++ decimal number ++ codes "\n"

-- a plane, and what was seen outside on the way to it
pub record Walked : Type 0 where
  pub net : Moment
  pub effects : Effects

-- What a step leaves with its settling, by its luck, whether it is refused or not; and the line that
-- tells how many calls were made.
abbrev pub after_step : Package → Moment → Step → Luck → Walked
after_step rows net which luck =
    let done = moved net (line_of rows which) luck in
    record {
      net = done.net;
      effects = record {
        asked = done.effects.asked;
        calls = done.effects.calls;
        text = number_line (word_of which) (length done.effects.calls);
      };
    }

-- one after the other
abbrev pub followed : Walked → Walked → Walked
followed a b = record { net = b.net; effects = joined a.effects b.effects }

-- what steps leave, each with its luck
abbrev pub after_steps : Package → Moment → List (Step × Luck) → Walked
after_steps rows net [] = record { net = net; effects = no_effects }
after_steps rows net (p ∷ more) =
    let first = after_step rows net p.0 p.1 in
    followed first (after_steps rows first.net more)

-- the steps that were taken, without their lucks
abbrev pub steps_in : List (Step × Luck) → List Step
steps_in taken = map (λ p. p.0) taken

-- how often the kernel failed in them
abbrev pub failures_in : List (Step × Luck) → ℕ
failures_in [] = 0
failures_in (p ∷ more) = failures_of p.1 + failures_in more

-- the plane behind its first load, in front of all steps
abbrev pub loaded : ℕ → Moment
loaded count =
    (acted (record { inputs = no_inputs; held = set.empty })
    (load_line (network standing.All count) no_package) false).net

-- what steps of a run leave: the rows that are loaded again lack the interfaces of multiples of 3
abbrev pub walked : ℕ → List (Step × Luck) → Walked
walked count taken = after_steps (network standing.WithoutThirds count) (loaded count) taken

-- the last line: how many objects are held
abbrev pub objects_line : Moment → List ℕ
objects_line net = number_line (codes "objects") (set.len net.held)
