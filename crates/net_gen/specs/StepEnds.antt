-- How a step ends before its line is written.
use Rattle.std.specs.Prelude.{ℕ, ◌≡◌, ◌++◌, List, [], Bool, length, take, map, Result, Ok, Err}
use Rattle.kern_model.specs.declared.kernel.Asked.{Asked}
use Rattle.uci_tree.specs.declared.package.Package.{Package}
use Rattle.net_rules.specs.Moment.{Moment}
use Rattle.net_settle.specs.Outside.{Outside}
use Rattle.net_settle.specs.Settle.{done_call}
use Rattle.step_net.specs.Acted.{Acted, acted}
use Rattle.step_net.specs.Effects.{Effects, no_effects, Leaves}
use Rattle.step_net.specs.Moved.{Luck, failures_of, due, settled, once_if}
use Rattle.net_gen.specs.declared.steps.Step.{Step}
use Rattle.net_gen.specs.Steps.{after_step, line_of}

-- it was taken and settled, with some luck, and so many calls were made
pub record IsTaken (rows : Package) (which : Step) (net now : Moment) (count : ℕ)
    (before after : Outside) : Type 0 where
  pub luck : Luck
  pub next : now ≡ (after_step rows net which luck).net
  pub number : count ≡ length (after_step rows net which luck).effects.calls
  pub left : Leaves (after_step rows net which luck).effects (failures_of luck) before after

-- what was done and so many of the calls behind it, and no line
abbrev pub done_and : Acted → ℕ → Effects
done_and done count = record {
  asked = done.asked ++ map done_call (take count (due done.net));
  calls = take count (due done.net);
  text = [];
}

-- It was not begun. Or it was done, whether it was refused or not, and so many calls were made behind
-- it, none of which failed.
pub data IsHalted (rows : Package) (which : Step) (net now : Moment) (before after : Outside)
    : Type 0 where
  in_front : now ≡ net → Leaves no_effects 0 before after
      → IsHalted rows which net now before after
  behind : (failed : Bool) (count : ℕ)
      → now ≡ settled (acted net (line_of rows which) failed).net
      (take count (due (acted net (line_of rows which) failed).net))
      → Leaves (done_and (acted net (line_of rows which) failed) count) (once_if failed) before after
      → IsHalted rows which net now before after

abbrev pub StepEnds : {E : Type 0} → Package → Step → Moment → Moment → Outside → Outside
    → Result ℕ E → Type 0
StepEnds rows which net now before after (Ok count) = IsTaken rows which net now count before after
StepEnds rows which net now before after (Err lacks) = IsHalted rows which net now before after
