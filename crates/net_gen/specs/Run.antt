-- How a run ends.
use Rattle.std.specs.Prelude.{ℕ, ◌≡◌, ◌+◌, ◌<◌, List, ◌∷◌, ◌++◌, Option, Result, Ok, Err}
use Rattle.plane_words.specs.Causes.{Rose}
use Rattle.plane_words.specs.Growth.{Grows, GrowsByFront}
use Rattle.kern_calls.specs.Due.{due_count}
use Rattle.uci_tree.specs.declared.package.Package.{Package}
use Rattle.net_rules.specs.Moment.{Moment, devices_of, want_of}
use Rattle.net_settle.specs.Outside.{Outside}
use Rattle.step_net.specs.Effects.{Effects, joined, Leaves}
use Rattle.step_net.specs.Moved.{Luck, failures_of}
use Rattle.net_gen.specs.declared.gen_error.GenError.{GenError}
use Rattle.net_gen.specs.declared.gen_error.GenError.TheVariants as error
use Rattle.net_gen.specs.declared.packages.Standing.TheVariants as standing
use Rattle.net_gen.specs.declared.steps.Step.{Step}
use Rattle.net_gen.specs.Packages.{network}
use Rattle.net_gen.specs.Steps.{steps, after_step, after_steps, steps_in, failures_in, loaded, walked, objects_line}
use Rattle.net_gen.specs.StepEnds.{IsHalted}

-- these steps were taken, and their lines written
pub record Took (rows : Package) (net now : Moment) (taken : List (Step × Luck))
    (before after : Outside) : Type 0 where
  pub next : now ≡ (after_steps rows net taken).net
  pub left : Leaves (after_steps rows net taken).effects (failures_in taken) before after

-- all steps were taken
pub record IsThrough (rows : Package) (net now : Moment) (before after : Outside) : Type 0 where
  pub taken : List (Step × Luck)
  pub all : steps_in taken ≡ steps
  pub took : Took rows net now taken before after

-- a part of the text
abbrev pub with_text : Effects → List ℕ → Effects
with_text effects text = record { asked = effects.asked; calls = effects.calls; text = text }

-- a step was taken and settled, and its line was not written, or not wholly
pub record IsCutAtStep (rows : Package) (net now : Moment) (before after : Outside)
    : Type 0 where
  pub taken : List (Step × Luck)
  pub which : Step
  pub luck : Luck
  pub others : List Step
  pub parts : steps ≡ steps_in taken ++ which ∷ others
  pub next : now ≡ (after_step rows (after_steps rows net taken).net which luck).net
  pub front : List ℕ
  pub back : List ℕ
  pub line : (after_step rows (after_steps rows net taken).net which luck).effects.text
      ≡ front ++ back
  pub left : Leaves (joined (after_steps rows net taken).effects
      (with_text (after_step rows (after_steps rows net taken).net which luck).effects front))
      (failures_in taken + failures_of luck) before after
  pub cause : Rose before.out_faults after.out_faults

-- a step was halted behind others
pub record IsHaltedAtStep (rows : Package) (net now : Moment) (before after : Outside)
    : Type 0 where
  pub taken : List (Step × Luck)
  pub which : Step
  pub others : List Step
  pub parts : steps ≡ steps_in taken ++ which ∷ others
  pub between : Moment
  pub middle : Outside
  pub took : Took rows net between taken before middle
  pub halted : IsHalted rows which between now middle after

abbrev pub StepsEnd : {X : Type 0} → Package → Moment → Moment → Outside → Outside
    → Result X GenError → Type 0
StepsEnd rows net now before after (Ok x) = IsThrough rows net now before after
StepsEnd rows net now before after (Err error.WriteFailed) = IsCutAtStep rows net now before after
StepsEnd rows net now before after (Err error.Memory) = IsHaltedAtStep rows net now before after
StepsEnd rows net now before after (Err (error.KernelFailed due)) = ⊥

-- the rows that are loaded again
abbrev pub fewer : ℕ → Package
fewer count = network standing.WithoutThirds count

-- all lines were written; the kernel has the devices and holds what the steps made, and so many objects
-- are due
pub record IsFinished (count due : ℕ) (before after : Outside) : Type 0 where
  pub taken : List (Step × Luck)
  pub all : steps_in taken ≡ steps
  pub left : Leaves (with_text (walked count taken).effects
      ((walked count taken).effects.text ++ objects_line (walked count taken).net))
      (failures_in taken) before after
  pub objects : after.objects ≡ (walked count taken).net.held
  pub devices : after.devices ≡ devices_of (walked count taken).net.inputs
  pub number : due_count (walked count taken).net.held (want_of (walked count taken).net.inputs)
      ≡ due

-- something is due at the end, and the kernel failed
pub record IsLeftDue (count due : ℕ) (before after : Outside) : Type 0 where
  pub finished : IsFinished count due before after
  pub some : 0 < due
  pub cause : Rose before.kernel_faults after.kernel_faults

-- the last line was not written, or not wholly
pub record IsCutAtEnd (count : ℕ) (before after : Outside) : Type 0 where
  pub taken : List (Step × Luck)
  pub all : steps_in taken ≡ steps
  pub front : List ℕ
  pub back : List ℕ
  pub line : objects_line (walked count taken).net ≡ front ++ back
  pub left : Leaves (with_text (walked count taken).effects
      ((walked count taken).effects.text ++ front)) (failures_in taken) before after
  pub objects : after.objects ≡ (walked count taken).net.held
  pub devices : after.devices ≡ devices_of (walked count taken).net.inputs
  pub cause : Rose before.out_faults after.out_faults

-- a line was not written, or not wholly; the kernel holds what its step made
pub data IsCutShort (count : ℕ) (before after : Outside) : Type 0 where
  at_step : (now : Moment) → IsCutAtStep (fewer count) (loaded count) now before after
      → after.objects ≡ now.held → IsCutShort count before after
  at_end : IsCutAtEnd count before after → IsCutShort count before after

-- memory was lacking in front of a step, behind all of them, or within one
pub data LackedMemory (count : ℕ) (before after : Outside) : Type 0 where
  between : (now : Moment) (taken : List (Step × Luck)) (others : List Step)
      → steps ≡ steps_in taken ++ others
      → Took (fewer count) (loaded count) now taken before after → after.objects ≡ now.held
      → LackedMemory count before after
  within : (now : Moment) → IsHaltedAtStep (fewer count) (loaded count) now before after
      → after.objects ≡ now.held → LackedMemory count before after

abbrev pub RunEnds : {X : Type 0} → ℕ → Outside → Outside → Result X GenError → Type 0
RunEnds count before after (Ok x) = IsFinished count 0 before after
RunEnds count before after (Err (error.KernelFailed due)) = IsLeftDue count due before after
RunEnds count before after (Err error.WriteFailed) = IsCutShort count before after
RunEnds count before after (Err error.Memory) = LackedMemory count before after

-- how the last line ends, where this plane is behind all steps
abbrev pub HeldEnds : {X : Type 0} → Moment → Option (List ℕ) → Option (List ℕ) → ℕ → ℕ
    → Result X GenError → Type 0
HeldEnds now out out_now faults faults_now (Ok x) =
    Grows out out_now (objects_line now) × (due_count now.held (want_of now.inputs) ≡ 0)
HeldEnds now out out_now faults faults_now (Err (error.KernelFailed due)) =
    Grows out out_now (objects_line now) × (due_count now.held (want_of now.inputs) ≡ due)
    × (0 < due)
HeldEnds now out out_now faults faults_now (Err error.WriteFailed) =
    GrowsByFront out out_now (objects_line now) × Rose faults faults_now
HeldEnds now out out_now faults faults_now (Err error.Memory) = out_now ≡ out
