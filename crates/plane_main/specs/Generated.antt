-- How a run of `gen` ends, and when.
use Rattle.std.specs.Prelude.{ℕ, ◌≡◌}
use Rattle.plane_words.specs.Causes.{DidNotRise}
use Rattle.net_settle.specs.Outside.{Outside}
use Rattle.net_gen.specs.Run.{IsFinished, IsLeftDue, IsCutShort, LackedMemory}
use Rattle.plane_main.specs.declared.ending.Ending.{Ending}
use Rattle.plane_main.specs.declared.ending.Ending.TheVariants as ending
use Rattle.plane_main.specs.Ending.{IsKernelFailed, OrLacksMemory}

-- Why it ends so, and what it leaves: all lines, and nothing is due; or so many objects are; or a front of the lines.
abbrev pub GenEnds : ℕ → Outside → Outside → Ending → Type 0
GenEnds count before after ending.Done = IsFinished count 0 before after
GenEnds count before after (ending.KernelFailed left) = IsLeftDue count left before after
GenEnds count before after ending.WriteFailed = IsCutShort count before after
GenEnds count before after ending.OutOfMemory = LackedMemory count before after
GenEnds count before after _ = ⊥

-- When it ends so. Want of memory may come in place of each ending.
pub record GenComes (before after : Outside) (end : Ending) : Type 0 where
  -- where the count of the output did not rise, no line is told to have failed
  pub written : DidNotRise before.out_faults after.out_faults → end ≡ ending.WriteFailed → ⊥
  -- where that of the kernel did not rise, nothing is told to be due
  pub none_due : DidNotRise before.kernel_faults after.kernel_faults → IsKernelFailed end → ⊥
  -- where neither rose, it is done
  pub done : DidNotRise before.out_faults after.out_faults
      → DidNotRise before.kernel_faults after.kernel_faults → OrLacksMemory (end ≡ ending.Done) end
