-- What is seen outside: what the kernel is asked, the calls that it does, and what is written.
use Rattle.std.specs.Prelude.{ℕ, ◌≡◌, ◌≤◌, List, [], ◌++◌}
use Rattle.plane_words.specs.Causes.{RoseBy}
use Rattle.plane_words.specs.Growth.{Grows}
use Rattle.kern_model.specs.declared.object.Call.{Call}
use Rattle.kern_model.specs.declared.kernel.Asked.{Asked}
use Rattle.kern_model.specs.Kernel.{Records}
use Rattle.net_settle.specs.Outside.{Outside}

pub record Effects : Type 0 where
  pub asked : List Asked
  pub calls : List Call
  pub text : List ℕ

abbrev pub no_effects : Effects
no_effects = record { asked = []; calls = []; text = [] }

-- one after the other
abbrev pub joined : Effects → Effects → Effects
joined a b =
    record { asked = a.asked ++ b.asked; calls = a.calls ++ b.calls; text = a.text ++ b.text }

-- outside these are seen, and the kernel failed so often; the output's count of faults did not fall
pub record Leaves (effects : Effects) (failures : ℕ) (before after : Outside) : Type 0 where
  pub asked : Records before.asked after.asked effects.asked
  pub logged : Grows before.calls after.calls effects.calls
  pub written : Grows before.out after.out effects.text
  pub cause : RoseBy failures before.kernel_faults after.kernel_faults
  pub later : before.out_faults ≤ after.out_faults

-- a front of them is seen, perhaps nothing or all
pub record LeavesInPart (effects : Effects) (failures : ℕ) (before after : Outside) : Type 0 where
  pub front : Effects
  pub back : Effects
  pub parts : effects ≡ joined front back
  pub left : Leaves front failures before after
