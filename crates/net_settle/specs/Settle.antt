-- How far a settling came: the calls that were made, what they made the kernel hold, and their
-- lines.
use Rattle.std.specs.Prelude.{ℕ, ◌≡◌, List, [], ◌∷◌, ◌++◌, map, codes, true, false, Result, Ok, Err}
use Rattle.std.specs.List.{flat_map}
use Rattle.plane_words.specs.Causes.{Rose}
use Rattle.plane_words.specs.Growth.{Grows}
use Rattle.kern_model.specs.declared.object.Call.{Call}
use Rattle.kern_model.specs.declared.kernel.Asked.{Asked}
use Rattle.kern_model.specs.declared.kernel.Asked.TheVariants as asked
use Rattle.kern_model.specs.Kernel.{Records}
use Rattle.kern_model.specs.CallOrder.{after_calls}
use Rattle.kern_model.specs.Line.{line_of}
use Rattle.net_settle.specs.declared.settle_error.SettleError.{SettleError}
use Rattle.net_settle.specs.declared.settle_error.SettleError.TheVariants as error
use Rattle.net_settle.specs.Outside.{Outside}

-- the line of a call, with its newline
abbrev pub whole_line : Call → List ℕ
whole_line call = line_of call ++ codes "\n"

-- the lines of the calls
abbrev pub lines_of : List Call → List ℕ
lines_of calls = flat_map whole_line calls

-- a call that was asked for, and was done or failed
abbrev pub done_call : Call → Asked
done_call call = asked.Call call true

abbrev pub failed_call : Call → Asked
failed_call call = asked.Call call false

-- these calls were made, and the kernel holds what they made
pub record Made (made : List Call) (before after : Outside) : Type 0 where
  pub held : after.objects ≡ after_calls before.objects made
  pub logged : Grows before.calls after.calls made

-- all calls but the rest were made, and their lines written
pub record Settled (calls rest : List Call) (before after : Outside) : Type 0 where
  pub made : List Call
  pub parts : calls ≡ made ++ rest
  pub done : Made made before after
  pub printed : Grows before.out after.out (lines_of made)

-- all calls but the rest were made, and nothing else was asked of the kernel
pub record SettledAlone (calls rest : List Call) (before after : Outside) : Type 0 where
  pub settled : Settled calls rest before after
  pub asked : Records before.asked after.asked (map done_call settled.made)

-- the first call of the rest failed; it was asked for once
pub record StopsAtCall (calls rest : List Call) (before after : Outside) : Type 0 where
  pub failed : Call
  pub others : List Call
  pub first : rest ≡ failed ∷ others
  pub settled : Settled calls rest before after
  pub asked : Records before.asked after.asked
      (map done_call settled.made ++ failed_call failed ∷ [])
  pub cause : Rose before.kernel_faults after.kernel_faults

-- all calls but the rest were made, and the line of the last of them was not written, or not wholly
pub record StopsAtLine (calls rest : List Call) (before after : Outside) : Type 0 where
  pub earlier : List Call
  pub last : Call
  pub parts : calls ≡ earlier ++ last ∷ rest
  pub done : Made (earlier ++ last ∷ []) before after
  pub front : List ℕ
  pub back : List ℕ
  pub line : whole_line last ≡ front ++ back
  pub printed : Grows before.out after.out (lines_of earlier ++ front)
  pub asked : Records before.asked after.asked (map done_call (earlier ++ last ∷ []))
  pub cause : Rose before.out_faults after.out_faults

-- how a settling ends that had these calls to make and leaves the rest of them
abbrev pub SettleEnds : {X : Type 0} → List Call → List Call → Outside → Outside
    → Result X SettleError → Type 0
SettleEnds calls rest before after (Ok _) =
    (rest ≡ []) × SettledAlone calls [] before after
SettleEnds calls rest before after (Err error.KernelFailed) = StopsAtCall calls rest before after
SettleEnds calls rest before after (Err error.WriteFailed) = StopsAtLine calls rest before after
