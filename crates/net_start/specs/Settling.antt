-- How a settling from nothing ends that tells of requests behind its calls.
use Rattle.std.specs.Prelude.{ℕ, ◌≡◌, List, [], ◌∷◌, ◌++◌, map, length, Result, Ok, Err}
use Rattle.plane_words.specs.Causes.{Rose, RoseBy}
use Rattle.plane_words.specs.Growth.{Grows}
use Rattle.kern_model.specs.declared.object.Call.{Call}
use Rattle.kern_model.specs.declared.kernel.Asked.{Asked}
use Rattle.kern_model.specs.ObjectOrder.{Objects}
use Rattle.kern_model.specs.Kernel.{Records}
use Rattle.kern_calls.specs.Calls.{calls}
use Rattle.kern_calls.specs.Due.{due_count}
use Rattle.net_settle.specs.Outside.{Outside}
use Rattle.net_settle.specs.Settle.{Made, lines_of, whole_line, done_call, failed_call}
use Rattle.net_start.specs.declared.start_error.StartError.{StartError}
use Rattle.net_start.specs.declared.start_error.StartError.TheVariants as error

-- So far a settling came: these of the calls were made and the others are left, the kernel was asked
-- for nothing but them and what it failed at, and this was shown.
pub record Reached (all made left : List Call) (failed : List Asked) (shown : List ℕ)
    (before after : Outside) : Type 0 where
  pub parts : all ≡ made ++ left
  pub done : Made made before after
  pub asked : Records before.asked after.asked (map done_call made ++ failed)
  pub faults : RoseBy (length failed) before.kernel_faults after.kernel_faults
  pub printed : Grows before.out after.out shown
  pub devices : after.devices ≡ before.devices

-- all calls were made, and the kernel holds what is wanted
pub record Finished (all : List Call) (requests : List ℕ) (wanted : Objects) (before after : Outside)
    : Type 0 where
  pub reached : Reached all all [] [] (lines_of all ++ requests) before after
  pub held : after.objects ≡ wanted

-- A call failed, and it and the others are what leads to what is wanted. So many objects are due.
pub record StoppedAtCall (all : List Call) (requests : List ℕ) (wanted : Objects) (due : ℕ)
    (before after : Outside) : Type 0 where
  pub made : List Call
  pub failed : Call
  pub others : List Call
  pub reached : Reached all made (failed ∷ others) (failed_call failed ∷ [])
      (lines_of made ++ requests) before after
  pub left : calls after.devices after.objects wanted ≡ failed ∷ others
  pub count : due_count after.objects wanted ≡ due

-- what the kernel failed at, if it failed: the first call of those that are left
pub data IsFailed : List Call → List Asked → Type 0 where
  at_none : IsFailed [] []
  at_first : (failed : Call) (others : List Call)
      → IsFailed (failed ∷ others) (failed_call failed ∷ [])

-- a line was not written, or not wholly: that of a call, or one of the requests
pub data CutShort (all : List Call) (requests : List ℕ) (before after : Outside) : Type 0 where
  at_line : (earlier : List Call) (last : Call) (left : List Call) (front back : List ℕ)
      → whole_line last ≡ front ++ back
      → Reached all (earlier ++ last ∷ []) left [] (lines_of earlier ++ front) before after
      → CutShort all requests before after
  at_requests : (made left : List Call) (failed : List Asked) (front back : List ℕ)
      → requests ≡ front ++ back → IsFailed left failed
      → Reached all made left failed (lines_of made ++ front) before after
      → CutShort all requests before after

pub record StoppedAtLine (all : List Call) (requests : List ℕ) (before after : Outside) : Type 0 where
  pub cut : CutShort all requests before after
  pub cause : Rose before.out_faults after.out_faults

-- how it ends
abbrev pub SettlingEnds : {X : Type 0} → List Call → List ℕ → Objects → Outside → Outside
    → Result X StartError → Type 0
SettlingEnds all requests wanted before after (Ok _) = Finished all requests wanted before after
SettlingEnds all requests wanted before after (Err (error.KernelFailed due)) =
    StoppedAtCall all requests wanted due before after
SettlingEnds all requests wanted before after (Err error.WriteFailed) =
    StoppedAtLine all requests before after
SettlingEnds all requests wanted before after (Err error.Memory) = ⊥
