-- How bringing a network up ends.
use Rattle.std.specs.Prelude.{ℕ, ◌≡◌, List, Result, Ok, Err}
use Rattle.std.specs.FinSet as set
use Rattle.std.specs.FinMap as finite_map
use Rattle.kern_model.specs.declared.kernel.Kernel.{Ghosts as KernelMembers}
use Rattle.kern_model.specs.declared.object.Call.{Call}
use Rattle.kern_model.specs.ObjectOrder.{Objects}
use Rattle.uci_tree.specs.declared.package.Package.{Package}
use Rattle.net_settle.specs.Outside.{Outside}
use Rattle.net_start.specs.declared.start_error.StartError.{StartError}
use Rattle.net_start.specs.declared.start_error.StartError.TheVariants as error
use Rattle.net_start.specs.Inputs.{present_of, start_wants, start_calls, start_requests}
use Rattle.net_start.specs.Devices.{AreAdded, CameInFront}
use Rattle.net_start.specs.Settling.{Finished, StoppedAtCall, StoppedAtLine}

-- a kernel without objects and without devices
abbrev pub IsBare : {K : Type 0} → KernelMembers K → K → Type 0
IsBare kernel state = (kernel.objects state ≡ set.empty) × (kernel.devices state ≡ finite_map.empty)

-- The named devices were added, and then the network was settled on those that came, and so it ended.
pub record Started (Settled : List Call → List ℕ → Objects → Outside → Outside → Type 0)
    (names : List (List ℕ)) (network : Package) (before after : Outside) : Type 0 where
  pub between : Outside
  pub added : AreAdded names before between
  pub settled : Settled
      (start_calls network (present_of between.devices names))
      (start_requests network (present_of between.devices names))
      (start_wants network (present_of between.devices names))
      between after

-- it is up: all calls were made and all requests told, and the kernel holds what is wanted
abbrev pub IsUp : List (List ℕ) → Package → Outside → Outside → Type 0
IsUp names network before after = Started Finished names network before after

-- a call failed, and so many objects are due
abbrev pub IsStoppedAtCall : ℕ → List (List ℕ) → Package → Outside → Outside → Type 0
IsStoppedAtCall due names network before after =
    Started (λ all requests wanted. StoppedAtCall all requests wanted due) names network before after

-- a line was not written, or not wholly
abbrev pub IsCutShort : List (List ℕ) → Package → Outside → Outside → Type 0
IsCutShort names network before after =
    Started (λ all requests wanted. StoppedAtLine all requests) names network before after

-- memory was lacking: the output is as it was, and so is the kernel, but for a front of the named devices
pub record LackedMemory (names : List (List ℕ)) (before after : Outside) : Type 0 where
  pub out : after.out ≡ before.out
  pub out_faults : after.out_faults ≡ before.out_faults
  pub objects : after.objects ≡ before.objects
  pub calls : after.calls ≡ before.calls
  pub came : CameInFront names after.devices before.asked after.asked
      before.kernel_faults after.kernel_faults

abbrev pub BringUpEnds : {X : Type 0} → List (List ℕ) → Package → Outside → Outside
    → Result X StartError → Type 0
BringUpEnds names network before after (Ok _) = IsUp names network before after
BringUpEnds names network before after (Err (error.KernelFailed due)) =
    IsStoppedAtCall due names network before after
BringUpEnds names network before after (Err error.WriteFailed) =
    IsCutShort names network before after
BringUpEnds names network before after (Err error.Memory) = LackedMemory names before after
