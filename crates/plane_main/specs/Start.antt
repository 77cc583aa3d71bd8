-- How a run of `start` ends, and when.
use Rattle.std.specs.Prelude.{ℕ, ◌≡◌, ◌≤◌, ◌<◌, ◌↔◌, ◌⊎◌, List, length, codes, Option, Some, None, ⊤}
use Rattle.plane_words.specs.Causes.{Rose, DidNotRise}
use Rattle.plane_io.specs.Source.{IsAllThatWasLeft, HadMoreThan}
use Rattle.plane_io.specs.declared.input.TheConstants.{INPUT_LIMIT}
use Rattle.uci_tree.specs.declared.fault.Fault.{Fault}
use Rattle.uci_tree.specs.declared.package.Package.{Package}
use Rattle.uci_tree.specs.declared.tree_error.TreeError.{TreeError}
use Rattle.uci_tree.specs.Fault.{fault_of}
use Rattle.uci_tree.specs.Reading.{Reads, HasTreeFault}
use Rattle.net_conf.specs.Limits.{passed_limit}
use Rattle.net_settle.specs.Outside.{Outside}
use Rattle.net_start.specs.Inputs.{rows_of, present_of, start_wants}
use Rattle.net_start.specs.BringUp.{IsUp, IsStoppedAtCall, IsCutShort as IsLineCutShort, LackedMemory}
use Rattle.plane_main.specs.declared.ending.Ending.{Ending}
use Rattle.plane_main.specs.declared.ending.Ending.TheVariants as ending
use Rattle.plane_main.specs.Outside.{Input}
use Rattle.plane_main.specs.Ending.{IsFailure, IsCutShort, IsKernelFailed, Tells, OrLacksMemory}

-- the input was read to its end, and this is its text, which is within the limit
pub record IsRead (input : Input) (text : List ℕ) : Type 0 where
  pub all : IsAllThatWasLeft input.left input.left_now text
  pub within : length text ≤ INPUT_LIMIT

-- the name of the package that is read
abbrev pub package_name : List ℕ
package_name = codes "network"

-- a text is this package, and its lists are within their limits
pub record IsNetwork (text : List ℕ) (network : Package) : Type 0 where
  pub read : Reads package_name text network
  pub within : passed_limit (rows_of network) ≡ None

-- a text is a package of which a list passes this limit
pub record PassesLimit (text : List ℕ) (limit : ℕ) : Type 0 where
  pub network : Package
  pub read : Reads package_name text network
  pub passed : passed_limit (rows_of network) ≡ Some limit

-- the text of the input is this network
pub record HasNetwork (input : Input) (network : Package) : Type 0 where
  pub text : List ℕ
  pub read : IsRead input text
  pub is : IsNetwork text network

-- its text is no package, and has this fault
pub record IsUnreadable (input : Input) (fault : Fault) : Type 0 where
  pub text : List ℕ
  pub read : IsRead input text
  pub error : TreeError
  pub refused : HasTreeFault text error
  pub is : fault_of error ≡ Some fault

-- a list of its package passes this limit
pub record HasTooMany (input : Input) (limit : ℕ) : Type 0 where
  pub text : List ℕ
  pub read : IsRead input text
  pub passes : PassesLimit text limit

-- it is longer than an input may be, or a list of its package is
abbrev pub IsTooLong : Input → ℕ → Type 0
IsTooLong input limit =
    ((limit ≡ INPUT_LIMIT) × HadMoreThan INPUT_LIMIT input.left) ⊎ HasTooMany input limit

-- no network was read, and why
abbrev pub ReadEnds : Input → Ending → Type 0
ReadEnds input ending.ReadFailed = Rose input.faults input.faults_now
ReadEnds input (ending.TooLong limit) = IsTooLong input limit
ReadEnds input (ending.Unreadable fault) = IsUnreadable input fault
ReadEnds input ending.OutOfMemory = ⊤
ReadEnds input _ = ⊥

-- the network of the input was read, and this was done with it
pub record Ran (input : Input) (Did : Package → Type 0) : Type 0 where
  pub network : Package
  pub read : HasNetwork input network
  pub did : Did network

-- why a run ends so, and what it leaves
abbrev pub StartEnds : List (List ℕ) → Input → Outside → Outside → Ending → Type 0
StartEnds devices input before after ending.Done =
    Ran input (λ network. IsUp devices network before after)
StartEnds devices input before after (ending.KernelFailed left) =
    Ran input (λ network. IsStoppedAtCall left devices network before after)
StartEnds devices input before after ending.WriteFailed =
    Ran input (λ network. IsLineCutShort devices network before after)
StartEnds devices input before after ending.OutOfMemory = LackedMemory devices before after
StartEnds devices input before after end = ReadEnds input end

-- the source tells that this text is left, and it is within the limit of the input
pub record IsInput (left : Option (List ℕ)) (text : List ℕ) : Type 0 where
  pub told : left ≡ Some text
  pub within : length text ≤ INPUT_LIMIT

-- no count of the input, the output or the kernel rose
pub record IsCalm (input : Input) (before after : Outside) : Type 0 where
  pub at_input : DidNotRise input.faults input.faults_now
  pub at_output : DidNotRise before.out_faults after.out_faults
  pub at_kernel : DidNotRise before.kernel_faults after.kernel_faults

-- the kernel holds what the network wants on those of the named devices that are present
abbrev pub HoldsWanted : List (List ℕ) → Package → Outside → Type 0
HoldsWanted devices network after =
    after.objects ≡ start_wants network (present_of after.devices devices)

-- When a run ends so. Want of memory may come in place of each ending.
pub record StartComes (devices : List (List ℕ)) (input : Input) (before after : Outside)
    (end : Ending) : Type 0 where
  -- where no count rose, no device is told to have failed
  pub calm : IsCalm input before after → IsFailure end → ⊥
  -- an input over the limit, unless its count rose
  pub long : (text : List ℕ) → input.left ≡ Some text → INPUT_LIMIT < length text
      → DidNotRise input.faults input.faults_now
      → OrLacksMemory (end ≡ ending.TooLong INPUT_LIMIT) end
  -- an input that is no package, unless its count rose: its fault is told
  pub no_package : (text : List ℕ) (error : TreeError) → IsInput input.left text
      → DidNotRise input.faults input.faults_now → HasTreeFault text error
      → OrLacksMemory (Tells error end) end
  -- an input of which a list passes its limit, unless its count rose
  pub too_many : (text : List ℕ) (limit : ℕ) → IsInput input.left text
      → DidNotRise input.faults input.faults_now → PassesLimit text limit
      → OrLacksMemory (end ≡ ending.TooLong limit) end
  -- an input that is a network, where no count rose
  pub up : (text : List ℕ) (network : Package) → IsCalm input before after
      → IsInput input.left text → IsNetwork text network → OrLacksMemory (end ≡ ending.Done) end
  -- and where the run was not cut short, its status is by whether the kernel holds what is wanted
  pub due : (text : List ℕ) (network : Package) → IsInput input.left text → IsNetwork text network
      → (IsCutShort end → ⊥) → IsKernelFailed end ↔ (HoldsWanted devices network after → ⊥)
  pub nothing_due : (text : List ℕ) (network : Package) → IsInput input.left text
      → IsNetwork text network → (IsCutShort end → ⊥)
      → (end ≡ ending.Done) ↔ HoldsWanted devices network after
