-- What the functions of the crate answer.
use Rattle.std.specs.Prelude.{ℕ, ◌≡◌, ◌⊎◌, Bool, true, false, List, [], ◌∷◌, Option, Some, None, Result, Ok, Err}
use Rattle.std.specs.List.{AllByRecursion}
use Rattle.std.specs.Option.{ok_or}
use Rattle.plane_words.specs.Causes.{Rose}
use Rattle.plane_disk.specs.View.{View}
use Rattle.snap_disk.specs.Images.{SameDisk}
use Rattle.snap_disk.specs.declared.snap_error.SnapError.{SnapError}
use Rattle.snap_disk.specs.declared.snap_error.SnapError.TheVariants as snap_error
use Rattle.uci_text.specs.declared.text_error.TextError.{TextError}
use Rattle.uci_tree.specs.declared.fault.Fault.{Fault}
use Rattle.uci_tree.specs.declared.tree_error.TreeError.{TreeError}
use Rattle.uci_tree.specs.Fault.{fault_of, fault_of_text}
use Rattle.uci_delta.specs.declared.delta_error.DeltaError.{DeltaError}
use Rattle.uci_delta.specs.declared.delta_error.DeltaError.TheVariants as delta_error
use Rattle.uci_delta.specs.Shape.{HasShape}
use Rattle.uci_staged.specs.declared.change.StagedChange.{StagedChange}
use Rattle.uci_staged.specs.Kept.{Follows}
use Rattle.uci_store.specs.declared.store.Store.{Store}
use Rattle.uci_store.specs.declared.store_error.StoreError.{StoreError}
use Rattle.uci_store.specs.declared.store_error.StoreError.TheVariants as store_error
use Rattle.uci_store.specs.Store.{names_of, snap_of, has_failed, IsOnFiles, IsOnStaged}
use Rattle.uci_cli.specs.declared.refusal.Refusal.{Refusal}
use Rattle.uci_cli.specs.declared.refusal.Refusal.TheVariants.{NotFound, Invalid, Duplicate, Waiting, NoPackage, Parse}
use Rattle.uci_cli.specs.declared.refusal.Refusal.TheVariants.{TooLarge}
use Rattle.uci_tool.specs.declared.stop.Stop.{Stop}
use Rattle.uci_tool.specs.declared.stop.Stop.TheVariants as stop
use Rattle.uci_tool.specs.declared.texts.Printed.{Printed}
use Rattle.uci_tool.specs.declared.report.Report.{Report}
use Rattle.uci_tool.specs.Folder.{Folder}
use Rattle.uci_tool.specs.Line.{Carried, told_of}
use Rattle.uci_tool.specs.Staging.{Effect}

-- what stops a command that the store has refused
abbrev pub stop_of_fault : Option Fault → Stop
stop_of_fault None = stop.Memory
stop_of_fault (Some fault) = stop.Refused (Parse fault)

abbrev pub stop_of_tree : TreeError → Stop
stop_of_tree error = stop_of_fault (fault_of error)

abbrev pub stop_of_text : TextError → Stop
stop_of_text error = stop_of_fault (fault_of_text error)

abbrev pub stop_of_delta : DeltaError → Stop
stop_of_delta delta_error.NotFound = stop.Refused NotFound
stop_of_delta delta_error.Invalid = stop.Refused Invalid
stop_of_delta delta_error.Duplicate = stop.Refused Duplicate
stop_of_delta delta_error.Memory = stop.Memory

abbrev pub stop_of_snap : SnapError → Stop
stop_of_snap (snap_error.Waiting deadline) = stop.Refused Waiting
stop_of_snap snap_error.Memory = stop.Memory
stop_of_snap _ = stop.DiskFailed

abbrev pub stop_of : StoreError → Stop
stop_of (store_error.Snap error) = stop_of_snap error
stop_of store_error.NoPackage = stop.Refused NoPackage
stop_of (store_error.Parse error) = stop_of_tree error
stop_of (store_error.Delta error) = stop_of_delta error
stop_of (store_error.TooLarge bytes) = stop.Refused TooLarge
stop_of (store_error.NotHolder holder) = stop.Refused Invalid
stop_of store_error.NothingStaged = stop.Refused Invalid
stop_of store_error.Memory = stop.Memory

-- the answer of a function that changes nothing: what is expected, or want of memory
abbrev pub Answers : {A : Type 0} → Result A Stop → Result A Refusal → Type 0
Answers (Ok value) expected = expected ≡ Ok value
Answers (Err (stop.Refused refusal)) expected = expected ≡ Err refusal
Answers (Err stop.DiskFailed) expected = ⊥
Answers (Err stop.Memory) expected = Unit {0}

-- the answer of a function that changes a folder as a whole or not at all
abbrev pub Changes : {X : Type 0} → Result X Stop → Folder → Folder → Result Folder Refusal → Type 0
Changes (Ok _) old new expected = expected ≡ Ok new
Changes (Err (stop.Refused refusal)) old new expected = (expected ≡ Err refusal) × (new ≡ old)
Changes (Err stop.DiskFailed) old new expected = Unit {0}
Changes (Err stop.Memory) old new expected = new ≡ old

-- what was looked up, where it is there
abbrev pub IsFound : {A X : Type 0} → Result (Option A) X → Result A Stop → Type 0
IsFound (Ok found) result = Answers result (ok_or found NotFound)
IsFound (Err _) result = result ≡ Err stop.Memory

-- the text of one package, as what was printed
abbrev pub IsAlone : Result (List ℕ) Stop → Result Printed Stop → Type 0
IsAlone (Ok text) result = result ≡ Ok (record { output = text; refusal = None })
IsAlone (Err (stop.Refused refusal)) result = result ≡ Ok (record { output = []; refusal = Some refusal })
IsAlone (Err stop) result = result ≡ Err stop

-- each change that is staged is one of a section or of an option
abbrev pub HaveShapes : List StagedChange → Type 0
HaveShapes changes = AllByRecursion (λ change. HasShape change.delta) changes

-- a store is closed where a disk failed
abbrev pub Closes : {X : Type 0} → Result X Stop → Bool → Type 0
Closes (Ok _) failed = failed ≡ false
Closes (Err (stop.Refused refusal)) failed = failed ≡ false
Closes (Err stop.DiskFailed) failed = failed ≡ true
Closes (Err stop.Memory) failed = failed ≡ false

-- what a command leaves that writes no files: the store on its disk of staged changes, which failed only where its
-- count rose
pub record Stages {X : Type 0} (result : Result X Stop) (old new : Store) (before after : View) : Type 0 where
  pub on : IsOnStaged new after
  pub follows : Follows before after
  pub names : names_of new ≡ names_of old
  pub snap : snap_of new ≡ snap_of old
  pub closes : Closes result (has_failed new)
  pub cause : result ≡ Err stop.DiskFailed → Rose before.faults after.faults

-- a store on its disk of staged changes, of which no call has failed
pub record IsReady (store : Store) (staged : View) : Type 0 where
  pub on : IsOnStaged store staged
  pub ready : has_failed store ≡ false

-- the answer of a function that prints and changes a folder, or does neither
abbrev pub Effects : Result (List ℕ) Stop → Folder → Folder → Result Effect Refusal → Type 0
Effects (Ok text) old new expected = expected ≡ Ok (record { output = text; after = new })
Effects (Err (stop.Refused refusal)) old new expected = (expected ≡ Err refusal) × (new ≡ old)
Effects (Err stop.DiskFailed) old new expected = Unit {0}
Effects (Err stop.Memory) old new expected = new ≡ old

-- a store on its two disks, of which no call has failed
pub record IsOpen (store : Store) (files_view staged_view : View) : Type 0 where
  pub files : IsOnFiles store files_view
  pub staged : IsOnStaged store staged_view
  pub ready : has_failed store ≡ false

-- what a command leaves that may write files: the store on its disks, of which one failed only where its count rose
pub record Writes {X : Type 0} (result : Result X Stop) (old new : Store)
    (files_before files_after staged_before staged_after : View) : Type 0 where
  pub files : IsOnFiles new files_after
  pub staged : IsOnStaged new staged_after
  pub names : names_of new ≡ names_of old
  pub same : SameDisk files_before files_after
  pub follows : Follows staged_before staged_after
  pub closes : Closes result (has_failed new)
  pub cause : result ≡ Err stop.DiskFailed
      → Rose files_before.faults files_after.faults ⊎ Rose staged_before.faults staged_after.faults

-- the new folder is one of these
abbrev pub IsAmong : Folder → List Folder → Type 0
IsAmong folder [] = ⊥
IsAmong folder (one ∷ others) = (folder ≡ one) ⊎ IsAmong folder others

-- the answer of a function that takes several steps: where it was cut short, the folder is one that it passes through
abbrev pub Carries : {A : Type 0} → Result A Stop → (A → Type 0) → Folder → List Folder → Type 0
Carries (Ok value) Is new passes = Is value
Carries (Err (stop.Refused refusal)) Is new passes = ⊥
Carries (Err stop.DiskFailed) Is new passes = Unit {0}
Carries (Err stop.Memory) Is new passes = IsAmong new passes

-- what a command reports, and the folder behind it
abbrev pub carried_as : Report → Folder → Carried
carried_as report after = record { output = report.output; told = report.told; refusal = report.refusal; after = after }

-- the report of a command that printed this
abbrev pub report_of : Printed → Report
report_of printed = record { output = printed.output; told = told_of printed.refusal; refusal = printed.refusal }

-- the answer of a command that prints and changes nothing
abbrev pub Prints : Result Report Stop → Printed → Type 0
Prints (Ok report) printed = report ≡ report_of printed
Prints (Err (stop.Refused refusal)) printed = ⊥
Prints (Err stop.DiskFailed) printed = ⊥
Prints (Err stop.Memory) printed = Unit {0}

abbrev pub text_alone : List ℕ → Printed
text_alone text = record { output = text; refusal = None }

abbrev pub refusal_alone : Refusal → Printed
refusal_alone refusal = record { output = []; refusal = Some refusal }

-- the report of what was printed of one package, or why there is none
abbrev pub ReportsText : Result (List ℕ) Stop → Result Report Stop → Type 0
ReportsText (Ok text) result = Prints result (text_alone text)
ReportsText (Err (stop.Refused refusal)) result = Prints result (refusal_alone refusal)
ReportsText (Err stop) result = result ≡ Err stop

-- the report of what was changed
abbrev pub ReportsChange : {X : Type 0} → Result X Stop → Result Report Stop → Type 0
ReportsChange (Ok _) result = result ≡ Ok (report_of (text_alone []))
ReportsChange (Err (stop.Refused refusal)) result = Prints result (refusal_alone refusal)
ReportsChange (Err stop) result = result ≡ Err stop

-- the report of what was printed and changed
abbrev pub ReportsEffect : Result (List ℕ) Stop → Result Report Stop → Type 0
ReportsEffect (Ok text) result = result ≡ Ok (report_of (text_alone text))
ReportsEffect (Err (stop.Refused refusal)) result = Prints result (refusal_alone refusal)
ReportsEffect (Err stop) result = result ≡ Err stop

-- how a run of commits ends that was stopped: with the refusal, or short
abbrev pub ended_by : Stop → Result (Option Refusal) Stop
ended_by (stop.Refused refusal) = Ok (Some refusal)
ended_by stop.DiskFailed = Err stop.DiskFailed
ended_by stop.Memory = Err stop.Memory
