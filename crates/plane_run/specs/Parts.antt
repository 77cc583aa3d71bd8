-- How the parts of a run answer.
use Rattle.std.specs.Prelude.{ℕ, ◌≡◌, ◌≤◌, List, Bool, Option, Some, None, is_some, IsSomeAnd, Result, Ok, Err, nat_lt}
use Rattle.std.specs.Prelude.{⊤, if◌then◌else◌}
use Rattle.plane_words.specs.Causes.{Rose}
use Rattle.plane_words.specs.Growth.{Grows, GrowsByFront}
use Rattle.plane_disk.specs.View.{View}
use Rattle.plane_io.specs.Source.{HadMoreThan}
use Rattle.snap_disk.specs.Images.{SameDisk}
use Rattle.snap_disk.specs.declared.snap_error.SnapError.TheVariants as snap_error
use Rattle.uci_text.specs.declared.line.Line.{Line}
use Rattle.uci_text.specs.declared.text_error.TextError.{TextError}
use Rattle.uci_tree.specs.declared.package.Package.{Package}
use Rattle.uci_tree.specs.Fault.{fault_of_text}
use Rattle.uci_staged.specs.Kept.{Follows}
use Rattle.uci_store.specs.declared.store.Store.{Store}
use Rattle.uci_store.specs.declared.store_error.StoreError.{StoreError}
use Rattle.uci_store.specs.declared.store_error.StoreError.TheVariants as store_error
use Rattle.uci_tool.specs.Ends.{Stream}
use Rattle.uci_tool.specs.Folder.{Folder, folder_of}
use Rattle.uci_tool.specs.Folders.{IsHeld}
use Rattle.net_conf.specs.Conf.{conf}
use Rattle.net_conf.specs.Limits.{passed_limit}
use Rattle.net_rules.specs.Moment.{Moment, devices_of}
use Rattle.net_settle.specs.Outside.{Outside}
use Rattle.step_net.specs.Effects.{Leaves}
use Rattle.ubus_acl.specs.declared.acl.Acl.{Acl}
use Rattle.bus_lines.specs.World.{World}
use Rattle.plane_outside.specs.Supply.{Supply, Uses}
use Rattle.step_net.specs.Finished.{IsOpened, IsOpenedInPart}
use Rattle.step_net.specs.Moved.{once_if}
use Rattle.plane_step.specs.declared.stop.Stop.{Stop}
use Rattle.plane_step.specs.declared.stop.Stop.TheVariants as stop
use Rattle.step_net.specs.Loaded.{network_name, wireless_name, IsLoaded, DoesNotLoad}
use Rattle.plane_step.specs.Kept.{DiskFaults}
use Rattle.plane_step.specs.Moved.{Luck, Moved, Folds, failures}
use Rattle.plane_step.specs.Ran.{StopsIn, CutShort, FailedOnDisk, LackedMemory}
use Rattle.plane_run.specs.declared.run_end.RowPackage.{RowPackage}
use Rattle.plane_run.specs.declared.run_end.RunEnd.{RunEnd}
use Rattle.plane_run.specs.declared.run_end.RunEnd.TheVariants as end
use Rattle.plane_run.specs.declared.script.Script.{Script}
use Rattle.plane_run.specs.declared.script.Script.TheVariants.{Lines, Bad}
use Rattle.plane_run.specs.declared.script.TheConstants.{SCRIPT_LIMIT}
use Rattle.plane_run.specs.RunEnd.{name_of}
use Rattle.plane_run.specs.Opening.{HasRows, LacksRows, loaded_net, opening_requests, start_world}
use Rattle.plane_run.specs.Opening.{opened as rows_opened}
use Rattle.plane_run.specs.Script.{bad_answer}
use Rattle.plane_run.specs.Run.{Stage, Holds, IsDone, IsRefused, IsDue, GoesOn, IsKernelFailed}

-- why no script was read
abbrev pub ReadRefuses : Stream → RunEnd → Type 0
ReadRefuses input end.ReadFailed = Rose input.faults input.faults_now
ReadRefuses input (end.TooLong limit) =
    (limit ≡ SCRIPT_LIMIT) × HadMoreThan SCRIPT_LIMIT input.old
ReadRefuses input end.OutOfMemory = ⊤
ReadRefuses input _ = ⊥

-- a text that has no lines has a fault, or there was no memory
abbrev pub ReadsFault : TextError → Result Script RunEnd → Type 0
ReadsFault error (Ok (Bad line)) = IsSomeAnd (fault_of_text error) (λ fault. fault.line ≡ line)
ReadsFault error (Ok (Lines lines)) = ⊥
ReadsFault error (Err end.OutOfMemory) = ⊤
ReadsFault error (Err _) = ⊥

-- why a package was not loaded
abbrev pub LoadRefuses : Folder → RowPackage → RunEnd → Type 0
LoadRefuses folder which (end.Unreadable row_package fault) =
    (row_package ≡ which) × DoesNotLoad folder (name_of which) fault
LoadRefuses folder which end.OutOfMemory = ⊤
LoadRefuses folder which _ = ⊥

-- why the two were not
abbrev pub RowsRefuse : Folder → RunEnd → Type 0
RowsRefuse folder (end.Unreadable row_package fault) = LacksRows folder fault row_package
RowsRefuse folder end.OutOfMemory = ⊤
RowsRefuse folder _ = ⊥

-- why the rows were not loaded into the plane
abbrev pub RowsPass : Package → Package → RunEnd → Type 0
RowsPass network wireless (end.TooLong limit) = passed_limit (conf network wireless) ≡ Some limit
RowsPass network wireless end.OutOfMemory = ⊤
RowsPass network wireless _ = ⊥

-- the rows were loaded, and the plane settled on them; or why not
abbrev pub OpensNet : {X : Type 0} → Package → Package → Moment → Outside → Outside
    → Result X RunEnd → Type 0
OpensNet network wireless now before after (Ok done) =
    (passed_limit (conf network wireless) ≡ None)
    × IsOpened (loaded_net network wireless) now (opening_requests network wireless) before after
OpensNet network wireless now before after (Err end.WriteFailed) =
    (passed_limit (conf network wireless) ≡ None)
    × IsOpenedInPart (loaded_net network wireless) (opening_requests network wireless) before after
OpensNet network wireless now before after (Err (end.TooLong limit)) =
    (passed_limit (conf network wireless) ≡ Some limit) × (after ≡ before)
OpensNet network wireless now before after (Err end.OutOfMemory) = after ≡ before
OpensNet network wireless now before after (Err _) = ⊥

-- the one answer to a script without lines was written; or why not
abbrev pub AnswersBad : {X : Type 0} → ℕ → Option (List ℕ) → Option (List ℕ) → ℕ → ℕ
    → Result X RunEnd → Type 0
AnswersBad line old new faults faults_now (Ok done) =
    Grows old new (bad_answer line) × (faults ≤ faults_now)
AnswersBad line old new faults faults_now (Err end.WriteFailed) =
    GrowsByFront old new (bad_answer line) × Rose faults faults_now × (faults ≤ faults_now)
AnswersBad line old new faults faults_now (Err end.OutOfMemory) =
    (new ≡ old) × (faults_now ≡ faults)
AnswersBad line old new faults faults_now (Err _) = ⊥

-- how a run ends whose lines were carried out, by whether each was ok and by how many objects are due
abbrev pub end_of : Bool → ℕ → RunEnd
end_of is_ok due =
    if nat_lt 0 due then end.KernelFailed due else
    if is_ok then end.Done else end.Refused

-- how one ends whose script stopped in a line
abbrev pub end_of_stop : Stop → RunEnd
end_of_stop stop.WriteFailed = end.WriteFailed
end_of_stop stop.DiskFailed = end.DiskFailed
end_of_stop stop.Memory = end.OutOfMemory

-- why the store refused to open
abbrev pub shut_of : StoreError → RunEnd
shut_of (store_error.Snap (snap_error.BadSnapshot byte)) = end.BadSnapshot byte
shut_of (store_error.Snap (snap_error.Limit number)) = end.TooLong number
shut_of (store_error.Snap snap_error.Memory) = end.OutOfMemory
shut_of store_error.Memory = end.OutOfMemory
shut_of _ = end.DiskFailed

-- the same disks
pub record KeepsDisks (files files_now staged staged_now : View) : Type 0 where
  pub same : SameDisk files files_now
  pub follows : Follows staged staged_now

-- the lines were carried out to their end, with some luck
pub record LinesEnded (start : World) (lines : List Line) (stage : Stage) (Ends : Moved → Type 0)
    : Type 0 where
  pub lucks : List Luck
  pub last : Moved
  pub folds : Folds start lines lucks last
  pub words : Supply
  pub used : Uses stage.words last.words words
  pub left : Leaves last.effects (failures lucks) stage.between stage.after
  pub objects : stage.after.objects ≡ last.world.net.held
  pub devices : stage.after.devices ≡ devices_of last.world.net.inputs
  pub held : Holds stage last.world.files
  pub ends : Ends last

-- they stopped so in one of them
abbrev pub LinesStop : World → List Line → Stage → (Line → World → Outside → Outside → Type 0) → Type 0
LinesStop start lines stage Stops =
    StopsIn Stops stage.images start lines stage.words stage.between stage.after

-- how a run ends in which lines were carried out
abbrev pub LinesEnd : World → List Line → Stage → RunEnd → Type 0
LinesEnd start lines stage end.Done = LinesEnded start lines stage IsDone
LinesEnd start lines stage end.Refused = LinesEnded start lines stage IsRefused
LinesEnd start lines stage (end.KernelFailed left) = LinesEnded start lines stage (IsDue left)
LinesEnd start lines stage end.WriteFailed = (now : World)
    × LinesStop start lines stage (λ line world before after. CutShort line world now before after)
    × Holds stage now.files
LinesEnd start lines stage end.DiskFailed =
    LinesStop start lines stage
    (λ line world before after. FailedOnDisk line world stage.disks before after)
LinesEnd start lines stage end.OutOfMemory = (now : World)
    × LinesStop start lines stage
    (λ line world before after. LackedMemory line world now before after)
    × Holds stage now.files
LinesEnd start lines stage _ = ⊥

-- A run over an open store: its moment, the access list of the bus and the random words to come, the store and the
-- input, the counts of the disks and what they hold now, and the output and the kernel then and now. `stays` says that
-- the disk of packages is the value that it was, and `images` what its images are where so many lines were begun in
-- this world.
pub record Over : Type 1 where
  pub now : ℕ
  pub acl : Acl
  pub words : Supply
  pub store : Store
  pub input : Stream
  pub disks : DiskFaults
  pub stays : Type 0
  pub images : World → List Line → Type 0
  pub files_now : View
  pub staged_now : View
  pub before : Outside
  pub after : Outside

abbrev pub folder_in : Over → Folder
folder_in over = folder_of over.store

abbrev pub world_in : Over → Package → Package → Option ℕ → World
world_in over = start_world over.now over.acl (folder_in over)

-- behind the opening that led to this world
abbrev pub stage_in : Over → World → Outside → Stage
stage_in over start between = record {
  words = over.words;
  input = over.input;
  disks = over.disks;
  files_now = over.files_now;
  staged_now = over.staged_now;
  images = over.images start;
  between = between;
  after = over.after;
}

-- the disks hold the folder that was found
abbrev pub StillHolds : Over → Type 0
StillHolds over = IsHeld over.files_now over.staged_now (folder_in over)

-- How it ends. The rows do not load, or pass a limit, or there was no memory; or the output failed in the opening; or
-- the plane was opened, and the run went on.
pub data RunsOver (over : Over) (ending : RunEnd) : Type 0 where
  no_rows : RowsRefuse (folder_in over) ending → over.after ≡ over.before → over.stays
      → StillHolds over → RunsOver over ending
  too_long : (network wireless : Package) → IsLoaded (folder_in over) network_name network
      → IsLoaded (folder_in over) wireless_name wireless → (limit : ℕ)
      → ending ≡ end.TooLong limit → passed_limit (conf network wireless) ≡ Some limit
      → over.after ≡ over.before → over.stays → StillHolds over → RunsOver over ending
  cut : ending ≡ end.WriteFailed → (network wireless : Package)
      → HasRows (folder_in over) network wireless
      → IsOpenedInPart (loaded_net network wireless) (opening_requests network wireless) over.before
      over.after
      → StillHolds over → RunsOver over ending
  opened : (between : Outside) (network wireless : Package)
      → HasRows (folder_in over) network wireless → (failed_after : Option ℕ)
      → Leaves (rows_opened network wireless failed_after).effects (once_if (is_some failed_after))
      over.before between
      → between.objects ≡ (rows_opened network wireless failed_after).net.held
      → GoesOn (world_in over network wireless failed_after)
      (stage_in over (world_in over network wireless failed_after) between) ending
      → (IsKernelFailed ending → Rose over.before.kernel_faults over.after.kernel_faults)
      → RunsOver over ending
