-- How a run of a script ends, and what it leaves.
use Rattle.std.specs.Prelude.{ℕ, ◌≡◌, List, drop, Some, true, false, ⊤}
use Rattle.plane_words.specs.Causes.{Rose}
use Rattle.plane_disk.specs.Files.{Files}
use Rattle.plane_disk.specs.View.{View}
use Rattle.plane_io.specs.Source.{HadMoreThan}
use Rattle.kern_calls.specs.Due.{due_count}
use Rattle.snap_disk.specs.Opened.{PassesLimit}
use Rattle.snap_disk.specs.Opening.{HasNoReading}
use Rattle.uci_text.specs.declared.line.Line.{Line}
use Rattle.uci_tree.specs.declared.package.Package.{Package}
use Rattle.uci_tool.specs.Ends.{Stream}
use Rattle.uci_tool.specs.Folder.{Folder}
use Rattle.uci_tool.specs.Folders.{IsFound, IsHeld, StopsAsFound}
use Rattle.net_conf.specs.Conf.{conf}
use Rattle.net_conf.specs.Limits.{passed_limit}
use Rattle.net_rules.specs.Moment.{Moment, want_of, devices_of}
use Rattle.net_settle.specs.Outside.{Outside}
use Rattle.step_net.specs.Effects.{Leaves, LeavesInPart}
use Rattle.step_net.specs.Finished.{IsOpenedInPart}
use Rattle.bus_lines.specs.World.{World}
use Rattle.plane_outside.specs.Supply.{Supply, Uses}
use Rattle.step_net.specs.Loaded.{network_name, wireless_name, IsLoaded}
use Rattle.plane_step.specs.Kept.{DiskFaults, DiskRose, faults_of}
use Rattle.plane_step.specs.Moved.{Luck, Moved, failures}
use Rattle.plane_step.specs.Ran.{StopsIn, CutShort, FailedOnDisk, LackedMemory}
use Rattle.plane_run.specs.declared.run_end.RunEnd.{RunEnd}
use Rattle.plane_run.specs.declared.run_end.RunEnd.TheVariants as end
use Rattle.plane_run.specs.declared.script.Script.{Script}
use Rattle.plane_run.specs.declared.script.Script.TheVariants.{Lines, Bad}
use Rattle.plane_run.specs.declared.script.TheConstants.{SCRIPT_LIMIT}
use Rattle.plane_run.specs.Opening.{First, HasRows, HasOpened, LacksRows, world_of, loaded_net, opening_requests}
use Rattle.plane_run.specs.Script.{HasRead, Gives, answered}
use Rattle.plane_run.specs.Stops.{ImagesOf}

-- ---- behind the opening

-- the random words to come, the input, the counts of the disks, what the disks hold now, what is said of the images of
-- the files where so many lines were begun, and the output and the kernel then and now
pub record Stage : Type 1 where
  pub words : Supply
  pub input : Stream
  pub disks : DiskFaults
  pub files_now : View
  pub staged_now : View
  pub images : List Line → Type 0
  pub between : Outside
  pub after : Outside

-- the disks hold this folder now, so that each image of the files opens as it
abbrev pub Holds : Stage → Folder → Type 0
Holds stage folder = IsHeld stage.files_now stage.staged_now folder

-- The script was read to its end, and then carried out to its end, with some luck. The random words that it used up are
-- the next ones.
pub record HasEnded (start : World) (stage : Stage) (Ends : Moved → Type 0) : Type 0 where
  pub script : Script
  pub read : HasRead stage.input script
  pub lucks : List Luck
  pub last : Moved
  pub gives : Gives start script lucks last
  pub words : Supply
  pub used : Uses stage.words last.words words
  pub left : Leaves last.effects (failures lucks) stage.between stage.after
  pub objects : stage.after.objects ≡ last.world.net.held
  pub devices : stage.after.devices ≡ devices_of last.world.net.inputs
  pub held : Holds stage last.world.files
  pub ends : Ends last

-- the kernel holds what is wanted
abbrev pub IsSettled : Moment → Type 0
IsSettled net = net.held ≡ want_of net.inputs

-- every line was ok, or not, and nothing is due
abbrev pub IsDone : Moved → Type 0
IsDone last = (last.is_ok ≡ true) × IsSettled last.world.net

abbrev pub IsRefused : Moved → Type 0
IsRefused last = (last.is_ok ≡ false) × IsSettled last.world.net

-- so many objects are due
abbrev pub IsDue : ℕ → Moved → Type 0
IsDue left last =
    (due_count last.world.net.held (want_of last.world.net.inputs) ≡ left)
    × (IsSettled last.world.net → ⊥)

-- nothing was done outside but reading
pub record IsAlone (start : World) (stage : Stage) : Type 0 where
  pub same : stage.after ≡ stage.between
  pub held : Holds stage start.files

-- the script was read, and it stopped so in one of its lines
pub record StopsInLine (start : World) (stage : Stage)
    (Stops : Line → World → Outside → Outside → Type 0) : Type 0 where
  pub lines : List Line
  pub read : HasRead stage.input (Lines lines)
  pub stops : StopsIn Stops stage.images start lines stage.words stage.between stage.after

-- The output failed, at the one answer to a script without lines or in a line.
pub data WasCut (start : World) (stage : Stage) : Type 0 where
  in_answer : (line : ℕ) → HasRead stage.input (Bad line)
      → LeavesInPart (answered start line).effects 0 stage.between stage.after
      → stage.after.objects ≡ stage.between.objects
      → Rose stage.between.out_faults stage.after.out_faults → Holds stage start.files
      → WasCut start stage
  in_line : (now : World)
      → StopsInLine start stage (λ line world before after. CutShort line world now before after)
      → Holds stage now.files → WasCut start stage

-- There was no memory, before the first line or in a line.
pub data HasLacked (start : World) (stage : Stage) : Type 0 where
  in_front : IsAlone start stage → HasLacked start stage
  in_line : (now : World)
      → StopsInLine start stage (λ line world before after. LackedMemory line world now before after)
      → Holds stage now.files → HasLacked start stage

-- how a run goes on behind its opening, and why it ends so
abbrev pub GoesOn : World → Stage → RunEnd → Type 0
GoesOn start stage end.Done = HasEnded start stage IsDone
GoesOn start stage end.Refused = HasEnded start stage IsRefused
GoesOn start stage (end.KernelFailed left) = HasEnded start stage (IsDue left)
GoesOn start stage end.ReadFailed =
    Rose stage.input.faults stage.input.faults_now × IsAlone start stage
GoesOn start stage end.WriteFailed = WasCut start stage
GoesOn start stage end.DiskFailed = StopsInLine start stage
    (λ line world before after. FailedOnDisk line world stage.disks before after)
GoesOn start stage end.OutOfMemory = HasLacked start stage
GoesOn start stage (end.TooLong limit) = (limit ≡ SCRIPT_LIMIT)
    × HadMoreThan SCRIPT_LIMIT stage.input.old × IsAlone start stage
GoesOn start stage _ = ⊥

-- ---- the whole run

-- what a run sees: what it finds, the input, and what it leaves
pub record Seen : Type 1 where
  pub first : First
  pub input : Stream
  pub files_now : View
  pub staged_now : View
  pub after : Outside

abbrev pub disks_of : Seen → DiskFaults
disks_of seen = faults_of seen.first.files seen.files_now seen.first.staged seen.staged_now

-- behind the opening that led to this world
abbrev pub stage_of : Seen → World → Outside → Stage
stage_of seen start between = record {
  words = seen.first.words;
  input = seen.input;
  disks = disks_of seen;
  files_now = seen.files_now;
  staged_now = seen.staged_now;
  images = ImagesOf seen.first seen.files_now start;
  between = between;
  after = seen.after;
}

-- the folder that was found
abbrev pub Finds : Seen → Folder → Type 0
Finds seen folder = IsFound seen.first.files seen.first.staged seen.first.now folder

abbrev pub StillHolds : Seen → Folder → Type 0
StillHolds seen folder = IsHeld seen.files_now seen.staged_now folder

-- The folder passes a limit, or a list of its rows does.
pub data PassesSome (seen : Seen) (limit : ℕ) : Type 0 where
  of_folder : ((read : Files) → seen.first.files.seen ≡ Some read → PassesLimit (drop 2 read) limit)
      → PassesSome seen limit
  of_rows : (folder : Folder) → Finds seen folder → (network wireless : Package)
      → IsLoaded folder network_name network → IsLoaded folder wireless_name wireless
      → passed_limit (conf network wireless) ≡ Some limit → StillHolds seen folder
      → PassesSome seen limit

-- why the plane was not opened
abbrev pub NotOpened : Seen → RunEnd → Type 0
NotOpened seen end.DiskFailed = DiskRose (disks_of seen)
NotOpened seen end.OutOfMemory = ⊤
NotOpened seen (end.Unreadable row_package fault) =
    (folder : Folder) × Finds seen folder × LacksRows folder fault row_package × StillHolds seen folder
NotOpened seen (end.TooLong limit) = PassesSome seen limit
NotOpened seen (end.BadSnapshot byte) = (read : Files) → seen.first.files.seen ≡ Some read
    → HasNoReading seen.first.files.names read seen.first.now byte
NotOpened seen _ = ⊥

-- so many objects are due
abbrev pub IsKernelFailed : RunEnd → Type 0
IsKernelFailed (end.KernelFailed left) = ⊤
IsKernelFailed _ = ⊥

-- Why a run ends so, and what it leaves. The plane was not opened, and nothing was done outside but reading and
-- settling what a stop had left of the files. Or the output failed in the opening. Or the plane was opened, and the run
-- went on; where objects are due, the kernel failed in the run.
pub data RunEnds (seen : Seen) (ending : RunEnd) : Type 0 where
  not_opened : NotOpened seen ending → seen.after ≡ seen.first.before
      → StopsAsFound seen.first.now seen.first.files seen.files_now → RunEnds seen ending
  cut_in_opening : ending ≡ end.WriteFailed → (folder : Folder) → Finds seen folder
      → (network wireless : Package) → HasRows folder network wireless
      → IsOpenedInPart (loaded_net network wireless) (opening_requests network wireless)
      seen.first.before seen.after
      → StillHolds seen folder → RunEnds seen ending
  opened : (between : Outside) (opening : HasOpened seen.first between)
      → GoesOn (world_of seen.first between opening)
      (stage_of seen (world_of seen.first between opening) between) ending
      → (IsKernelFailed ending → Rose seen.first.before.kernel_faults seen.after.kernel_faults)
      → RunEnds seen ending
