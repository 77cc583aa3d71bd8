-- What the code made of a line before its settling.
use Rattle.std.specs.Prelude.{ℕ, ◌≡◌, ◌⊎◌, List, [], ◌∷◌, false, ⊤, Option, Some, None, Result, Ok, Err}
use Rattle.std.specs.Option.{option_map}
use Rattle.plane_words.specs.Causes.{Rose}
use Rattle.script_lines.specs.declared.script_line.ScriptLine.{ScriptLine}
use Rattle.script_lines.specs.declared.script_line.ScriptLine.TheVariants as line
use Rattle.uci_store.specs.declared.store.Store.{Store}
use Rattle.uci_tool.specs.declared.report.Report.{Report}
use Rattle.uci_tool.specs.Folder.{Folder, folder_of}
use Rattle.uci_tool.specs.Line.{Carried}
use Rattle.uci_tool.specs.Answers.{IsAmong}
use Rattle.uci_tool.specs.Passes.{uci_passes}
use Rattle.uci_tool.specs.Alone.{words_carried}
use Rattle.net_plane.specs.Network.{Network}
use Rattle.step_net.specs.declared.told.Told.{Told}
use Rattle.step_net.specs.NetLine.{NetLine}
use Rattle.step_net.specs.Moved.{Telling}
use Rattle.step_net.specs.Told as told
use Rattle.step_net.specs.Taken.{telling_in, Telled, Asks, IsTaken, IsLeft}
use Rattle.script_lines.specs.declared.line_error.LineError.TheVariants as error
use Rattle.plane_step.specs.declared.stop.Stop.{Stop}
use Rattle.plane_step.specs.declared.stop.Stop.TheVariants as stop
use Rattle.plane_step.specs.Ground.{Ground, ground_of}
use Rattle.plane_step.specs.FilesMoved.{files_moved, at_moved, folder_after, IsOneOf}
use Rattle.plane_step.specs.Means.{Means, AtAsks, line_error}
use Rattle.plane_step.specs.Faults.{DiskFaults, DiskRose}
use Rattle.step_net.specs.ReloadTaken.{IsTakenAlone, IsHaltedAlone}

-- the plane in front of a line
pub record Front : Type 0 where
  pub now : ℕ
  pub store : Store
  pub net : Network

abbrev pub ground_at : Front → Ground
ground_at front = ground_of front.now front.store front.net

-- what is known of the line: the plane in front of it, its number in the script, and what was read
pub record Read : Type 0 where
  pub front : Front
  pub number : ℕ
  pub line : Option ScriptLine

-- the plane behind it, but for its settling, with what the kernel was asked
pub record Behind : Type 0 where
  pub now : ℕ
  pub store : Store
  pub net : Network
  pub kernel : Telled

-- the line was acted on, and this is to be told of it
pub record IsDone (read : Read) (behind : Behind) (told : Told) : Type 0 where
  pub act : NetLine
  pub means : Means (ground_at read.front) read.number read.line act
  pub moment : behind.now ≡ (files_moved read.front.now (folder_of read.front.store) read.line).now
  pub files : folder_of behind.store
      ≡ (files_moved read.front.now (folder_of read.front.store) read.line).after
  pub taken : IsTaken act read.front.net behind.net behind.kernel told

-- There was no memory, before the plane of interfaces was asked or while it was.
pub data IsNetUndone (read : Read) (net : Network) (kernel : Telled) : Type 0 where
  unasked : net ≡ read.front.net → Asks [] false kernel → IsNetUndone read net kernel
  asked : (act : NetLine) → Means (ground_at read.front) read.number read.line act
      → IsLeft act read.front.net net kernel → IsNetUndone read net kernel

-- The folder is then one that the line passes through.
pub record IsUndone (read : Read) (behind : Behind) : Type 0 where
  pub net : IsNetUndone read behind.net behind.kernel
  pub files : IsOneOf (folder_of behind.store)
      (files_moved read.front.now (folder_of read.front.store) read.line)

-- A disk failed, and the plane of interfaces was asked nothing.
pub record IsFailed (read : Read) (behind : Behind) (disks : DiskFaults) : Type 0 where
  pub cause : DiskRose disks
  pub net : behind.net ≡ read.front.net
  pub requests : Asks [] false behind.kernel

abbrev pub Does : Read → Behind → DiskFaults → Result Told Stop → Type 0
Does read behind disks (Ok told) = IsDone read behind told
Does read behind disks (Err stop.WriteFailed) = ⊥
Does read behind disks (Err stop.DiskFailed) = IsFailed read behind disks
Does read behind disks (Err stop.Memory) = IsUndone read behind

-- of a line that leaves the moment and the files
pub record IsNetDone (read : Read) (net : Network) (kernel : Telled) (told : Told) : Type 0 where
  pub act : NetLine
  pub means : Means (ground_at read.front) read.number read.line act
  pub taken : IsTaken act read.front.net net kernel told

-- the line is none that moves the moment or the files
abbrev pub IsOfNet : ScriptLine → Type 0
IsOfNet (line.At moment) = ⊥
IsOfNet (line.Uci words) = ⊥
IsOfNet _ = ⊤

-- want of memory stops the script
abbrev pub or_memory : {M : Type 0} → Result Told M → Result Told Stop
or_memory (Ok told) = Ok told
or_memory (Err lacks) = Err stop.Memory

abbrev pub NetDoes : {M : Type 0} → Read → Network → Telled → Result Told M → Type 0
NetDoes read net kernel (Ok told) = IsNetDone read net kernel told
NetDoes read net kernel (Err lacks) = IsNetUndone read net kernel

-- The moment becomes this one, or the line is refused. The files follow.
pub record HasGone (next : ℕ) (front : Front) (now : ℕ) (store : Store) (net : Network) (told : Told)
    : Type 0 where
  pub act : NetLine
  pub requests : AtAsks (ground_at front) next act
  pub taken : IsTakenAlone act front.net net told
  pub moment : now ≡ (at_moved front.now (folder_of front.store) next).now
  pub files : folder_of store ≡ (at_moved front.now (folder_of front.store) next).after

-- There was no memory for what is to be told, or for loading the files.
pub record HasStopped (next : ℕ) (front : Front) (store : Store) (left : Network) : Type 0 where
  pub net : (left ≡ front.net)
      ⊎ ((act : NetLine) × AtAsks (ground_at front) next act × IsHaltedAlone act front.net left)
  pub files : IsOneOf (folder_of store) (at_moved front.now (folder_of front.store) next)

abbrev pub GoesTo : ℕ → Front → ℕ → Store → Network → ℕ → ℕ → Result Told Stop → Type 0
GoesTo next front now store net faults faults_now (Ok told) = HasGone next front now store net told
GoesTo next front now store net faults faults_now (Err stop.WriteFailed) = ⊥
GoesTo next front now store net faults faults_now (Err stop.DiskFailed) =
    Rose faults faults_now × (net ≡ front.net)
GoesTo next front now store net faults faults_now (Err stop.Memory) =
    HasStopped next front store net

-- what is told of a command of `uci`
abbrev pub telling_of_uci : ℕ → Option Carried → Telling
telling_of_uci number None = told.refused (error.BadLine number)
telling_of_uci number (Some done) = told.telling done.output (option_map line_error done.refusal)

-- a command of `uci` was carried out, with an empty input
pub record HasCarried (number : ℕ) (words : List (List ℕ)) (before after : Folder) (told : Told)
    : Type 0 where
  pub telling : telling_in told ≡ telling_of_uci number (words_carried words before)
  pub files : after ≡ folder_after before (words_carried words before)

-- what is told of a report, where there is memory
abbrev pub telling_of_report : ℕ → Option Report → Telling
telling_of_report number None = told.refused (error.BadLine number)
telling_of_report number (Some report) =
    told.telling report.output (option_map line_error report.refusal)

abbrev pub TellsReport : ℕ → Option Report → Result Told Stop → Type 0
TellsReport number report (Ok told) = telling_in told ≡ telling_of_report number report
TellsReport number report (Err why) = why ≡ stop.Memory

abbrev pub CarriesUci : ℕ → List (List ℕ) → Folder → Folder → DiskFaults → Result Told Stop → Type 0
CarriesUci number words before after disks (Ok told) = HasCarried number words before after told
CarriesUci number words before after disks (Err stop.WriteFailed) = ⊥
CarriesUci number words before after disks (Err stop.DiskFailed) = DiskRose disks
CarriesUci number words before after disks (Err stop.Memory) =
    IsAmong after (folder_after before (words_carried words before) ∷ uci_passes words before [])
