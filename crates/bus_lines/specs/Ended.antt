-- What the code made of lines of calls and clients.
use Rattle.std.specs.Prelude.{ℕ, ◌≡◌, List, ◌++◌, Bool, Result, Ok, Err}
use Rattle.std.specs.Option.{option_map}
use Rattle.plane_words.specs.Causes.{RoseBy}
use Rattle.kern_model.specs.declared.kernel.Asked.{Asked}
use Rattle.kern_model.specs.Kernel.{Records}
use Rattle.uci_store.specs.declared.store.Store.{Store}
use Rattle.uci_tool.specs.Folder.{Folder, folder_of}
use Rattle.net_plane.specs.Network.{Network, moment_of}
use Rattle.script_lines.specs.ErrorLine.{error_line}
use Rattle.step_net.specs.Moved.{failed_events}
use Rattle.step_net.specs.Taken.{Telled}
use Rattle.rpc_objects.specs.declared.uci_answer.CallStop.{CallStop}
use Rattle.rpc_objects.specs.declared.uci_answer.CallStop.TheVariants as stop
use Rattle.bus_clients.specs.Bus.{part_of}
use Rattle.rpc_objects.specs.Cut.{Cut, IsCutSo}
use Rattle.rpc_objects.specs.Kept.{DiskFaults, DiskRose}
use Rattle.bus_lines.specs.declared.callers.Callers.{Callers}
use Rattle.bus_lines.specs.declared.handled.Handled.{Handled}
use Rattle.bus_lines.specs.World.{World}
use Rattle.plane_outside.specs.Supply.{Supply, Uses}
use Rattle.bus_lines.specs.Did.{Did}

-- a world as the code keeps it
abbrev pub world_of : ℕ → Store → Callers → Network → World
world_of now store callers net = record {
  now = now;
  files = folder_of store;
  sessions = callers.sessions;
  bus = part_of callers.bus;
  net = moment_of net;
}

-- what is seen of the outside: the kernel, the random words to come and the faults of the disks
pub record Seen : Type 0 where
  pub kernel : Telled
  pub supply : Supply
  pub supply_now : Supply
  pub disks : DiskFaults

-- what the kernel was asked, and how often it failed
pub record AsksBy (asked : List Asked) (failures : List Bool) (kernel : Telled) : Type 0 where
  pub record_of : Records kernel.asked kernel.asked_now asked
  pub cause : RoseBy (failed_events failures) kernel.faults kernel.faults_now

-- the line did this, and this is to be told of it
pub record IsTold (did : Did) (failures : List Bool) (now : World) (seen : Seen) (told : Handled) : Type 0 where
  pub world : now ≡ did.world
  pub asked : AsksBy did.asked failures seen.kernel
  pub used : Uses seen.supply did.words seen.supply_now
  pub sent : told.sent ≡ did.sent
  pub shown : told.told.shown ≡ did.requests ++ did.reply
  pub refusal : told.told.refusal ≡ option_map error_line did.refusal

-- the line was carried out, with some luck: the random words at hand, and whether the kernel failed at its events
pub record IsDone (Does : List ℕ → List Bool → Did → Type 0) (now : World) (seen : Seen) (told : Handled) : Type 0 where
  pub words : List ℕ
  pub failures : List Bool
  pub did : Did
  pub does : Does words failures did
  pub is : IsTold did failures now seen told

-- there was no memory; the folder is one that the line passes through
pub record IsHalted (Cuts : Cut → Type 0) (Passes : Folder → Type 0) (now : World) (seen : Seen) : Type 0 where
  pub cut : Cut
  pub cuts : Cuts cut
  pub left : IsCutSo cut now.net seen.kernel
  pub files : Passes now.files

-- a disk failed
pub record HasFailed (Cuts : Cut → Type 0) (now : World) (seen : Seen) : Type 0 where
  pub cause : DiskRose seen.disks
  pub cut : Cut
  pub cuts : Cuts cut
  pub left : IsCutSo cut now.net seen.kernel

-- how a line ended that does this, passes through these folders, and may be cut so
abbrev pub Ends : (List ℕ → List Bool → Did → Type 0) → (Cut → Type 0) → (Folder → Type 0) → World → Seen
    → Result Handled CallStop → Type 0
Ends Does Cuts Passes now seen (Ok told) = IsDone Does now seen told
Ends Does Cuts Passes now seen (Err stop.DiskFailed) = HasFailed Cuts now seen
Ends Does Cuts Passes now seen (Err stop.Memory) = IsHalted Cuts Passes now seen
