-- A plane with its files at a moment.
use Rattle.std.specs.Prelude.{ℕ}
use Rattle.uci_store.specs.declared.store.Store.{Store}
use Rattle.uci_tool.specs.Folder.{Folder, folder_of}
use Rattle.net_rules.specs.Moment.{Moment}
use Rattle.net_plane.specs.Network.{Network, moment_of}

-- the moment in seconds, the files, and the plane of interfaces with what the kernel holds
pub record Ground : Type 0 where
  pub now : ℕ
  pub files : Folder
  pub net : Moment

abbrev pub ground_of : ℕ → Store → Network → Ground
ground_of now store net = record { now = now; files = folder_of store; net = moment_of net }
