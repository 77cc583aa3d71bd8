-- All that the lines of a script move.
use Rattle.std.specs.Prelude.{ℕ}
use Rattle.uci_tool.specs.Folder.{Folder}
use Rattle.rpc_session.specs.SessionList.{SessionList}
use Rattle.net_rules.specs.Moment.{Moment}
use Rattle.bus_clients.specs.Bus.{BusPart}
use Rattle.rpc_objects.specs.Calls.{Parts}

-- the moment in seconds, the files, the sessions, the message bus with the clients of the script, and the plane of
-- interfaces with what the kernel holds
pub record World : Type 0 where
  pub now : ℕ
  pub files : Folder
  pub sessions : SessionList
  pub bus : BusPart
  pub net : Moment

-- what a call of a local object moves
abbrev pub parts_of : World → Parts
parts_of world = record { files = world.files; sessions = world.sessions; net = world.net }

abbrev pub with_parts : World → Parts → World
with_parts world parts =
    record world { files = parts.files; sessions = parts.sessions; net = parts.net }
