-- The opening of a run: the rows of a folder are loaded into an empty plane, which then settles on them and tells its
-- asks.
use Rattle.std.specs.Prelude.{ℕ, ◌≡◌, List, Option, None, is_some}
use Rattle.std.specs.FinSet as set
use Rattle.plane_disk.specs.View.{View}
use Rattle.ubus_acl.specs.declared.acl.Acl.{Acl}
use Rattle.rpc_session.specs.Sessions.{start as first_sessions}
use Rattle.bus_clients.specs.Bus.{begun}
use Rattle.uci_tree.specs.declared.fault.Fault.{Fault}
use Rattle.uci_tree.specs.declared.package.Package.{Package}
use Rattle.uci_tool.specs.Folder.{Folder}
use Rattle.uci_tool.specs.Folders.{IsFound}
use Rattle.net_conf.specs.Conf.{conf}
use Rattle.net_conf.specs.Limits.{passed_limit}
use Rattle.net_rules.specs.declared.event.Event.{Event}
use Rattle.net_rules.specs.declared.event.Event.TheVariants as event
use Rattle.net_rules.specs.Inputs.{no_inputs}
use Rattle.net_rules.specs.Moment.{Moment, moment_after}
use Rattle.net_settle.specs.Outside.{Outside}
use Rattle.step_net.specs.Acted.{requests_after}
use Rattle.step_net.specs.Effects.{Leaves}
use Rattle.step_net.specs.Moved as net
use Rattle.step_net.specs.Moved.{once_if}
use Rattle.bus_lines.specs.World.{World}
use Rattle.plane_outside.specs.Supply.{Supply}
use Rattle.step_net.specs.Loaded.{network_name, wireless_name, IsLoaded, DoesNotLoad}
use Rattle.plane_run.specs.declared.run_end.RowPackage.{RowPackage}
use Rattle.plane_run.specs.declared.run_end.RowPackage.TheVariants.{Network, Wireless}

-- no rows, no devices, nothing held
abbrev pub empty_net : Moment
empty_net = record { inputs = no_inputs; held = set.empty }

-- the event that the rows of the two packages are loaded
abbrev pub loading : Package → Package → Event
loading network wireless = event.Load (conf network wireless)

-- the plane with these rows, before it settles, and the lines of its requests
abbrev pub loaded_net : Package → Package → Moment
loaded_net network wireless = moment_after empty_net (loading network wireless)

abbrev pub opening_requests : Package → Package → List ℕ
opening_requests network wireless = requests_after no_inputs (loading network wireless)

-- the packages of the folder, as they are committed, and their lists are within their limits
pub record HasRows (folder : Folder) (network wireless : Package) : Type 0 where
  pub of_network : IsLoaded folder network_name network
  pub of_wireless : IsLoaded folder wireless_name wireless
  pub within : passed_limit (conf network wireless) ≡ None

-- what the opening comes to, with its luck
abbrev pub opened : Package → Package → Option ℕ → net.Moved
opened network wireless failed_after =
    net.opening (loaded_net network wireless) (opening_requests network wireless) failed_after

-- the world behind it: the default session is alone, and the bus has this access list and no client
abbrev pub start_world : ℕ → Acl → Folder → Package → Package → Option ℕ → World
start_world now acl folder network wireless failed_after = record {
  now = now;
  files = folder;
  sessions = first_sessions;
  bus = begun acl;
  net = (opened network wireless failed_after).net;
}

-- what a run finds: the moment, the access list of the bus, the random words to come, the disks of the packages and of
-- staged changes, the output and the kernel
pub record First : Type 1 where
  pub now : ℕ
  pub acl : Acl
  pub words : Supply
  pub files : View
  pub staged : View
  pub before : Outside

-- the folder was opened, its rows were loaded, and the plane settled on them with some luck
pub record HasOpened (first : First) (between : Outside) : Type 0 where
  pub folder : Folder
  pub found : IsFound first.files first.staged first.now folder
  pub network : Package
  pub wireless : Package
  pub rows : HasRows folder network wireless
  pub failed_after : Option ℕ
  pub left : Leaves (opened network wireless failed_after).effects (once_if (is_some failed_after))
      first.before between
  pub objects : between.objects ≡ (opened network wireless failed_after).net.held

abbrev pub world_of : (first : First) → (between : Outside) → HasOpened first between → World
world_of first between opening =
    start_world first.now first.acl opening.folder opening.network opening.wireless
    opening.failed_after

-- one of the two packages does not read; where both do not, it is `network`
pub data LacksRows (folder : Folder) (fault : Fault) : RowPackage → Type 0 where
  no_network : DoesNotLoad folder network_name fault → LacksRows folder fault Network
  no_wireless : (network : Package) → IsLoaded folder network_name network
      → DoesNotLoad folder wireless_name fault → LacksRows folder fault Wireless
