-- What a reload asks of the plane of interfaces.
use Rattle.uci_tree.specs.declared.fault.Fault.{Fault}
use Rattle.uci_tree.specs.declared.package.Package.{Package}
use Rattle.uci_tool.specs.Folder.{Folder}
use Rattle.script_lines.specs.declared.line_error.LineError.TheVariants as error
use Rattle.step_net.specs.NetLine.{NetLine, load_line, refused}
use Rattle.step_net.specs.Loaded.{network_name, wireless_name, IsLoaded, DoesNotLoad}

-- the files are loaded as they are committed, unless one of them is no package
pub data ReloadAsks (folder : Folder) : NetLine → Type 0 where
  loaded : (network wireless : Package) → IsLoaded folder network_name network
      → IsLoaded folder wireless_name wireless → ReloadAsks folder (load_line network wireless)
  no_network : (fault : Fault) → DoesNotLoad folder network_name fault
      → ReloadAsks folder (refused error.Parse)
  no_wireless : (network : Package) → IsLoaded folder network_name network
      → (fault : Fault) → DoesNotLoad folder wireless_name fault
      → ReloadAsks folder (refused error.Parse)
