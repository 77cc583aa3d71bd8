-- The exit status of a run, and the names of the packages that it loads.
use Rattle.std.specs.Prelude.{ℕ, List}
use Rattle.step_net.specs.Loaded.{network_name, wireless_name}
use Rattle.plane_run.specs.declared.run_end.RowPackage.{RowPackage}
use Rattle.plane_run.specs.declared.run_end.RowPackage.TheVariants.{Network, Wireless}
use Rattle.plane_run.specs.declared.run_end.RunEnd.{RunEnd}
use Rattle.plane_run.specs.declared.run_end.RunEnd.TheVariants as end

abbrev pub name_of : RowPackage → List ℕ
name_of Network = network_name
name_of Wireless = wireless_name

abbrev pub status_of : RunEnd → ℕ
status_of end.Done = 0
status_of end.Refused = 1
status_of end.ReadFailed = 3
status_of end.WriteFailed = 4
status_of end.DiskFailed = 5
status_of (end.KernelFailed left) = 6
status_of end.OutOfMemory = 8
status_of (end.Unreadable row_package fault) = 9
status_of (end.TooLong limit) = 10
status_of (end.BadSnapshot byte) = 12
