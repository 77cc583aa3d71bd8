use Rattle.std.proofs.Common.{◌≡◌, take}
use Rattle.plane_real.specs.Folder.{with_packages}
use Rattle.plane_real.proofs.dir_disk.disk_names.Given as goal

abbrev pub invariant-loop-package : goal.invariant-loop-package
invariant-loop-package l = l.names.items ≡ with_packages (take l.package-index l.packages)
