use Rattle.std.proofs.Common.{◌≡◌, ◌≤◌, take, Some, None}
use Rattle.snap_disk.specs.Images.{IsOn}
use Rattle.snap_disk.specs.Opened.{put}
use Rattle.snap_disk.specs.Phase.{Layout, files_of, AnyPackages}
use Rattle.snap_disk.proofs.Moments.{Run, StillTells}
use Rattle.snap_disk.proofs.phases.write_packages.Given as goal

-- the files so far are written, and every image is as it was but for the files of the list
abbrev pub invariant-loop-file : goal.invariant-loop-file
invariant-loop-file g l = record {
  names : (g.D.Disk.view l.disk).names ≡ (g.D.Disk.view l.fn.disk).names;
  silent : (g.D.Disk.view l.fn.disk).seen ≡ None → (g.D.Disk.view l.disk).seen ≡ None;
  tells : StillTells (g.D.Disk.view l.fn.disk).seen (g.D.Disk.view l.disk).seen;
  images : (m : Layout) → IsOn (g.D.Disk.view l.fn.disk) (files_of m) → Run (g.D.Disk.view l.fn.disk) (g.D.Disk.view l.disk) (AnyPackages l.files m);
  seen : (m : Layout) → IsOn (g.D.Disk.view l.fn.disk) (files_of m) → (g.D.Disk.view l.disk).seen ≡ Some (files_of (record m { packages = put (take l.file-index l.files) m.packages }));
  later : (g.D.Disk.view l.fn.disk).faults ≤ (g.D.Disk.view l.disk).faults;
}
