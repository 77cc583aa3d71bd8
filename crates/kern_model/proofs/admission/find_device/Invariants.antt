use Rattle.std.proofs.Common.{◌≡◌, drop}
use Rattle.std.specs.Ordering.{nat_cmp}
use Rattle.std.specs.Cmp.Lexicographic.{slice_cmp}
use Rattle.std.specs.FinMap.{find}
use Rattle.kern_model.proofs.admission.find_device.Given as goal

-- the first of the name among the devices that are left is the first of all
abbrev pub invariant-loop-other : goal.invariant-loop-other
invariant-loop-other l = find (slice_cmp nat_cmp) l.name (drop l.other-index l.devices) ≡ find (slice_cmp nat_cmp) l.name l.devices
