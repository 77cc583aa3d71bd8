use Rattle.std.proofs.Common.{◌≡◌, take}
use Rattle.net_copies.proofs.rows.copy_faults.Given as goal

-- the copies so far
abbrev pub invariant-loop-fault : goal.invariant-loop-fault
invariant-loop-fault l = l.copies ≡ take l.fault-index l.faults
