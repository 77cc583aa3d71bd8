use Rattle.std.proofs.Common.{take}
use Rattle.net_devices.specs.Found.{HasOwners}
use Rattle.net_devices.proofs.said_index.owners_of.Given as goal

-- the bridges of the sections so far
abbrev pub invariant-loop-saying : goal.invariant-loop-saying
invariant-loop-saying l = HasOwners l.owners (take l.saying-index l.said)
