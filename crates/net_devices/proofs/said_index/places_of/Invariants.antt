use Rattle.std.proofs.Common.{take}
use Rattle.net_devices.specs.Found.{HasPlaces}
use Rattle.net_devices.proofs.said_index.places_of.Given as goal

-- the places of the sections so far
abbrev pub invariant-loop-place : goal.invariant-loop-place
invariant-loop-place l = HasPlaces l.places (take l.place l.said)
