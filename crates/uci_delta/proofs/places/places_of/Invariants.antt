use Rattle.std.proofs.Common.{take}
use Rattle.uci_tree.specs.Index.{HasPlaces}
use Rattle.uci_delta.proofs.places.places_of.Given as goal

-- the places so far are those of the sections so far
abbrev pub invariant-loop-place : goal.invariant-loop-place
invariant-loop-place l = HasPlaces l.places (take l.place l.sections)
