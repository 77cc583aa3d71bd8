use Rattle.std.proofs.Common.{◌≡◌, drop}
use Rattle.std.specs.Prelude.{slice_get}
use Rattle.uci_tree.specs.Find.{places_from, places}
use Rattle.uci_tree.proofs.lookup.nth_of_kind.Given as goal

abbrev pub invariant-loop-place : goal.invariant-loop-place
invariant-loop-place l = slice_get (places_from l.place l.kind (drop l.place l.sections)) l.left ≡ slice_get (places l.kind l.sections) l.nth
