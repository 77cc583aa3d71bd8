use Rattle.std.proofs.Common.{ℕ, ◌≡◌, List, take}
use Rattle.uci_delta.specs.Batch.{all_applied, tree_of}
use Rattle.uci_delta.specs.Placed.{ArePlaced}
use Rattle.uci_delta.proofs.batch.Batch.take_all.Given as goal

-- the deltas so far are applied
abbrev pub invariant-loop-delta : goal.invariant-loop-delta
invariant-loop-delta l =
    ArePlaced l.self.places l.self.sections.items
    × ((name : List ℕ) → tree_of name l.self ≡ all_applied (tree_of name l.fn.self) (take l.delta-index l.deltas))
