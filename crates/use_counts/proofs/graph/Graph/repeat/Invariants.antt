use Rattle.std.proofs.Common.{ℕ, ◌<◌, ◌≤◌, ◌≡◌, length}
use Rattle.use_counts.specs.Network.{member_at}
use Rattle.use_counts.proofs.graph.Graph.repeat.Given as goal

abbrev pub invariant-loop-id : goal.invariant-loop-id
invariant-loop-id g l =
    record {
      room : l.uses.room ≡ l.fn.uses.room;
      size : length l.self.members ≡ length l.told.members;
      fixed : l.self.fixed ≡ l.fn.self.fixed;
      ports : l.self.ports ≡ l.fn.self.ports;
      done : (k : ℕ) → k < l.id → member_at l.self.members k ≡ member_at l.told.members k;
      left : (k : ℕ) → l.id ≤ k → member_at l.self.members k ≡ member_at l.fn.self.members k;
    }
