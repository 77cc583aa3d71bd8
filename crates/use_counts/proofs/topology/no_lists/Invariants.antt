use Rattle.std.proofs.Common.{◌≡◌, ℕ, [], vec_len}
use Rattle.use_counts.specs.Held.{items_at}
use Rattle.use_counts.proofs.topology.no_lists.Given as goal

abbrev pub invariant-loop : goal.invariant-loop
invariant-loop l =
    record {
      size : vec_len l.lists ≡ l.counter;
      none : (k : ℕ) → items_at l.lists.items k ≡ [];
    }
