use Rattle.std.proofs.Common.{◌≡◌, ◌<◌, ◌≤◌, ◌*◌, ℕ, length}
use Rattle.use_counts.specs.Marked.{mark}
use Rattle.use_counts.proofs.nodes.all_marked.Given as goal

abbrev pub invariant-loop-number : goal.invariant-loop-number
invariant-loop-number l =
    record {
      room : l.made ≤ 64 * length l.marks;
      within : (n : ℕ) → mark l.marks n ≡ 1 → n < l.number;
      marked : (n : ℕ) → n < l.number → mark l.marks n ≡ 1;
    }
