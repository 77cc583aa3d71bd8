use Rattle.std.proofs.Common.{◌≡◌, ◌≤◌, ◌<◌, ℕ, All, Contains, true, length, vec_len, vec_capacity}
use Rattle.use_counts.specs.UsesInside.{flag_at}
use Rattle.use_counts.proofs.uses.MarkedIds.clear.Given as goal

-- the flags are those of ids that are left
abbrev pub invariant-loop-id : goal.invariant-loop-id
invariant-loop-id l =
    record {
      flagged : (k : ℕ) → flag_at l.self-inside.flags.items k ≡ true → Contains l.self-inside.ids.items k;
      within : All (λ id. id < length l.self-inside.flags.items) l.self-inside.ids.items;
      size : length l.self-inside.flags.items ≡ l.fn.self.room;
      room : length l.self-inside.flags.items ≤ vec_capacity l.self-inside.ids;
    }

abbrev pub decreases-loop-id : goal.decreases-loop-id
decreases-loop-id l = vec_len l.self-inside.ids
