use Rattle.std.proofs.Common.{◌≡◌, take}
use Rattle.graph_counts.specs.Told.{told_members}
use Rattle.graph_counts.proofs.loading.tell.Given as goal

-- the first nodes are told
abbrev pub invariant-loop-id : goal.invariant-loop-id
invariant-loop-id g l =
    record {
      counts : l.counts ≡ record l.fn.counts { members = told_members l.fn.counts.members (take l.id l.names) };
      room : l.uses.room ≡ l.fn.uses.room;
    }
