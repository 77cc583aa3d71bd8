use Rattle.std.proofs.Common.{◌≡◌, take, length}
use Rattle.graph_tables.specs.Differing.{SeesSome}
use Rattle.graph_tables.proofs.judging.look_at.Given as goal

-- the ids so far are looked at
abbrev pub invariant-loop-id : goal.invariant-loop-id
invariant-loop-id l = record {
  size : length l.used.items ≡ length l.names.names;
  seen : SeesSome l.names (take l.id-index l.ids) l.fn.used.items l.used.items;
}
