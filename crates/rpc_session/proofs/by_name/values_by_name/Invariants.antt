use Rattle.std.proofs.Common.{length}
use Rattle.rpc_session.proofs.OrderLemmas.{NamedSoFar}
use Rattle.rpc_session.proofs.by_name.values_by_name.Given as goal

-- the values behind the rest are in the map
abbrev pub invariant-loop-attr : goal.invariant-loop-attr
invariant-loop-attr l = NamedSoFar l.fn.attrs l.rest l.by_name

abbrev pub decreases-loop-attr : goal.decreases-loop-attr
decreases-loop-attr l = length l.rest
