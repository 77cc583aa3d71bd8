use Rattle.std.proofs.Common.{◌≡◌, map, drop}
use Rattle.rpc_session.specs.declared.grant.Grant.{Grant}
use Rattle.rpc_session.specs.Description as spec
use Rattle.rpc_session.proofs.OrderLemmas.{puts}
use Rattle.rpc_session.proofs.description.scopes.Given as goal

-- the scopes so far, with those of the other grants
abbrev pub invariant-loop-grant : goal.invariant-loop-grant
invariant-loop-grant l = puts l.scopes.keys (map (λ (grant : Grant). grant.scope) (drop l.grant-index l.grants)) ≡ spec.scopes l.grants
