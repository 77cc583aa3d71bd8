use Rattle.std.proofs.Common.{◌≡◌, map, drop}
use Rattle.std.specs.Prelude.{filter}
use Rattle.rpc_session.specs.declared.grant.Grant.{Grant}
use Rattle.rpc_session.specs.Grant.{same_text}
use Rattle.rpc_session.specs.Description as spec
use Rattle.rpc_session.proofs.OrderLemmas.{puts}
use Rattle.rpc_session.proofs.description.objects.Given as goal

-- the objects so far, with those of the other grants
abbrev pub invariant-loop-grant : goal.invariant-loop-grant
invariant-loop-grant l = puts l.objects.keys (map (λ (grant : Grant). grant.object) (filter (λ (grant : Grant). same_text grant.scope l.scope) (drop l.grant-index l.grants))) ≡ spec.objects l.grants l.scope
