use Rattle.std.proofs.Common.{◌≡◌}
use Rattle.std.specs.Vec.Iter.{into_iter_items}
use Rattle.rpc_rules.specs.Grants as spec
use Rattle.rpc_rules.proofs.grants.first_missing.Given as goal

-- none of the grants so far is missing
abbrev pub invariant-loop-grant : goal.invariant-loop-grant
invariant-loop-grant l = spec.first_missing l.sessions l.holder l.waiting l.now (into_iter_items l.grant-iterator) ≡ spec.first_missing l.sessions l.holder l.waiting l.now l.fn.needed.items
