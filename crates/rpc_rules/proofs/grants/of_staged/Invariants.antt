use Rattle.std.proofs.Common.{◌≡◌, ◌++◌, drop, map}
use Rattle.rpc_rules.specs.Grants as spec
use Rattle.rpc_rules.proofs.grants.of_staged.Given as goal

-- the grants so far, and then those of the other packages
abbrev pub invariant-loop-name : goal.invariant-loop-name
invariant-loop-name l = l.grants.items ++ map spec.to_write (drop l.name-index l.staged) ≡ map spec.to_write l.staged
