use Rattle.std.proofs.Common.{◌≡◌, ◌++◌, drop, map}
use Rattle.std.specs.Prelude.{filter}
use Rattle.rpc_uci.specs.Outcome as spec
use Rattle.rpc_uci.proofs.asking.readable_changes.Given as goal

-- what is told so far, and then that of the other packages
abbrev pub invariant-loop-name : goal.invariant-loop-name
invariant-loop-name l = l.told ++ map (spec.changes_of l.store l.holder) (filter (spec.is_told l.store l.sessions l.caller l.now) (drop l.name-index l.names))
    ≡ map (spec.changes_of l.store l.holder) (filter (spec.is_told l.store l.sessions l.caller l.now) l.names)
