use Rattle.std.proofs.Common.{ℕ, ◌≡◌, List, ◌++◌, drop}
use Rattle.std.specs.Prelude.{filter}
use Rattle.rpc_uci.specs.Sight as spec
use Rattle.rpc_uci.proofs.seeing.staged_names.Given as goal

-- the names so far, and then those of the other packages
abbrev pub invariant-loop-name : goal.invariant-loop-name
invariant-loop-name l = l.names.items ++ filter (λ (name : List ℕ). spec.are_some (spec.deltas_named l.holder l.store name)) (drop l.name-index l.packages)
    ≡ filter (λ (name : List ℕ). spec.are_some (spec.deltas_named l.holder l.store name)) l.packages
