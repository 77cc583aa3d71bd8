use Rattle.std.proofs.Common.{ℕ, ◌<◌, List, drop}
use Rattle.graph_rules.specs.State.{claims_in}
use Rattle.net_rules.specs.Claims.{claims_of}
use Rattle.claim_moves.specs.Claiming.{DiffersInClaims}
use Rattle.claim_moves.proofs.forgetting.forget_claims.Given as goal

-- what is claimed still is claimed by the interfaces that are left, and nothing but claims differs
abbrev pub invariant-loop-state : goal.invariant-loop-state
invariant-loop-state g l = ((name : List ℕ) → 0 < claims_in l.graph.known name → 0 < claims_of (drop l.state-index l.states) name) × DiffersInClaims l.initial.graph l.graph
