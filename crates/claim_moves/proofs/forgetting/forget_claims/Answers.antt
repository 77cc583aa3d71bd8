use Rattle.std.proofs.Common.{arith, ◌<◌, List, subst}
use Rattle.std.proofs.lemmas.List.{drop_all}
use Rattle.net_rules.specs.declared.state.InterfaceState.{InterfaceState}
use Rattle.net_rules.specs.Claims.{claims_of}
use Rattle.claim_moves.proofs.NamedLemmas.{claims_same}
use Rattle.claim_moves.proofs.ForgetLemmas.{none_claimed}
use Rattle.claim_moves.proofs.forgetting.forget_claims.Goals as goal

pub loop-state-init : goal.loop-state-init
loop-state-init g c = (c.requires, claims_same c.args.graph.now)

pub returns-clause-none : goal.returns-clause-none
returns-clause-none g c =
    none_claimed c.loop-state.graph.known (λ q some.
    subst (λ (xs : List InterfaceState). 0 < claims_of xs q) (drop_all c.loop-state.state-index c.args.states.now (omega (arith, c.loop-state-test.false))) (c.loop-state.invariant.0 q some))

pub returns-clause-stays : goal.returns-clause-stays
returns-clause-stays g c = c.loop-state.invariant.1
