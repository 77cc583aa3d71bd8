use Rattle.std.proofs.Common.{cond, sym, ap, subst, ◌∙◌}
use Rattle.std.specs.Option.{option_map}
use Rattle.graph_rules.specs.declared.ids.DevId.{DevId}
use Rattle.graph_rules.specs.State.{State, claims_in}
use Rattle.claim_moves.specs.Claiming.{DiffersInClaims}
use Rattle.claim_moves.proofs.NamedLemmas.{claims_set, claims_alone}
use Rattle.claim_moves.proofs.ForgetLemmas.{none_unknown}
use Rattle.claim_moves.proofs.forgetting.forget_name.Goals as goal

pub returns-in-Some-clause-none : goal.returns-in-Some-clause-none
returns-in-Some-clause-none g c = λ q is.
    let at = sym c.find.ensures ∙ ap (option_map (λ (id : DevId). id.0)) c.in-Some.is in
    ap (λ (s : State). claims_in s.known q) c.set_claim.ensures.state
    ∙ claims_set c.args.graph.now.known.names c.in-Some.id.0 c.args.name.now q 0 at
    ∙ ap (λ b. cond b 0 (claims_in c.args.graph.now.known q)) is

pub returns-in-Some-clause-others : goal.returns-in-Some-clause-others
returns-in-Some-clause-others g c = λ q is.
    let at = sym c.find.ensures ∙ ap (option_map (λ (id : DevId). id.0)) c.in-Some.is in
    ap (λ (s : State). claims_in s.known q) c.set_claim.ensures.state
    ∙ claims_set c.args.graph.now.known.names c.in-Some.id.0 c.args.name.now q 0 at
    ∙ ap (λ b. cond b 0 (claims_in c.args.graph.now.known q)) is

pub returns-in-Some-clause-stays : goal.returns-in-Some-clause-stays
returns-in-Some-clause-stays g c = subst (DiffersInClaims c.args.graph.now) (sym c.set_claim.ensures.state) (claims_alone c.args.graph.now c.in-Some.id.0 0)

pub returns-in-None-clause-none : goal.returns-in-None-clause-none
returns-in-None-clause-none g c = λ q is.
    none_unknown c.args.graph.now.known c.args.name.now q (sym c.find.ensures ∙ ap (option_map (λ (id : DevId). id.0)) c.in-None.is) is
