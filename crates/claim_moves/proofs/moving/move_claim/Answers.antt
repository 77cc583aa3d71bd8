use Rattle.std.proofs.Common.{arith, ◌≡◌, ◌≤◌, ◌<◌, ◌+◌, sym, ap, subst, ◌∙◌}
use Rattle.std.specs.Option.{option_map}
use Rattle.graph_rules.specs.declared.ids.DevId.{DevId}
use Rattle.graph_rules.specs.State.{State, claims_in}
use Rattle.graph_names.proofs.NameLemmas.{claims_told}
use Rattle.claim_moves.specs.Claiming.{DiffersInClaims, one}
use Rattle.claim_moves.proofs.NamedLemmas.{claims_set, claims_alone, claim_moved, unknown_moves, moved_up, moved_down, one_few, was_used}
use Rattle.claim_moves.proofs.moving.move_claim.Goals as goal
use Rattle.claim_moves.proofs.moving.move_claim.Goals.{then-uses, else-uses}

pub returns-in_default-clause-moves : goal.returns-in_default-clause-moves
returns-in_default-clause-moves g c = unknown_moves c.args.graph.now.known c.args.name.now c.args.used c.args.uses (sym c.in_default.ensures) c.requires.claimed c.requires.known

pub overflow_add-moved : goal.overflow_add-moved
overflow_add-moved g c =
    let at = sym c.find.ensures ∙ ap (option_map (λ (id : DevId). id.0)) c.in-Some.is in
    let has : c.claims-claims.result ≡ claims_in c.args.graph.now.known c.args.name.now = c.claims-claims.ensures ∙ claims_told c.args.graph.now.known.names c.args.name.now c.in-Some.id.0 at in
    let few : claims_in c.args.graph.now.known c.args.name.now + one c.args.uses ≤ 1024 + one c.args.used = c.requires.few in
    let most : one c.args.used ≤ 1 = one_few c.args.used in
    omega (arith, has, few, most)

pub overflow_sub-moved : goal.overflow_sub-moved
overflow_sub-moved g c =
    let at = sym c.find.ensures ∙ ap (option_map (λ (id : DevId). id.0)) c.in-Some.is in
    let has : c.claims-claims.result ≡ claims_in c.args.graph.now.known c.args.name.now = c.claims-claims.ensures ∙ claims_told c.args.graph.now.known.names c.args.name.now c.in-Some.id.0 at in
    let some : 0 < claims_in c.args.graph.now.known c.args.name.now = c.requires.claimed (was_used c.args.used c.args.uses c.if-used-uses.false c.if-uses.false) in
    omega (arith, has, some)

pub set_claim-requires-clause-few : goal.set_claim-requires-clause-few
set_claim-requires-clause-few g c =
    let at = sym c.find.ensures ∙ ap (option_map (λ (id : DevId). id.0)) c.in-Some.is in
    let has : c.claims-claims.result ≡ claims_in c.args.graph.now.known c.args.name.now = c.claims-claims.ensures ∙ claims_told c.args.graph.now.known.names c.args.name.now c.in-Some.id.0 at in
    let few : claims_in c.args.graph.now.known c.args.name.now + one c.args.uses ≤ 1024 + one c.args.used = c.requires.few in
    let most : one c.args.used ≤ 1 = one_few c.args.used in
    elim c.if-uses.branch [
      | then-uses w ↦
          let sum = moved_up c.claims-claims.result c.if-uses.moved c.args.used c.args.uses c.if-used-uses.false w.if-uses.true w.moved-is in
          omega (arith, has, few, sum, most)
      | else-uses w ↦ let is = w.moved-is in omega (arith, has, few, most, is)
    ]

pub returns-clause-moves : goal.returns-clause-moves
returns-clause-moves g c =
    let at = sym c.find.ensures ∙ ap (option_map (λ (id : DevId). id.0)) c.in-Some.is in
    let has : c.claims-claims.result ≡ claims_in c.args.graph.now.known c.args.name.now = c.claims-claims.ensures ∙ claims_told c.args.graph.now.known.names c.args.name.now c.in-Some.id.0 at in
    let sum : c.if-uses.moved + one c.args.used ≡ c.claims-claims.result + one c.args.uses = elim c.if-uses.branch [
      | then-uses w ↦ moved_up c.claims-claims.result c.if-uses.moved c.args.used c.args.uses c.if-used-uses.false w.if-uses.true w.moved-is
      | else-uses w ↦
          let some : 0 < claims_in c.args.graph.now.known c.args.name.now = c.requires.claimed (was_used c.args.used c.args.uses c.if-used-uses.false w.if-uses.false) in
          moved_down c.claims-claims.result c.if-uses.moved c.args.used c.args.uses c.if-used-uses.false w.if-uses.false (subst (λ k. 0 < k) (sym has) some) w.moved-is
    ] in
    claim_moved (claims_in c.args.graph.now.known) (claims_in c.set_claim.new.self.known) c.args.name.now c.if-uses.moved c.args.used c.args.uses
    (λ q. ap (λ (s : State). claims_in s.known q) c.set_claim.ensures.state ∙ claims_set c.args.graph.now.known.names c.in-Some.id.0 c.args.name.now q c.if-uses.moved at)
    (omega (arith, sum, has))

pub returns-clause-stays : goal.returns-clause-stays
returns-clause-stays g c = subst (DiffersInClaims c.args.graph.now) (sym c.set_claim.ensures.state) (claims_alone c.args.graph.now c.in-Some.id.0 c.if-uses.moved)
