use Rattle.std.proofs.Common.{arith, ◌≡◌, length, slice_get, slice_set, Some, refl, sym, ap, subst, ◌∙◌}
use Rattle.std.specs.FinSet as set
use Rattle.given_objects.specs.declared.gift.Gift.{Gift}
use Rattle.given_objects.specs.Gifts as gift
use Rattle.given_objects.specs.Gifts.{Gifts}
use Rattle.graph_rules.specs.State.{State}
use Rattle.graph_rules.specs.After.{name_at, absent_after}
use Rattle.graph_rules.specs.Edges.{changed_edges}
use Rattle.graph_settle.specs.Leaving.{left_gift, left_gifts}
use Rattle.graph_settle.proofs.LeaveLemmas.{size_told, told_step, told_to_end, left_then}
use Rattle.graph_settle.proofs.settling.GraphSettling.leave.Goals as goal

pub loop-place-init : goal.loop-place-init
loop-place-init g c = record { gifts = refl; graph = c.set_absent.ensures.state; may_lose_link = refl }

pub let_go-requires : goal.let_go-requires
let_go-requires g c =
    let tell = left_gift (absent_after c.args.self.now.graph c.args.id.0) in
    omega (arith, c.len-place-end.ensures.length, ap length c.loop-place.invariant.gifts, size_told tell c.loop-place.place c.args.self.now.gifts)

pub loop-place-preserved : goal.loop-place-preserved
loop-place-preserved g c =
    let gs = c.loop-place.self.gifts in
    record {
      gifts = told_step (left_gift (absent_after c.args.self.now.graph c.args.id.0)) c.loop-place.place c.args.self.now.gifts gs c.let_go.new.gifts c.loop-place.invariant.gifts (omega (arith, c.len-place-end.ensures.length))
          (subst (λ (s : State). (x : Gift) → slice_get gs c.loop-place.place ≡ Some x → c.let_go.new.gifts ≡ slice_set gs c.loop-place.place (left_gift s x)) c.loop-place.invariant.graph c.let_go.ensures);
      graph = c.loop-place.invariant.graph;
      may_lose_link = c.loop-place.invariant.may_lose_link;
    }

pub returns-clause-held : goal.returns-clause-held
returns-clause-held g c =
    let now : State = absent_after c.args.self.now.graph c.args.id.0 in
    let at = name_at c.args.self.now.graph.known.names c.args.id.0 in
    let all = told_to_end (left_gift now) c.loop-place.place c.args.self.now.gifts c.loop-place.self.gifts c.loop-place.invariant.gifts (omega (arith, c.len-place-end.ensures.length)) in
    ap (λ (s : State). set.union s.held (gift.held_of c.loop-place.self.gifts)) c.loop-place.invariant.graph
    ∙ ap (λ (gs : Gifts). set.union now.held (gift.held_of gs)) all
    ∙ left_then c.args.self.now c.are_gifts.ensures c.requires.ready at.device at.name now refl

pub returns-clause-gifts : goal.returns-clause-gifts
returns-clause-gifts g c =
    let now : State = absent_after c.args.self.now.graph c.args.id.0 in
    told_to_end (left_gift now) c.loop-place.place c.args.self.now.gifts c.loop-place.self.gifts c.loop-place.invariant.gifts (omega (arith, c.len-place-end.ensures.length))
    ∙ ap (λ (s : State). left_gifts s c.args.self.now.gifts) (sym c.loop-place.invariant.graph)

pub returns-clause-cost : goal.returns-clause-cost
returns-clause-cost g c = omega (arith, c.set_absent.ensures.cost, ap (λ (s : State). changed_edges c.args.self.now.graph.known s.known) (c.loop-place.invariant.graph ∙ sym c.set_absent.ensures.state))
