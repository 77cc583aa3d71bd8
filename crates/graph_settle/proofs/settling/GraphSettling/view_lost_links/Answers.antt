use Rattle.std.proofs.Common.{arith, ◌≡◌, length, slice_get, slice_set, Some, refl, ap, subst}
use Rattle.given_objects.specs.declared.gift.Gift.{Gift}
use Rattle.graph_rules.specs.State.{State}
use Rattle.graph_settle.specs.Leaving.{looked_at}
use Rattle.graph_settle.proofs.LeaveLemmas.{size_told, told_step, told_to_end}
use Rattle.graph_settle.proofs.settling.GraphSettling.view_lost_links.Goals as goal

pub loop-place-init : goal.loop-place-init
loop-place-init c = record { gifts = refl; graph = refl }

pub look_at-requires : goal.look_at-requires
look_at-requires c =
    let tell = looked_at c.args.self.now.graph in
    omega (arith, c.len-place-end.ensures.length, ap length c.loop-place.invariant.gifts, size_told tell c.loop-place.place c.args.self.now.gifts)

pub loop-place-preserved : goal.loop-place-preserved
loop-place-preserved c =
    let gs = c.loop-place.self.gifts in
    record {
      gifts = told_step (looked_at c.args.self.now.graph) c.loop-place.place c.args.self.now.gifts gs c.look_at.new.gifts c.loop-place.invariant.gifts (omega (arith, c.len-place-end.ensures.length))
          (subst (λ (s : State). (g : Gift) → slice_get gs c.loop-place.place ≡ Some g → c.look_at.new.gifts ≡ slice_set gs c.loop-place.place (looked_at s g)) c.loop-place.invariant.graph c.look_at.ensures);
      graph = c.loop-place.invariant.graph;
    }

pub returns-clause-gifts : goal.returns-clause-gifts
returns-clause-gifts c =
    told_to_end (looked_at c.args.self.now.graph) c.loop-place.place c.args.self.now.gifts c.loop-place.self.gifts c.loop-place.invariant.gifts (omega (arith, c.len-place-end.ensures.length))
