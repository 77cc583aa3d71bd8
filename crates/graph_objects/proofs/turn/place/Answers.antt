use Rattle.std.proofs.Common.{◌≡◌, ap, subst, ◌∙◌}
use Rattle.kern_model.specs.Line.{line_of}
use Rattle.kern_model.specs.CallOrder.{rank, height_of}
use Rattle.graph_objects.specs.Slots.{set_on}
use Rattle.graph_objects.specs.Places.{height_number_of}
use Rattle.graph_objects.proofs.TurnLemmas.{number_is}
use Rattle.graph_objects.proofs.turn.place.Goals as goal

pub returns-clause-place : goal.returns-clause-place
returns-clause-place c =
    let es = c.args.slots.now.entries in
    let height = subst (λ side. c.height_of-height.result ≡ height_of (set_on side es) c.args.object) c.side_of.ensures c.height_of-height.ensures.is in
    λ i. record {
      rank = (c.rank.ensures ∙ ap rank c.plain_call-call.ensures) i;
      height = (c.height_number.ensures ∙ ap (λ most. height_number_of c.args.turn most c.height_of-height.result) c.len.ensures.len ∙ number_is c.args.turn es c.args.object c.height_of-height.result height) i;
      line = (c.of.ensures ∙ ap line_of c.plain_call-call.ensures) i;
    }
