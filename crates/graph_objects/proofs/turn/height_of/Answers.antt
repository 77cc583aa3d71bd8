use Rattle.std.proofs.Common.{ap, sym, ◌∙◌}
use Rattle.kern_model.specs.CallOrder.{height_of}
use Rattle.graph_objects.specs.Slots.{set_on}
use Rattle.graph_objects.proofs.SlotLemmas.{height_few}
use Rattle.graph_objects.proofs.turn.height_of.Goals as goal

pub returns-in-Link-clause-is : goal.returns-in-Link-clause-is
returns-in-Link-clause-is c =
    c.height.ensures.is (height_few c.args.side c.args.slots.now.entries c.in-Link.name c.len.result c.len.ensures.len)
    ∙ ap (height_of (set_on c.args.side c.args.slots.now.entries)) (sym c.in-Link.is)

pub returns-in-Up-clause-is : goal.returns-in-Up-clause-is
returns-in-Up-clause-is c =
    c.height-in-Up.ensures.is (height_few c.args.side c.args.slots.now.entries c.in-Up.name c.len-in-Up.result c.len-in-Up.ensures.len)
    ∙ ap (height_of (set_on c.args.side c.args.slots.now.entries)) (sym c.in-Up.is)
