use Rattle.graph_objects.specs.declared.slot.Side.TheVariants.{Held}
use Rattle.graph_objects.proofs.SlotLemmas.{height_few}
use Rattle.graph_objects.proofs.due.loses_link.Goals as goal

pub returns : goal.returns
returns c = c.loses_link.ensures (height_few Held c.args.slots.now.entries c.args.name.now c.len.result c.len.ensures.len)
