use Rattle.std.proofs.Common.{◌∙◌}
use Rattle.graph_objects.specs.declared.slot.Side.TheVariants.{Held}
use Rattle.graph_objects.specs.Slots.{set_on}
use Rattle.graph_objects.proofs.HoldLemmas.{link_is_held}
use Rattle.graph_objects.proofs.links.holds_link.Goals as goal

pub returns : goal.returns
returns c = c.is_some.ensures ∙ link_is_held (set_on Held c.args.slots.now.entries) c.args.name.now c.link_of.result c.link_of.ensures.some c.link_of.ensures.none
