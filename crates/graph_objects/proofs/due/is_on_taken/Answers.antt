use Rattle.std.proofs.Common.{ap, sym, ◌∙◌}
use Rattle.kern_model.specs.Touched.{loses_link, is_on_taken}
use Rattle.graph_objects.specs.declared.slot.Side.TheVariants.{Held, Wanted}
use Rattle.graph_objects.specs.Slots.{set_on}
use Rattle.graph_objects.proofs.LookupLemmas.{second_place}
use Rattle.graph_objects.proofs.due.is_on_taken.Goals as goal

pub returns-else-loses_link-2 : goal.returns-else-loses_link-2
returns-else-loses_link-2 c =
    let held = set_on Held c.args.slots.now.entries in
    let wanted = set_on Wanted c.args.slots.now.entries in
    second_place (loses_link held wanted c.in-Vlan.port) (loses_link held wanted c.in-Vlan.bridge) c.loses_link-else-loses_link-2.result (sym c.loses_link-in-Vlan.ensures ∙ c.if-loses_link-2.false) c.loses_link-else-loses_link-2.ensures
    ∙ ap (is_on_taken held wanted) (sym c.in-Vlan.is)
