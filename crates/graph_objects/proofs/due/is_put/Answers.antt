use Rattle.std.proofs.Common.{sym, ◌∙◌}
use Rattle.graph_objects.specs.declared.slot.Side.TheVariants.{Held, Wanted}
use Rattle.graph_objects.specs.Slots.{listed, set_on}
use Rattle.graph_objects.proofs.LookupLemmas.{put_by_place, put_by_absence}
use Rattle.graph_objects.proofs.due.is_put.Goals as goal

pub returns-then-is_on_taken : goal.returns-then-is_on_taken
returns-then-is_on_taken c is = put_by_place (set_on Held c.args.slots.now.entries) (listed Wanted c.args.slots.now.entries) c.args.object.now (sym c.is_on_taken.ensures ∙ c.if-is_on_taken.true) is

pub returns : goal.returns
returns c is = put_by_absence (set_on Held c.args.slots.now.entries) (listed Wanted c.args.slots.now.entries) c.args.object.now c.has.result c.has.ensures (sym c.is_on_taken.ensures ∙ c.if-is_on_taken.false) is
