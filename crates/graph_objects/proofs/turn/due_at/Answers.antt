use Rattle.graph_objects.proofs.TurnLemmas.{due_none, due_not, due_some}
use Rattle.graph_objects.proofs.turn.due_at.Goals as goal

pub returns-then-is_due : goal.returns-then-is_due
returns-then-is_due c = due_some c.args.turn c.args.slots.now.entries c.side_of.result c.args.index c.index.result.now c.side_of.ensures c.index.ensures c.in-Some.object c.in-Some.ensures c.is_due.result c.is_due.ensures c.place.result
    c.place.ensures.object c.place.ensures.place c.if-is_due.true

pub returns-else-is_due : goal.returns-else-is_due
returns-else-is_due c = due_not c.args.turn c.args.slots.now.entries c.side_of.result c.args.index c.index.result.now c.side_of.ensures c.index.ensures c.in-Some.object c.in-Some.ensures c.is_due.result c.is_due.ensures c.if-is_due.false

pub returns-in-None : goal.returns-in-None
returns-in-None c = due_none c.args.turn c.args.slots.now.entries c.side_of.result c.args.index c.index.result.now c.side_of.ensures c.index.ensures c.in-None.ensures
