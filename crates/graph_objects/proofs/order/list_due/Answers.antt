use Rattle.graph_objects.proofs.ListedLemmas.{listed_due}
use Rattle.graph_objects.proofs.order.list_due.Goals as goal

pub returns-clause-listed : goal.returns-clause-listed
returns-clause-listed c = listed_due c.args.turn c.args.slots.now.entries c.fill.new.list.items c.sort.new.list.items c.fill.ensures.due c.sort.ensures.same c.sort.ensures.down
