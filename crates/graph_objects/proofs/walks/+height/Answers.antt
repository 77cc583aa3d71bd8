use Rattle.graph_objects.specs.Slots.{set_on}
use Rattle.graph_objects.proofs.WalkLemmas.{height_of_none, height_of_more}
use Rattle.graph_objects.proofs.walks.+height.Goals as goal

pub returns-in_default-clause-is : goal.returns-in_default-clause-is
returns-in_default-clause-is t c few = height_of_none (set_on c.args.side c.args.slots.now.entries) c.in_default.ensures.steady c.args.name.now c.in_default.ensures.none

pub returns-clause-is : goal.returns-clause-is
returns-clause-is t c few = height_of_more (set_on c.args.side c.args.slots.now.entries) c.in-Some.ensures.steady c.args.name.now c.in-Some.lower c.args.steps c.height.result c.in-Some.ensures.some c.height.ensures.is few
