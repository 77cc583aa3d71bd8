use Rattle.graph_objects.specs.Slots.{set_on}
use Rattle.graph_objects.proofs.LookupLemmas.{has_found, has_none}
use Rattle.graph_objects.proofs.slots.has.Goals as goal

pub returns-in-Some : goal.returns-in-Some
returns-in-Some c = has_found (set_on c.args.side c.args.slots.now.entries) c.args.object.now c.in-Some.found c.same.result c.in-Some.ensures.found c.same.ensures

pub returns-in-None : goal.returns-in-None
returns-in-None c = has_none (set_on c.args.side c.args.slots.now.entries) c.args.object.now c.in-None.ensures.found
