use Rattle.given_objects.proofs.PlacesLemmas.{none_for_none}
use Rattle.given_objects.proofs.order.no_order.Goals as goal

pub returns-clause-places : goal.returns-clause-places
returns-clause-places c = none_for_none c.no_places.result.list.items c.no_places.result.flags.items c.no_places.ensures.list c.no_places.ensures.flags
