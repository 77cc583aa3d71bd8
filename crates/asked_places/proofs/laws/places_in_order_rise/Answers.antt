use Rattle.asked_places.proofs.OrderLemmas.{rising_below}
use Rattle.asked_places.proofs.laws.places_in_order_rise.Goals as goal

pub returns : goal.returns
returns c = rising_below
