use Rattle.ubus_table.proofs.PlaceLemmas.{same_served}
use Rattle.ubus_table.proofs.place_laws.places_change_nothing.Goals as goal

pub returns : goal.returns
returns c = same_served
