use Rattle.net_gifts.proofs.BareLemmas.{places_stay, held_stays}
use Rattle.net_gifts.proofs.laws.others_than_givers_stay.Goals as goal

pub returns-clause-places : goal.returns-clause-places
returns-clause-places c = places_stay

pub returns-clause-held : goal.returns-clause-held
returns-clause-held c = held_stays
