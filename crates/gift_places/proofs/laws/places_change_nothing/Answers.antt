use Rattle.gift_places.proofs.LawLemmas.{same_held, same_given, same_givers, still_place, all_places, all_old_or_empty, alone_held, alone_givers}
use Rattle.gift_places.proofs.laws.places_change_nothing.Goals as goal

pub returns-clause-held : goal.returns-clause-held
returns-clause-held c = same_held

pub returns-clause-given : goal.returns-clause-given
returns-clause-given c = same_given

pub returns-clause-givers : goal.returns-clause-givers
returns-clause-givers c = same_givers

pub returns-clause-stay : goal.returns-clause-stay
returns-clause-stay c = still_place

pub returns-clause-all : goal.returns-clause-all
returns-clause-all c = all_places

pub returns-clause-gifts : goal.returns-clause-gifts
returns-clause-gifts c = all_old_or_empty

pub returns-clause-alone : goal.returns-clause-alone
returns-clause-alone c = alone_held

pub returns-clause-none : goal.returns-clause-none
returns-clause-none c = alone_givers
