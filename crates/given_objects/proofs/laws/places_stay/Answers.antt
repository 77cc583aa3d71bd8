use Rattle.given_objects.proofs.PlaceLemmas.{place_itself, place_others, give_places, withdraw_places, note_places, loses_link_places}
use Rattle.given_objects.proofs.laws.places_stay.Goals as goal

pub returns-clause-itself : goal.returns-clause-itself
returns-clause-itself c = place_itself

pub returns-clause-expect : goal.returns-clause-expect
returns-clause-expect c = place_others

pub returns-clause-give : goal.returns-clause-give
returns-clause-give c = give_places

pub returns-clause-withdraw : goal.returns-clause-withdraw
returns-clause-withdraw c = withdraw_places

pub returns-clause-note : goal.returns-clause-note
returns-clause-note c = note_places

pub returns-clause-loses_link : goal.returns-clause-loses_link
returns-clause-loses_link c = loses_link_places
