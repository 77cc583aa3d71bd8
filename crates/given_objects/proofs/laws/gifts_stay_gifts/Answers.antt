use Rattle.given_objects.proofs.KeepLemmas.{no_gifts, place_gifts, give_gifts, withdraw_gifts, note_gifts, loses_link_gifts}
use Rattle.given_objects.proofs.laws.gifts_stay_gifts.Goals as goal

pub returns-clause-none : goal.returns-clause-none
returns-clause-none c = no_gifts

pub returns-clause-place : goal.returns-clause-place
returns-clause-place c = place_gifts

pub returns-clause-give : goal.returns-clause-give
returns-clause-give c = give_gifts

pub returns-clause-withdraw : goal.returns-clause-withdraw
returns-clause-withdraw c = withdraw_gifts

pub returns-clause-note : goal.returns-clause-note
returns-clause-note c = note_gifts

pub returns-clause-loses_link : goal.returns-clause-loses_link
returns-clause-loses_link c = loses_link_gifts
