use Rattle.given_objects.proofs.PlaceLemmas.{give_givers, withdraw_givers, give_others, withdraw_others, place_givers, note_givers, loses_link_givers}
use Rattle.given_objects.proofs.laws.givers_are_counted.Goals as goal

pub returns-clause-give : goal.returns-clause-give
returns-clause-give c = give_givers

pub returns-clause-withdraw : goal.returns-clause-withdraw
returns-clause-withdraw c = withdraw_givers

pub returns-clause-give_others : goal.returns-clause-give_others
returns-clause-give_others c = give_others

pub returns-clause-withdraw_others : goal.returns-clause-withdraw_others
returns-clause-withdraw_others c = withdraw_others

pub returns-clause-expect : goal.returns-clause-expect
returns-clause-expect c = place_givers

pub returns-clause-note : goal.returns-clause-note
returns-clause-note c = note_givers

pub returns-clause-loses_link : goal.returns-clause-loses_link
returns-clause-loses_link c = loses_link_givers
