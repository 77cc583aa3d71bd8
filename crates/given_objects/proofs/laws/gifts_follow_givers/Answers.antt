use Rattle.given_objects.proofs.KeepLemmas.{give_given, withdraw_last, withdraw_one, give_held, withdraw_held}
use Rattle.given_objects.proofs.laws.gifts_follow_givers.Goals as goal

pub returns-clause-give : goal.returns-clause-give
returns-clause-give c = give_given

pub returns-clause-last : goal.returns-clause-last
returns-clause-last c = withdraw_last

pub returns-clause-others : goal.returns-clause-others
returns-clause-others c = withdraw_one

pub returns-clause-held_more : goal.returns-clause-held_more
returns-clause-held_more c = give_held

pub returns-clause-held_less : goal.returns-clause-held_less
returns-clause-held_less c = withdraw_held
