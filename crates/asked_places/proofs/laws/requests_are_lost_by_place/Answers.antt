use Rattle.asked_places.proofs.LeftLemmas.{left_none, left_more, lost_still, numbers_more}
use Rattle.asked_places.proofs.laws.requests_are_lost_by_place.Goals as goal

pub returns-clause-none : goal.returns-clause-none
returns-clause-none c = left_none

pub returns-clause-more : goal.returns-clause-more
returns-clause-more c = left_more

pub returns-clause-lost : goal.returns-clause-lost
returns-clause-lost c = lost_still

pub returns-clause-numbers : goal.returns-clause-numbers
returns-clause-numbers c = numbers_more
