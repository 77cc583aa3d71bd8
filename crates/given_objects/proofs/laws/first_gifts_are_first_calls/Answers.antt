use Rattle.given_objects.proofs.CallLemmas.{take_found, put_found}
use Rattle.given_objects.proofs.laws.first_gifts_are_first_calls.Goals as goal

pub returns-clause-take : goal.returns-clause-take
returns-clause-take c devices held wanted gs found are own_held own_given know some none = take_found devices held wanted gs are own_held own_given know found some none

pub returns-clause-put : goal.returns-clause-put
returns-clause-put c devices held wanted gs found are own_held own_given know taken some none = put_found devices held wanted gs are own_held own_given know taken found some none
