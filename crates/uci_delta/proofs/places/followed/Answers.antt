use Rattle.uci_delta.proofs.BatchLemmas.{follow_option, follow_kind, follow_added}
use Rattle.uci_delta.proofs.places.followed.Goals as goal

pub returns-in-Some-default : goal.returns-in-Some-default
returns-in-Some-default c = λ old new h e b. follow_option c.args.places c.args.delta.now.section _ _ c.args.delta.now.change old new c.in-Some-default.is-0 h e

pub returns-in-None-Set : goal.returns-in-None-Set
returns-in-None-Set c = λ old new h e b. follow_kind c.args.places c.noted.result _ _ _ _ old new _ c.in-None-Set.is-0 c.in-None-Set.is-1 c.noted.ensures h e b

pub returns-in-None-Add : goal.returns-in-None-Add
returns-in-None-Add c = λ old new h e b. follow_added c.args.places c.noted-in-None-Add.result _ _ _ _ old new _ c.in-None-Add.is-0 c.in-None-Add.is-1 c.noted-in-None-Add.ensures h e b
