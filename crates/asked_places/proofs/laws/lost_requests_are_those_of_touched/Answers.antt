use Rattle.net_rules.specs.declared.inputs.OpenInterface.{OpenInterface}
use Rattle.net_rules.proofs.TableLemmas.{found_member}
use Rattle.asked_places.proofs.LostLemmas.{one_left, one_lost, all_left}
use Rattle.asked_places.proofs.laws.lost_requests_are_those_of_touched.Goals as goal

pub returns-clause-one : goal.returns-clause-one
returns-clause-one c = λ inputs place row o once at first found needless.
    let is = found_member (λ (x : OpenInterface). x.request.name) inputs.interfaces row.name o found in
    (one_left inputs once place row o at first is.member is.same needless, one_lost inputs once place row o at first is.member is.same needless)

pub returns-clause-stay : goal.returns-clause-stay
returns-clause-stay c = λ inputs place once none. all_left inputs once place none
