use Rattle.std.proofs.Common.{arith, ◌<◌, ◌==◌, ℕ, List, Contains, length, ap, subst, sym}
use Rattle.std.specs.Prelude.{◌↔◌}
use Rattle.std.specs.List.{IsDistinct}
use Rattle.net_rules.proofs.TouchNumberLemmas.{between}
use Rattle.known_inputs.specs.Known.{Known}
use Rattle.asked_places.specs.Losing.{lost_at, lost_at_places}
use Rattle.asked_places.proofs.OrderLemmas.{lost_once}
use Rattle.state_requests.proofs.ListLemmas.{few_given}
use Rattle.state_requests.proofs.StepLemmas.{known_asked, all_told}
use Rattle.state_requests.proofs.renewing.renew.Goals as goal

pub let_down_all-requires-clause-places : goal.let_down_all-requires-clause-places
let_down_all-requires-clause-places g c = λ place member. (between 0 (length c.args.inputs.now.inputs.conf.interfaces) c.args.places.now place c.requires.places member).1

pub tell_lost-requires-clause-once : goal.tell_lost-requires-clause-once
tell_lost-requires-clause-once g c = subst (λ (ns : List ℕ). IsDistinct (λ a b. a == b) ns) (sym c.lose_requests.ensures.lost)
    (lost_once c.args.inputs.now.inputs c.stand_once.ensures 0 (length c.args.inputs.now.inputs.conf.interfaces) c.args.places.now c.requires.places)

pub tell_lost-requires-clause-room : goal.tell_lost-requires-clause-room
tell_lost-requires-clause-room g c =
    let given = few_given (lost_at c.args.inputs.now.inputs) c.args.places.now in
    let same = ap (λ (ns : List ℕ). length ns) c.lose_requests.ensures.lost in
    let room = c.requires.room in
    omega (arith, given, same, room)

pub open_requests-requires-clause-room : goal.open_requests-requires-clause-room
open_requests-requires-clause-room g c =
    let given = few_given (lost_at c.args.inputs.now.inputs) c.args.places.now in
    let same = ap (λ (ns : List ℕ). length ns) c.lose_requests.ensures.lost in
    let room = c.requires.room in
    let len = c.tell_lost.ensures.len in
    let capacity = c.tell_lost.ensures.capacity in
    omega (arith, given, same, room, len, capacity)

pub refresh-requires-clause-places : goal.refresh-requires-clause-places
refresh-requires-clause-places g c = λ place member.
    let inputs = c.args.inputs.now in
    let asked = known_asked inputs c.lose_requests.new.inputs c.open_requests.new.inputs c.args.places.now c.requires.places c.lose_requests.ensures.inputs c.open_requests.ensures.inputs in
    let below = (between 0 (length inputs.inputs.conf.interfaces) c.args.places.now place c.requires.places member).1 in
    subst (λ (k : Known). place < length k.inputs.conf.interfaces) (sym asked) below

pub returns-clause-inputs : goal.returns-clause-inputs
returns-clause-inputs g c = known_asked c.args.inputs.now c.lose_requests.new.inputs c.open_requests.new.inputs c.args.places.now c.requires.places c.lose_requests.ensures.inputs c.open_requests.ensures.inputs

pub returns-clause-told : goal.returns-clause-told
returns-clause-told g c =
    let first = c.args.inputs.now in
    let places = c.args.places.now in
    let told = c.tell_lost.ensures.told in
    let members : (n : ℕ) → Contains told.0 n ↔ Contains (lost_at_places first.inputs places) n = subst (λ (ns : List ℕ). (n : ℕ) → Contains told.0 n ↔ Contains ns n) c.lose_requests.ensures.lost told.2 in
    all_told first c.lose_requests.new.inputs places told.0 c.args.notices.now.items c.tell_lost.new.notices.items c.open_requests.new.notices.items c.stand_once.ensures c.requires.places c.lose_requests.ensures.inputs told.1 members told.3
    c.open_requests.ensures.told
