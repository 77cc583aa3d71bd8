use Rattle.std.proofs.Common.{arith, rules, sym}
use Rattle.std.proofs.lemmas.Fn.{filter_same}
use Rattle.net_reach.specs.Groups.{without_place}
use Rattle.net_reach.proofs.RoomLemmas.{of_some, written_places, rooms_stay}
use Rattle.net_reach.proofs.groups.take_place.Goals as goal

pub returns-in-Some-clause-places : goal.returns-in-Some-clause-places
returns-in-Some-clause-places c =
    let had = sym c.in-Some.ensures.value in
    let written = ((c.get_mut.follows.holds c.retain.new.self).3 (of_some had)).0 in
    let left = filter_same _ _ _ (λ x b f' k. search rules) _ _ c.retain.ensures.filtered in
    written_places c.args.groups.now (c.get_mut.follows.lender c.retain.new.self) c.args.name.now c.retain.new.self written c.in-Some.group.now had (λ z. without_place z c.args.place) left

pub returns-in-Some-clause-rooms : goal.returns-in-Some-clause-rooms
returns-in-Some-clause-rooms c =
    let had = sym c.in-Some.ensures.value in
    let written = ((c.get_mut.follows.holds c.retain.new.self).3 (of_some had)).0 in
    rooms_stay c.args.groups.now (c.get_mut.follows.lender c.retain.new.self) c.args.name.now c.retain.new.self written c.in-Some.group.now had
    (λ room. omega (arith, room, c.retain.ensures.bound, c.retain.ensures.capacity))
