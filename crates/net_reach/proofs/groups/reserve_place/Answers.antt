use Rattle.std.proofs.Common.{arith, ◌≡◌, None, ap, subst, sym, ◌∙◌}
use Rattle.std.specs.Ordering.{nat_cmp}
use Rattle.std.specs.Cmp.Lexicographic.{slice_cmp}
use Rattle.std.specs.BTreeMap.{get}
use Rattle.std.specs.Option.{option_copied_mut}
use Rattle.net_view.specs.RadioPorts.{group_in}
use Rattle.net_reach.specs.Groups.{Groups, HasRoomAt}
use Rattle.net_reach.proofs.RoomLemmas.{of_some, room_here, same_places, rooms_stay, new_places, new_rooms, unchanged_rooms}
use Rattle.net_reach.proofs.groups.reserve_place.Goals as goal

pub returns-in_err-reserve-clause-rooms : goal.returns-in_err-reserve-clause-rooms
returns-in_err-reserve-clause-rooms c =
    let had = sym c.in-Some.ensures.value in
    let written = ((c.get_mut.follows.holds c.reserve.new.self).3 (of_some had)).0 in
    rooms_stay c.args.groups.now (c.get_mut.follows.lender c.reserve.new.self) c.args.name.now c.reserve.new.self written c.in-Some.group.now had
    (λ room. omega (arith, room, c.reserve.ensures.len, c.reserve.ensures.capacity))

pub returns-in_err-reserve-clause-places : goal.returns-in_err-reserve-clause-places
returns-in_err-reserve-clause-places c =
    let had = sym c.in-Some.ensures.value in
    let written = ((c.get_mut.follows.holds c.reserve.new.self).3 (of_some had)).0 in
    same_places c.args.groups.now (c.get_mut.follows.lender c.reserve.new.self) c.args.name.now c.reserve.new.self written c.in-Some.group.now had c.reserve.ensures.items

pub returns-in-Some-clause-room : goal.returns-in-Some-clause-room
returns-in-Some-clause-room c =
    let had = sym c.in-Some.ensures.value in
    let written = ((c.get_mut.follows.holds c.reserve.new.self).3 (of_some had)).0 in
    room_here c.args.groups.now (c.get_mut.follows.lender c.reserve.new.self) c.args.name.now c.reserve.new.self written (omega (arith, c.in_ok-reserve.ensures.ok))

pub returns-in-Some-clause-rooms : goal.returns-in-Some-clause-rooms
returns-in-Some-clause-rooms c =
    let had = sym c.in-Some.ensures.value in
    let written = ((c.get_mut.follows.holds c.reserve.new.self).3 (of_some had)).0 in
    rooms_stay c.args.groups.now (c.get_mut.follows.lender c.reserve.new.self) c.args.name.now c.reserve.new.self written c.in-Some.group.now had
    (λ room. omega (arith, room, c.reserve.ensures.len, c.reserve.ensures.capacity))

pub returns-in-Some-clause-places : goal.returns-in-Some-clause-places
returns-in-Some-clause-places c =
    let had = sym c.in-Some.ensures.value in
    let written = ((c.get_mut.follows.holds c.reserve.new.self).3 (of_some had)).0 in
    same_places c.args.groups.now (c.get_mut.follows.lender c.reserve.new.self) c.args.name.now c.reserve.new.self written c.in-Some.group.now had c.reserve.ensures.items

pub returns-in_err-_none-clause-rooms : goal.returns-in_err-_none-clause-rooms
returns-in_err-_none-clause-rooms c =
    let old = c.get_mut.follows.lender-at-none in
    let same = c.get_mut.follows.holds-at-none in
    λ q has. unchanged_rooms old c.insert.new.self c.in_err-_none.ensures.err q (subst (λ (groups : Groups). HasRoomAt groups q) (sym same) has)

pub returns-clause-room : goal.returns-clause-room
returns-clause-room c = room_here c.get_mut.follows.lender-at-none c.insert.new.self c.args.name.now c.reserve-2.new.self c.in_ok-_none.ensures.updates.0 (omega (arith, c.in_ok-reserve-2.ensures.ok))

pub returns-clause-rooms : goal.returns-clause-rooms
returns-clause-rooms c =
    let old = c.get_mut.follows.lender-at-none in
    let same = c.get_mut.follows.holds-at-none in
    let none : get (slice_cmp nat_cmp) old c.args.name.now ≡ None = ap (λ (groups : Groups). get (slice_cmp nat_cmp) groups c.args.name.now) same ∙ sym c.get_mut.ensures.value ∙ ap option_copied_mut c.in_default.is in
    λ q has. new_rooms old c.insert.new.self c.args.name.now c.reserve-2.new.self c.in_ok-_none.ensures.updates.0 none q (subst (λ (groups : Groups). HasRoomAt groups q) (sym same) has)

pub returns-clause-places : goal.returns-clause-places
returns-clause-places c =
    let old = c.get_mut.follows.lender-at-none in
    let same = c.get_mut.follows.holds-at-none in
    let none : get (slice_cmp nat_cmp) old c.args.name.now ≡ None = ap (λ (groups : Groups). get (slice_cmp nat_cmp) groups c.args.name.now) same ∙ sym c.get_mut.ensures.value ∙ ap option_copied_mut c.in_default.is in
    λ q.
    new_places old c.insert.new.self c.args.name.now c.reserve-2.new.self c.in_ok-_none.ensures.updates.0 none (c.reserve-2.ensures.items ∙ c.new-group.ensures.items) q
    ∙ ap (λ (groups : Groups). group_in groups q) same
