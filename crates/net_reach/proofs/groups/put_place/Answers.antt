use Rattle.std.proofs.Common.{sym}
use Rattle.net_reach.proofs.RoomLemmas.{of_some, place_comes}
use Rattle.net_reach.proofs.groups.put_place.Goals as goal

pub returns-in-Some : goal.returns-in-Some
returns-in-Some c =
    let had = sym c.in-Some.ensures.value in
    let written = ((c.get_mut.follows.holds c.push_reserved.new.self).3 (of_some had)).0 in
    place_comes c.args.groups.now (c.get_mut.follows.lender c.push_reserved.new.self) c.args.name.now c.push_reserved.new.self written c.in-Some.group.now had c.args.place c.push_reserved.ensures.items
