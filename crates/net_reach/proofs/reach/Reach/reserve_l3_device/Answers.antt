use Rattle.net_reach.proofs.L3DeviceLemmas.{room_taken}
use Rattle.net_reach.proofs.reach.Reach.reserve_l3_device.Goals as goal

pub returns-clause-stays : goal.returns-clause-stays
returns-clause-stays c = λ inputs is. room_taken inputs c.args.self.now c.reserve_place.new.groups is c.reserve_place.ensures.places
