use Rattle.net_follow.proofs.PlaceLemmas.{come_reached, set_reached}
use Rattle.net_follow.proofs.devices.forget_place.Goals as goal

pub returns-in-Add : goal.returns-in-Add
returns-in-Add c = λ inputs held once free placed. let it = c.in-Add in come_reached c.args.event.now it.name it.carrier it.mtu it.mac it.is inputs held c.args.reach.now free placed

pub returns-in-Carrier : goal.returns-in-Carrier
returns-in-Carrier c = λ inputs held once free placed. set_reached c.args.event.now c.in-Carrier.name c.in-Carrier.on c.in-Carrier.is inputs c.args.reach.now placed
