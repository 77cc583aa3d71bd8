use Rattle.net_follow.proofs.PlaceLemmas.{come_forgotten}
use Rattle.net_follow.proofs.devices.forget_room.Goals as goal

pub returns-in-Add : goal.returns-in-Add
returns-in-Add c = λ inputs held once free placed. let it = c.in-Add in come_forgotten c.args.event.now it.name it.carrier it.mtu it.mac it.is inputs held c.args.reach.now c.remove_device.new.self once free placed c.remove_device.ensures
