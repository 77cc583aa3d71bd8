use Rattle.std.proofs.Common.{sym}
use Rattle.net_follow.proofs.PlaceLemmas.{come_had_none}
use Rattle.net_follow.proofs.devices.place_before.Goals as goal

pub returns-in-Add : goal.returns-in-Add
returns-in-Add c = λ inputs held free placed. let it = c.in-Add in sym (come_had_none c.args.event.now it.name it.carrier it.mtu it.mac it.is inputs held free)
