use Rattle.net_reach.proofs.GoneLemmas.{forgot_one, forgot_none}
use Rattle.net_reach.proofs.changes.forget_device.Goals as goal

pub returns-in-Some : goal.returns-in-Some
returns-in-Some c = forgot_one c.args.devices.now c.remove.new.self c.lower_behind.new.devices c.args.name.now c.in-Some.gone c.remove.result c.remove.ensures.value c.in-Some.is c.remove.ensures.updates.0 c.lower_behind.ensures

pub returns-in-None : goal.returns-in-None
returns-in-None c = forgot_none c.args.devices.now c.remove.new.self c.args.name.now c.remove.result c.remove.ensures.value c.in-None.is c.in-None.ensures.unchanged
