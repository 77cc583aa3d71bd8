use Rattle.net_reach.proofs.GoneLemmas.{device_goes}
use Rattle.net_reach.proofs.reach.Reach.remove_device.Goals as goal

pub returns : goal.returns
returns c = λ inputs is once. device_goes inputs c.args.self.now c.forget_device.new.devices c.args.name.now is once c.forget_device.ensures
