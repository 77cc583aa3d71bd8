use Rattle.kern_memory.proofs.DeviceLemmas.{without_device}
use Rattle.kern_memory.proofs.devices.remove_device.Goals as goal

pub returns-clause-left : goal.returns-clause-left
returns-clause-left c = without_device c.args.devices.now.entries c.swap_remove.new.self.entries c.args.name.now c.swap_remove.ensures.updates.0
