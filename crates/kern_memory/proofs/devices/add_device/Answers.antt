use Rattle.kern_memory.proofs.DeviceLemmas.{with_device}
use Rattle.kern_memory.proofs.devices.add_device.Goals as goal

pub returns-clause-ok : goal.returns-clause-ok
returns-clause-ok c = with_device c.args.devices.now.entries c.insert.new.self.entries c.args.name.now c.args.device c.in_ok-_old.ensures.updates.0
