use Rattle.net_reach.proofs.L3DeviceLemmas.{l3_device_set}
use Rattle.net_reach.proofs.reach.Reach.set_l3_device.Goals as goal

pub returns-clause-told : goal.returns-clause-told
returns-clause-told c = λ before now interface is there_is tells. l3_device_set before now c.args.self.now interface c.args.place c.args.was c.args.l3_device c.leave.new.groups c.join.new.groups is there_is tells c.leave.ensures.places
    c.join.ensures
