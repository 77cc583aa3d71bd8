use Rattle.step_net.specs.Taken.{telled_of}
use Rattle.step_net.proofs.EventLemmas.{tries, still_of}
use Rattle.step_net.proofs.take.take_device.Goals as goal

pub returns-clause-tries : goal.returns-clause-tries
returns-clause-tries g c =
    tries c.args.event.now c.args.net.now c.device-ended.new.self c.note.new.net
    (telled_of g.K.Kernel c.args.kernel.now c.device-ended.new.kernel) c.device-ended.ensures.later
    c.requires.told c.note.ensures.stays.0 c.note.ensures.stays.1 c.device-ended.result
    c.note.result c.device-ended.ensures.ok c.device-ended.ensures.refused
    c.device-ended.ensures.err c.device-ended.ensures.asked c.note.ensures.ends

pub returns-clause-of : goal.returns-clause-of
returns-clause-of g c =
    still_of g.K.Kernel c.device-ended.new.kernel c.device-ended.new.self c.note.new.net
    c.device-ended.ensures.of c.note.ensures.stays.0 c.note.ensures.stays.1
