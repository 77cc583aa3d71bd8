use Rattle.step_net.proofs.EventLemmas.{loads, same_kernel}
use Rattle.step_net.proofs.take.take_load.Goals as goal

pub returns-clause-takes : goal.returns-clause-takes
returns-clause-takes c =
    loads c.args.network.now c.args.wireless.now c.args.net.now c.load-ended.new.self c.note.new.net
    c.load-ended.result c.note.result c.load-ended.ensures.ok c.load-ended.ensures.within
    c.load-ended.ensures.refused c.load-ended.ensures.err c.requires c.note.ensures.ends
    c.note.ensures.stays.0 c.note.ensures.stays.1

pub returns-clause-kernel : goal.returns-clause-kernel
returns-clause-kernel c =
    same_kernel c.args.net.now c.load-ended.new.self c.note.new.net c.load-ended.ensures.kernel
    c.note.ensures.stays.0 c.note.ensures.stays.1
