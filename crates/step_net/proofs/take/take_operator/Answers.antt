use Rattle.net_rules.specs.declared.event.Event.TheVariants as event
use Rattle.step_net.proofs.EventLemmas.{takes, same_kernel}
use Rattle.step_net.proofs.take.take_operator.Goals as goal

pub returns-clause-takes : goal.returns-clause-takes
returns-clause-takes c =
    takes (event.Operator c.args.interface c.args.up) c.args.net.now c.operator-ended.new.self
    c.note.new.net c.operator-ended.result c.note.result c.operator-ended.ensures.ok
    c.operator-ended.ensures.refused c.operator-ended.ensures.err c.requires c.note.ensures.ends
    c.note.ensures.stays.0 c.note.ensures.stays.1

pub returns-clause-kernel : goal.returns-clause-kernel
returns-clause-kernel c =
    same_kernel c.args.net.now c.operator-ended.new.self c.note.new.net c.operator-ended.ensures.kernel
    c.note.ensures.stays.0 c.note.ensures.stays.1
