use Rattle.net_rules.specs.declared.event.Event.TheVariants as event
use Rattle.step_net.proofs.EventLemmas.{takes, same_kernel}
use Rattle.step_net.proofs.take.take_radio.Goals as goal

pub returns-clause-takes : goal.returns-clause-takes
returns-clause-takes c =
    takes (event.Radio c.args.radio c.args.number c.args.ports) c.args.net.now c.radio-ended.new.self
    c.note.new.net c.radio-ended.result c.note.result c.radio-ended.ensures.ok
    c.radio-ended.ensures.refused c.radio-ended.ensures.err c.requires c.note.ensures.ends
    c.note.ensures.stays.0 c.note.ensures.stays.1

pub returns-clause-kernel : goal.returns-clause-kernel
returns-clause-kernel c =
    same_kernel c.args.net.now c.radio-ended.new.self c.note.new.net c.radio-ended.ensures.kernel
    c.note.ensures.stays.0 c.note.ensures.stays.1
