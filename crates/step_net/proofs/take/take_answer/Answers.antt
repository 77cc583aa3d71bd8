use Rattle.net_rules.specs.declared.event.Event.TheVariants as event
use Rattle.step_net.proofs.EventLemmas.{takes, same_kernel}
use Rattle.step_net.proofs.take.take_answer.Goals as goal

pub returns-clause-takes : goal.returns-clause-takes
returns-clause-takes c =
    takes (event.Answer c.args.interface c.args.number c.args.answer) c.args.net.now c.answer-ended.new.self
    c.note.new.net c.answer-ended.result c.note.result c.answer-ended.ensures.ok
    c.answer-ended.ensures.refused c.answer-ended.ensures.err c.requires c.note.ensures.ends
    c.note.ensures.stays.0 c.note.ensures.stays.1

pub returns-clause-kernel : goal.returns-clause-kernel
returns-clause-kernel c =
    same_kernel c.args.net.now c.answer-ended.new.self c.note.new.net c.answer-ended.ensures.kernel
    c.note.ensures.stays.0 c.note.ensures.stays.1
