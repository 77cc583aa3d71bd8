use Rattle.step_net.proofs.EventLemmas.{ends_taken, ends_refused}
use Rattle.step_net.proofs.take.note.Goals as goal

pub returns-in-Ok-clause-ends : goal.returns-in-Ok-clause-ends
returns-in-Ok-clause-ends c =
    ends_taken c.args.ended tt c.args.net.now c.note_requests.new.net c.note_requests.result c.in-Ok.is
    c.note_requests.ensures.told c.note_requests.ensures.silent

pub returns-in-Err-clause-ends : goal.returns-in-Err-clause-ends
returns-in-Err-clause-ends c =
    ends_refused c.args.ended c.in-Err.error c.args.net.now c.refuse_event.result c.in-Err.is
    c.refuse_event.ensures
