use Rattle.given_objects.proofs.KeepLemmas.{note_put, note_take, note_given}
use Rattle.given_objects.proofs.laws.notes_follow_calls.Goals as goal

pub returns-clause-put : goal.returns-clause-put
returns-clause-put c = note_put

pub returns-clause-take : goal.returns-clause-take
returns-clause-take c gs o mtu mac = note_take gs o

pub returns-clause-given : goal.returns-clause-given
returns-clause-given c = note_given
