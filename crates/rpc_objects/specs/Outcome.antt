-- What is told of a call, by what its object answers.
use Rattle.std.specs.Prelude.{[], false, None}
use Rattle.step_net.specs.declared.told.Told.{Told}
use Rattle.rpc_network.specs.declared.net_answer.NetAnswer.{NetAnswer}
use Rattle.rpc_objects.specs.declared.local_answer.LocalAnswer.{LocalAnswer}
use Rattle.rpc_objects.specs.declared.session_call.SessionAnswer.{SessionAnswer}
use Rattle.rpc_objects.specs.declared.outcome.Outcome.{Outcome}
use Rattle.rpc_objects.specs.Calls.{of_network}

-- the plane of interfaces is asked nothing
abbrev pub quiet : LocalAnswer → Outcome
quiet answer = record { answer = answer; requests = []; refusal = None; has_created = false }

abbrev pub of_session : SessionAnswer → Outcome
of_session told = record { answer = told.answer; requests = []; refusal = None; has_created = told.has_created }

-- behind the call the files were loaded anew
abbrev pub of_reload : LocalAnswer → Told → Outcome
of_reload answer told = record { answer = answer; requests = told.shown; refusal = told.refusal; has_created = false }

abbrev pub of_net : NetAnswer → Outcome
of_net told = record { answer = of_network told.answer; requests = told.requests; refusal = None; has_created = false }
