use Rattle.std.proofs.Common.{sym}
use Rattle.answer_json.specs.AnswerJson.{IsDevice}
use Rattle.answer_json.proofs.MemberLemmas.{optional_there, optional_absent}
use Rattle.answer_json.proofs.answer_json.device_of.Goals as goal

pub returns-in_ok-read_device-in-Some-clause-found :
    goal.returns-in_ok-read_device-in-Some-clause-found
returns-in_ok-read_device-in-Some-clause-found c =
    optional_there IsDevice _ _ _ (sym c.in-Some.ensures) c.in_ok-read_device-in-Some.ensures.found

pub returns-in-None-clause-found : goal.returns-in-None-clause-found
returns-in-None-clause-found c = optional_absent IsDevice _ (sym c.in-None.ensures)
