use Rattle.std.proofs.Common.{sym}
use Rattle.answer_json.specs.AnswerJson.{IsAddress}
use Rattle.answer_json.proofs.MemberLemmas.{optional_there, optional_absent, optional_not}
use Rattle.answer_json.proofs.answer_json.via_of.Goals as goal

pub returns-in_err-read_address-in-Some-clause-none :
    goal.returns-in_err-read_address-in-Some-clause-none
returns-in_err-read_address-in-Some-clause-none c =
    optional_not IsAddress _ _ c.from_residual.result c.from_residual.ensures
    (sym c.in-Some.ensures) c.in_err-read_address-in-Some.ensures.none

pub returns-in_ok-read_address-in-Some-clause-found :
    goal.returns-in_ok-read_address-in-Some-clause-found
returns-in_ok-read_address-in-Some-clause-found c =
    optional_there IsAddress _ _ _ (sym c.in-Some.ensures)
    c.in_ok-read_address-in-Some.ensures.found

pub returns-in-None-clause-found : goal.returns-in-None-clause-found
returns-in-None-clause-found c = optional_absent IsAddress _ (sym c.in-None.ensures)
