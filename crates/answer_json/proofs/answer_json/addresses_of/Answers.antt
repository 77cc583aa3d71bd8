use Rattle.std.proofs.Common.{[], sym}
use Rattle.answer_json.specs.Members.{IsArray}
use Rattle.answer_json.specs.AnswerJson.{IsPrefix}
use Rattle.answer_json.proofs.MemberLemmas.{or_within, or_not, or_default, none_within}
use Rattle.answer_json.proofs.answer_json.addresses_of.Goals as goal

pub returns-in-Some-clause-found : goal.returns-in-Some-clause-found
returns-in-Some-clause-found c =
    or_within (IsArray IsPrefix) [] _ _ _ (sym c.in-Some.ensures) c.read_prefixes.ensures.found

pub returns-in-Some-clause-none : goal.returns-in-Some-clause-none
returns-in-Some-clause-none c =
    none_within c.read_prefixes.result _ _ (or_not (IsArray IsPrefix) [] _ _ (sym c.in-Some.ensures))
    c.read_prefixes.ensures.none

pub returns-in-None-clause-found : goal.returns-in-None-clause-found
returns-in-None-clause-found c =
    or_default (IsArray IsPrefix) [] _ _ (sym c.in-None.ensures) c.new.ensures
