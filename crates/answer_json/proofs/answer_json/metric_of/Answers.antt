use Rattle.std.proofs.Common.{sym}
use Rattle.answer_json.specs.AnswerJson.{IsMetric}
use Rattle.answer_json.proofs.MemberLemmas.{or_found, or_absent}
use Rattle.answer_json.proofs.answer_json.metric_of.Goals as goal

pub returns-in-Some-clause-found : goal.returns-in-Some-clause-found
returns-in-Some-clause-found c =
    or_found IsMetric 0 _ _ _ (sym c.in-Some.ensures) c.read_metric.ensures.found

pub returns-in-None-clause-found : goal.returns-in-None-clause-found
returns-in-None-clause-found c = or_absent IsMetric 0 _ (sym c.in-None.ensures)
