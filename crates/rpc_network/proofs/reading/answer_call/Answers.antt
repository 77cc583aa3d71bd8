use Rattle.std.proofs.Common.{sym, subst}
use Rattle.std.specs.Prelude.{IfNone}
use Rattle.serde_json.specs.View.{view}
use Rattle.answer_json.specs.AnswerJson.{IsAnswer}
use Rattle.net_rules.specs.declared.answer.Answer.{Answer}
use Rattle.rpc_network.proofs.reading.answer_call.Goals as goal

pub returns-in-None : goal.returns-in-None
returns-in-None c asked requests =
    subst (λ found. IfNone found ((answer : Answer) → IsAnswer (view c.in-Ok-json_of_blob.value) answer → ⊥))
    c.in-None.is c.in-Ok-read_answer.ensures.none requests.answer
    (subst (λ value. IsAnswer value requests.answer) (sym c.in-Ok-json_of_blob.ensures) requests.answers)
