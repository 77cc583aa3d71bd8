use Rattle.rpc_uci.proofs.AnswerLemmas.{answers_are_one}
use Rattle.rpc_uci.proofs.laws.one_answer.Goals as goal

pub returns : goal.returns
returns c = answers_are_one
