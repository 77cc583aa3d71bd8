use Rattle.net_rules.proofs.TouchEventLemmas.{operator_state_stays, answer_after, answer_silent}
use Rattle.net_rules.proofs.asked_laws.operator_states_and_answers_touch_one.Goals as goal

pub returns : goal.returns
returns c = record { operator_state = operator_state_stays; answer = answer_after; silent = answer_silent }
