use Rattle.net_rules.proofs.AnswerLemmas.{device_same, claimed_same, ready_same, l3_device_same, up_same, state_same}
use Rattle.net_rules.proofs.claim_laws.answers_touch_one.Goals as goal

pub returns : goal.returns
returns c = record {
  device = device_same;
  claimed = claimed_same;
  ready = ready_same;
  state = λ facts answer row st same is. state_same facts answer row same st is;
  up = λ facts answer row same. (l3_device_same facts answer row same, up_same facts answer row same);
}
