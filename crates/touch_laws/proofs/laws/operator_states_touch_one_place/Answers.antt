use Rattle.touch_laws.proofs.OperatorStateLemmas.{stays_as, follows}
use Rattle.touch_laws.proofs.laws.operator_states_touch_one_place.Goals as goal

pub returns : goal.returns
returns c = record {
  stay = λ inputs interface up place row is. stays_as inputs interface up place is row;
  follow = λ inputs interface up place reached is. follows inputs interface up place is reached;
}
