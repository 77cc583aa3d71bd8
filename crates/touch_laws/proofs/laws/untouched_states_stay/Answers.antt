use Rattle.touch_laws.proofs.StateLemmas.{behind_device, behind_operator_state}
use Rattle.touch_laws.proofs.laws.untouched_states_stay.Goals as goal

pub returns : goal.returns
returns c = record { device = behind_device; operator_state = behind_operator_state }
