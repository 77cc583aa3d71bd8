use Rattle.settling_laws.proofs.SettlingStateLemmas.{has_devices, wants_all, calls_all}
use Rattle.settling_laws.proofs.laws.settling_states_want_what_inputs_want.Goals as goal

pub returns : goal.returns
returns c = record {
  wants = λ inputs c sound beside are. wants_all inputs c beside sound are;
  devices = has_devices;
  calls = λ inputs c sound beside are. calls_all inputs c beside sound are;
}
