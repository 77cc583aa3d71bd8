use Rattle.settling_laws.proofs.SettlingStateLemmas.{looked_ready, quiet_ready}
use Rattle.settling_laws.proofs.laws.settling_states_of_histories_are_ready.Goals as goal

pub returns : goal.returns
returns c = record {
  looked = λ inputs c before history beside are lower may looked. looked_ready inputs c history beside are lower may before looked;
  quiet = λ inputs c history beside are lower holds quiet. quiet_ready inputs c history beside are lower holds quiet;
}
