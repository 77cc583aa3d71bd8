use Rattle.settling_laws.proofs.CountedLemmas.{counted_beside}
use Rattle.settling_laws.proofs.laws.counted_settling_states_are_of_inputs.Goals as goal

pub returns : goal.returns
returns c = counted_beside
