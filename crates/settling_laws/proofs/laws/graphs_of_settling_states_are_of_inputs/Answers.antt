use Rattle.settling_laws.proofs.LentLemmas.{rows_known, devices_known, wants_below, holds_below}
use Rattle.settling_laws.proofs.laws.graphs_of_settling_states_are_of_inputs.Goals as goal

pub returns : goal.returns
returns c = record { rows = rows_known; devices = devices_known; wants = wants_below; holds = holds_below }
