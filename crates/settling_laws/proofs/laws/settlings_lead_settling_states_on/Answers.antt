use Rattle.settling_laws.proofs.SettlingStateLemmas.{beside_then, history_then}
use Rattle.settling_laws.proofs.laws.settlings_lead_settling_states_on.Goals as goal

pub returns : goal.returns
returns c = record { beside = beside_then; history = history_then }
