use Rattle.settling_laws.proofs.LoadLemmas.{loaded_below, loaded_claims}
use Rattle.settling_laws.proofs.laws.loads_lead_graphs_on.Goals as goal

pub returns : goal.returns
returns c = record { below = loaded_below; claims = loaded_claims }
