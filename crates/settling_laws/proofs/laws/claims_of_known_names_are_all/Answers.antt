use Rattle.settling_laws.proofs.ClaimLemmas.{none_unknown, all_claims}
use Rattle.settling_laws.proofs.laws.claims_of_known_names_are_all.Goals as goal

pub returns : goal.returns
returns c = record { unknown = none_unknown; all = all_claims }
