use Rattle.uci_delta.proofs.DeltasLemmas.{one_list}
use Rattle.uci_delta.proofs.laws.one_list_of_deltas.Goals as goal

pub returns : goal.returns
returns c = one_list
