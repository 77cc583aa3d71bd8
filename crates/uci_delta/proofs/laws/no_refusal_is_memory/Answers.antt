use Rattle.uci_delta.proofs.RefusalLemmas.{not_for_memory}
use Rattle.uci_delta.proofs.laws.no_refusal_is_memory.Goals as goal

pub returns : goal.returns
returns c = not_for_memory
