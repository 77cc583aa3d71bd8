use Rattle.uci_tree.proofs.LawLemmas.{fault_has_reason}
use Rattle.uci_tree.proofs.laws.no_tree_fault_is_memory.Goals as goal

pub returns-clause-memory : goal.returns-clause-memory
returns-clause-memory c text none = none

pub returns-clause-reason : goal.returns-clause-reason
returns-clause-reason c = fault_has_reason
