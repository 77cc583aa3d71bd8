use Rattle.uci_text.proofs.MemoryLemmas.{fault_is_no_memory, command_fault_is_no_memory}
use Rattle.uci_text.proofs.laws.no_fault_is_memory.Goals as goal

pub returns-clause-lines : goal.returns-clause-lines
returns-clause-lines c text first = fault_is_no_memory _ first.bad first.fault

pub returns-clause-commands : goal.returns-clause-commands
returns-clause-commands c text first = command_fault_is_no_memory _ first.bad first.fault
