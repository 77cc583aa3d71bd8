use Rattle.uci_text.proofs.FirstLemmas.{no_commands}
use Rattle.uci_text.proofs.laws.no_commands_with_fault.Goals as goal

pub returns : goal.returns
returns c = no_commands
