use Rattle.uci_text.proofs.CommandsLemmas.{commands_are_one}
use Rattle.uci_text.proofs.laws.one_list_of_commands.Goals as goal

pub returns : goal.returns
returns c = commands_are_one
