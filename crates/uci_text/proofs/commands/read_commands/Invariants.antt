use Rattle.std.proofs.Common.{length}
use Rattle.uci_text.proofs.CommandsLemmas.{CommandsSoFar}
use Rattle.uci_text.proofs.commands.read_commands.Given as goal

abbrev pub invariant-loop-rest : goal.invariant-loop-rest
invariant-loop-rest l = CommandsSoFar l.text l.rest l.number l.commands

abbrev pub decreases-loop-rest : goal.decreases-loop-rest
decreases-loop-rest l = length l.rest
