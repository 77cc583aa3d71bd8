use Rattle.std.proofs.Common.{length}
use Rattle.uci_text.proofs.CommandLemmas.{CommandNext}
use Rattle.uci_text.proofs.command.read_command.Given as goal

abbrev pub invariant-loop-words : goal.invariant-loop-words
invariant-loop-words l = CommandNext l.bytes l.words l.rest

abbrev pub decreases-loop-words : goal.decreases-loop-words
decreases-loop-words l = length l.rest
