use Rattle.std.proofs.Common.{◌≡◌, length, None}
use Rattle.uci_cli.specs.Words.{asked_from, asked_of}
use Rattle.uci_cli.proofs.words.read_words.Given as goal

-- what is left asks, behind the options so far, for what the words ask
abbrev pub invariant-loop-word : goal.invariant-loop-word
invariant-loop-word l = asked_from l.options None l.rest ≡ asked_of l.words

abbrev pub decreases-loop-word : goal.decreases-loop-word
decreases-loop-word l = length l.rest
