use Rattle.std.proofs.Common.{◌≡◌, ◌++◌, length}
use Rattle.net_rows.specs.Words as spec
use Rattle.net_rows.proofs.words.push_words.Given as goal

-- the words that were added, and those of the rest, are those of the text
abbrev pub invariant-loop-word : goal.invariant-loop-word
invariant-loop-word l = l.words ++ spec.words l.rest ≡ l.initial.words ++ spec.words l.initial.rest

abbrev pub decreases-loop-word : goal.decreases-loop-word
decreases-loop-word l = length l.rest
