use Rattle.std.proofs.Common.{◌≡◌, ◌++◌, drop}
use Rattle.std.specs.List.{flat_map}
use Rattle.net_rows.specs.Words as spec
use Rattle.net_rows.proofs.words.words_in_all.Given as goal

-- the words so far, and then those of the other texts
abbrev pub invariant-loop-text : goal.invariant-loop-text
invariant-loop-text l = l.words ++ flat_map spec.words (drop l.text-index l.texts) ≡ flat_map spec.words l.texts
