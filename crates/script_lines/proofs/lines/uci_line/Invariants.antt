use Rattle.std.proofs.Common.{◌≡◌, ◌++◌, drop}
use Rattle.script_lines.proofs.lines.uci_line.Given as goal

-- the words so far, and those that are left
abbrev pub invariant-loop-word : goal.invariant-loop-word
invariant-loop-word l = l.words ++ drop l.word-index l.rest ≡ l.rest
