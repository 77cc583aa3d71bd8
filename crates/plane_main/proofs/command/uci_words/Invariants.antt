use Rattle.std.proofs.Common.{◌≡◌, take, map, string_bytes}
use Rattle.plane_main.proofs.command.uci_words.Given as goal

-- the texts so far are the words so far
abbrev pub invariant-loop-word : goal.invariant-loop-word
invariant-loop-word l = l.texts.items ≡ map string_bytes (take l.word-index l.rest)
