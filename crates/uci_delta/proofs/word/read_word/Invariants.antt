use Rattle.std.proofs.Common.{◌≡◌, drop}
use Rattle.uci_delta.specs.declared.quoting.Quoting.TheVariants.{Bare}
use Rattle.uci_delta.proofs.WordLemmas.{with_front, worded}
use Rattle.uci_delta.proofs.word.read_word.Given as goal

-- the value so far and that of the bytes to come
abbrev pub invariant-loop-byte : goal.invariant-loop-byte
invariant-loop-byte l = with_front l.value.items (worded l.quoting (drop l.byte-index l.bytes)) ≡ worded Bare l.bytes
