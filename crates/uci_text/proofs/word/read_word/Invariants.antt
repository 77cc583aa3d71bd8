use Rattle.std.proofs.Common.{length}
use Rattle.uci_text.specs.ByteClass.{ends_word}
use Rattle.uci_text.specs.Found.{BeginsOutside}
use Rattle.uci_text.proofs.WordLemmas.{WordSoFar}
use Rattle.uci_text.proofs.word.read_word.Given as goal

abbrev pub invariant-loop-value : goal.invariant-loop-value
invariant-loop-value l = record { begins : BeginsOutside ends_word l.rest; read : WordSoFar l.bytes l.rest l.value.items }

abbrev pub decreases-loop-value : goal.decreases-loop-value
decreases-loop-value l = length l.rest
