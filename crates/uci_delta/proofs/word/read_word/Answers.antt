use Rattle.uci_delta.proofs.WordLemmas.{word_stops, word_open, no_empty_word, word_found}
use Rattle.uci_delta.proofs.word.read_word.Goals as goal

pub returns-then-ends-clause-none : goal.returns-then-ends-clause-none
returns-then-ends-clause-none c = word_stops _ _ _ _ _ c.loop-byte.invariant c.loop-byte-test.true c.ends.ensures c.if-ends.true

pub returns-in_default : goal.returns-in_default
returns-in_default c = record { found = tt; none = word_open _ _ _ _ c.loop-byte.invariant c.loop-byte-test.false c.in_default.not-Bare }

pub returns-then-is_empty-clause-none : goal.returns-then-is_empty-clause-none
returns-then-is_empty-clause-none c = no_empty_word _ _ c.is_empty.ensures c.if-is_empty.true

pub returns-clause-found : goal.returns-clause-found
returns-clause-found c = word_found _ _ _ _ _ _ c.loop-byte.invariant c.loop-byte-test.false c.in-Bare.is c.is_empty.ensures c.if-is_empty.false c.from_vec.ensures
