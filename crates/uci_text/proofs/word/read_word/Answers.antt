use Rattle.uci_text.proofs.WordLemmas.{word_more, word_done}
use Rattle.uci_text.proofs.word.read_word.Goals as goal

pub returns-then-ends_word-clause-found : goal.returns-then-ends_word-clause-found
returns-then-ends_word-clause-found c =
    word_done _ _ _ _ (word_more _ _ _ _ _ c.loop-value.invariant.read c.in_ok-rest.ensures.found) c.if-ends_word.ensures c.from_vec.ensures

pub loop-value-preserved : goal.loop-value-preserved
loop-value-preserved c = record {
  begins = c.if-ends_word.ensures;
  read = (word_more _ _ _ _ _ c.loop-value.invariant.read c.in_ok-rest.ensures.found).so_far;
}
