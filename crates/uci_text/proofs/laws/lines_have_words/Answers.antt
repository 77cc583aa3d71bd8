use Rattle.uci_text.proofs.WordsLemmas.{reading_has_words}
use Rattle.uci_text.proofs.laws.lines_have_words.Goals as goal

pub returns : goal.returns
returns c = reading_has_words
