use Rattle.plane_words.proofs.NumeralLemmas.{zero_in_front}
use Rattle.plane_words.proofs.numeral.zeros_in_front.Goals as goal

pub returns : goal.returns
returns c base number text = zero_in_front base number text
