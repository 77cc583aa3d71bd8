use Rattle.plane_words.proofs.NumeralLemmas.{hex_spelled}
use Rattle.plane_words.proofs.numeral.hex_reads_back.Goals as goal

pub returns-clause-spelled : goal.returns-clause-spelled
returns-clause-spelled c = hex_spelled
