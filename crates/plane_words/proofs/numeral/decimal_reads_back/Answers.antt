use Rattle.std.proofs.lemmas.Fmt.{decimal_is_IsNumeral}
use Rattle.plane_words.proofs.numeral.decimal_reads_back.Goals as goal

pub returns : goal.returns
returns c number small = let found = decimal_is_IsNumeral number small in record { digits = found.0; value = found.1 }
