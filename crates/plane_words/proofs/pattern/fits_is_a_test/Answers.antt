use Rattle.plane_words.proofs.PatternLemmas.{fits_to, fits_from}
use Rattle.plane_words.proofs.pattern.fits_is_a_test.Goals as goal

pub returns : goal.returns
returns c pattern text = (fits_to pattern text, fits_from pattern text)
