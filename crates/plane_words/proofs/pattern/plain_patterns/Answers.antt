use Rattle.std.proofs.Common.{◌≡◌, true, sym, subst}
use Rattle.plane_words.specs.Pattern.{fits}
use Rattle.plane_words.proofs.PatternLemmas.{plain_is_itself, fits_itself}
use Rattle.plane_words.proofs.pattern.plain_patterns.Goals as goal

pub returns : goal.returns
returns c pattern text stars marks = (plain_is_itself pattern text stars marks, λ same. subst (λ whole. fits pattern whole ≡ true) (sym same) (fits_itself pattern stars))
