use Rattle.std.proofs.Common.{◌≡◌, true, sym, subst}
use Rattle.plane_words.specs.Pattern.{star, fits_front}
use Rattle.plane_words.proofs.PatternLemmas.{fitting_begins, begins_fits, fitting_is_itself, fits_front_itself}
use Rattle.std.proofs.Common.{[], ◌∷◌, ◌++◌}
use Rattle.plane_words.proofs.pattern.front_patterns.Goals as goal

pub returns-clause-ends_with_star : goal.returns-clause-ends_with_star
returns-clause-ends_with_star c front text = (fitting_begins front text, λ found. subst (λ whole. fits_front (front ++ star ∷ []) whole ≡ true) (sym found.1) (begins_fits front found.0))

pub returns-clause-other : goal.returns-clause-other
returns-clause-other c pattern text other = (fitting_is_itself pattern text other, λ same. subst (λ whole. fits_front pattern whole ≡ true) (sym same) (fits_front_itself pattern))
