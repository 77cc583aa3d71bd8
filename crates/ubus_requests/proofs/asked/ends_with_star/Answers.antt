use Rattle.std.proofs.Common.{◌≡◌, ℕ, List, sym, subst}
use Rattle.plane_words.specs.Pattern.{fits_front}
use Rattle.ubus_table.specs.Table.{same_text}
use Rattle.ubus_requests.proofs.AskedLemmas.{empty_of, fits_alone, nothing_fits}
use Rattle.ubus_requests.proofs.asked.ends_with_star.Goals as goal

pub returns-in-Some : goal.returns-in-Some
returns-in-Some c = λ apart text.
    subst (λ (p : List ℕ). fits_front p text ≡ same_text p text) (sym c.in-Some.ensures.cases.0) (fits_alone c.in-Some._front.now text c.in-Some.last.now apart)

pub returns-in-None : goal.returns-in-None
returns-in-None c = λ never text. subst (λ (p : List ℕ). fits_front p text ≡ same_text p text) (sym (empty_of c.args.pattern.now c.in-None.ensures.cases)) (nothing_fits text)
