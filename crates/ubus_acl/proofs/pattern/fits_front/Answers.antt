use Rattle.std.proofs.Common.{rules, ◌≡◌, ◌++◌, ◌∷◌, [], ◌∙◌, false, sym, ap}
use Rattle.std.specs.Prelude.{nat_eq}
use Rattle.std.specs.Cmp.Lexicographic.{pointwise}
use Rattle.plane_words.specs.Pattern as words
use Rattle.ubus_acl.proofs.PatternLemmas.{fits_with_star, fits_without_star}
use Rattle.ubus_acl.proofs.pattern.fits_front.Goals as goal

pub returns-then-last-eq42 : goal.returns-then-last-eq42
returns-then-last-eq42 c =
    let front = c.in-Some.front.now in
    let text = c.args.text.now in
    let last : c.in-Some.last.now ≡ words.star = search rules in
    let whole : c.args.pattern.now ≡ front ++ words.star ∷ [] = c.in-Some.ensures.cases.0 ∙ ap (λ b. front ++ b ∷ []) last in
    c.starts_with.ensures.value ∙ (sym (fits_with_star front text) ∙ ap (λ p. words.fits_front p text) (sym whole))

pub returns-else-last-eq42 : goal.returns-else-last-eq42
returns-else-last-eq42 c =
    let front = c.in-Some.front.now in
    let text = c.args.text.now in
    let last : nat_eq c.in-Some.last.now words.star ≡ false = search rules in
    let whole : c.args.pattern.now ≡ front ++ c.in-Some.last.now ∷ [] = c.in-Some.ensures.cases.0 in
    c.eq.ensures ∙ (ap (λ p. pointwise nat_eq p text) whole ∙ (sym (fits_without_star front text c.in-Some.last.now last) ∙ ap (λ p. words.fits_front p text) (sym whole)))
