-- What a pattern fits, by its last byte.
use Rattle.std.proofs.Common.{ℕ, ◌≡◌, List, [], ◌∷◌, ◌++◌, Bool, true, false, length, take, refl, sym, ap, subst, ◌∙◌}
use Rattle.std.specs.Prelude.{nat_eq, ◌&&◌, ◌||◌}
use Rattle.std.specs.Cmp.Lexicographic.{pointwise}
use Rattle.plane_words.specs.Pattern.{star, is_nothing, fits_front}

something_left : (front : List ℕ) (last : ℕ) → is_nothing (front ++ last ∷ []) ≡ false
something_left [] last = refl
something_left (byte ∷ front) last = refl

and_false : (a b : Bool) → b ≡ false → (a && b) ≡ false
and_false true b h = h
and_false false b h = refl

or_false : (a b : Bool) → a ≡ false → (a || b) ≡ b
or_false true b h = absurd (cc h)
or_false false b h = refl

-- a last `*` stands for any rest
pub fits_with_star : (front text : List ℕ) → fits_front (front ++ star ∷ []) text ≡ pointwise nat_eq front (take (length front) text)
fits_with_star [] [] = refl
fits_with_star [] (first ∷ rest) = refl
fits_with_star (byte ∷ front) [] = and_false (nat_eq byte star) _ (something_left front star)
fits_with_star (byte ∷ front) (first ∷ rest) =
    or_false _ (nat_eq byte first && fits_front (front ++ star ∷ []) rest) (and_false (nat_eq byte star) _ (something_left front star))
    ∙ ap (λ b. nat_eq byte first && b) (fits_with_star front rest)

-- another last byte stands for itself, as all do
pub fits_without_star : (front text : List ℕ) (last : ℕ) → nat_eq last star ≡ false → fits_front (front ++ last ∷ []) text ≡ pointwise nat_eq (front ++ last ∷ []) text
fits_without_star [] [] last h = rw h refl
fits_without_star [] (first ∷ []) last h = rw h refl
fits_without_star [] (first ∷ second ∷ rest) last h = rw h refl
fits_without_star (byte ∷ front) [] last h = and_false (nat_eq byte star) _ (something_left front last)
fits_without_star (byte ∷ front) (first ∷ rest) last h =
    or_false _ (nat_eq byte first && fits_front (front ++ last ∷ []) rest) (and_false (nat_eq byte star) _ (something_left front last))
    ∙ ap (λ b. nat_eq byte first && b) (fits_without_star front rest last h)
