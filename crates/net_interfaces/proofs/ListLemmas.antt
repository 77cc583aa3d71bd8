-- Lists that are made of one item after another.
use Rattle.std.proofs.Common.{◌≡◌, ℕ, ◌+◌, ◌<◌, List, ◌∷◌, ◌++◌, length, get_or, drop, Option, Some, None, refl, sym, ap, ◌∙◌, append_assoc, add-one, drop-cons}
use Rattle.std.specs.Prelude.{filter_map, option_to_list}
use Rattle.std.specs.List.{cons_option}

given_first : {Y : Type 0} (o : Option Y) (ys : List Y) → option_to_list o ++ ys ≡ cons_option o ys
given_first None ys = refl
given_first (Some y) ys = refl

-- what is made of one item, and then of those behind it
pub made_so_far : {X Y : Type 0} (f : X → Option Y) (before made : List Y) (xs : List X) (i : ℕ) (x : X) → i < length xs → x ≡ get_or xs i x → made ≡ before ++ option_to_list (f x) → made ++ filter_map f (drop (i + 1) xs) ≡ before
    ++ filter_map f (drop i xs)
made_so_far {Y = Y} f before made xs i x within is e =
    ap (λ (z : List Y). z ++ filter_map f (drop (i + 1) xs)) e
    ∙ append_assoc before (option_to_list (f x)) (filter_map f (drop (i + 1) xs))
    ∙ ap (λ (z : List Y). before ++ z) (given_first (f x) (filter_map f (drop (i + 1) xs)) ∙ sym (ap (filter_map f) (rest_is xs i x within is)))
  where
    rest_is : {X : Type 0} (xs : List X) (i : ℕ) (x : X) → i < length xs → x ≡ get_or xs i x → drop i xs ≡ x ∷ drop (i + 1) xs
    rest_is xs i x within is = drop-cons xs i x within ∙ rw (add-one, ← is) refl
