-- A frame put in its place.
use Rattle.std.proofs.Common.{ℕ, suc, ◌≡◌, ◌+◌, ◌<◌, ◌≤◌, List, [], ◌∷◌, ◌++◌, length, take, drop, get_or, drop-cons, refl, sym, ap, ◌∙◌, arith, append_assoc}
use Rattle.std.specs.Prelude.{insert}
use Rattle.std.proofs.lemmas.List.{take_more, take_all, drop_all, take-append-drop}
use Rattle.std.specs.declared.cmp.Ordering.{Ordering}
use Rattle.std.specs.declared.cmp.Ordering.TheVariants.{Less, Equal, Greater}
use Rattle.plane_words.specs.InOrder.{placed, put_in}

-- a list from an item on
pub from_item : {K : Type 0} (xs : List K) (i : ℕ) (y : K) → i < length xs → y ≡ get_or xs i y → drop i xs ≡ y ∷ drop (i + 1) xs
from_item xs i y within is =
    drop-cons xs i y within ∙ (ap (λ z. z ∷ drop (suc i) xs) (sym is) ∙ ap (λ (n : ℕ). y ∷ drop n xs) (let e : suc i ≡ i + 1 = omega arith in e))

-- how an item is put before, at or behind the item with this index
put_at_item : {K : Type 0} (cmp : K → K → Ordering) (x y : K) (xs : List K) (i : ℕ) (r : Ordering) → i < length xs → y ≡ get_or xs i y → cmp x y ≡ r
    → put_in cmp x (drop i xs) ≡ placed r x y (drop (i + 1) xs) (put_in cmp x (drop (i + 1) xs))
put_at_item cmp x y xs i r within is here =
    ap (put_in cmp x) (from_item xs i y within is) ∙ ap (λ q. placed q x y (drop (i + 1) xs) (put_in cmp x (drop (i + 1) xs))) here

pub put_before : {K : Type 0} (cmp : K → K → Ordering) (x y : K) (xs : List K) (i : ℕ) → i < length xs → y ≡ get_or xs i y → cmp x y ≡ Less
    → put_in cmp x xs ≡ take i xs ++ put_in cmp x (drop i xs) → put_in cmp x xs ≡ insert xs i x
put_before cmp x y xs i within is less sofar =
    sofar ∙ ap (λ z. take i xs ++ z) (put_at_item cmp x y xs i Less within is less ∙ ap (λ z. x ∷ z) (sym (from_item xs i y within is)))

pub put_there : {K : Type 0} (cmp : K → K → Ordering) (x y : K) (xs : List K) (i : ℕ) → i < length xs → y ≡ get_or xs i y → cmp x y ≡ Equal
    → put_in cmp x xs ≡ take i xs ++ put_in cmp x (drop i xs) → put_in cmp x xs ≡ xs
put_there cmp x y xs i within is equal sofar =
    sofar ∙ ap (λ z. take i xs ++ z) (put_at_item cmp x y xs i Equal within is equal ∙ sym (from_item xs i y within is)) ∙ take-append-drop i xs

pub put_behind : {K : Type 0} (cmp : K → K → Ordering) (x y : K) (xs : List K) (i : ℕ) → i < length xs → y ≡ get_or xs i y → cmp x y ≡ Greater
    → put_in cmp x xs ≡ take i xs ++ put_in cmp x (drop i xs) → put_in cmp x xs ≡ take (i + 1) xs ++ put_in cmp x (drop (i + 1) xs)
put_behind cmp x y xs i within is greater sofar =
    sofar
    ∙ ap (λ z. take i xs ++ z) (put_at_item cmp x y xs i Greater within is greater)
    ∙ sym (append_assoc (take i xs) (y ∷ []) (put_in cmp x (drop (i + 1) xs)))
    ∙ ap (λ z. z ++ put_in cmp x (drop (i + 1) xs)) (ap (λ z. take i xs ++ z ∷ []) is ∙ sym (take_more xs i y within))

pub put_last : {K : Type 0} (cmp : K → K → Ordering) (x : K) (xs : List K) (i : ℕ) → length xs ≤ i
    → put_in cmp x xs ≡ take i xs ++ put_in cmp x (drop i xs) → put_in cmp x xs ≡ insert xs (length xs) x
put_last cmp x xs i over sofar =
    sofar
    ∙ ap (λ z. take i xs ++ put_in cmp x z) (drop_all i xs over)
    ∙ ap (λ z. z ++ x ∷ []) (take_all i xs over ∙ sym (take_all (length xs) xs (omega arith)))
    ∙ ap (λ z. take (length xs) xs ++ x ∷ z) (sym (drop_all (length xs) xs (omega arith)))
