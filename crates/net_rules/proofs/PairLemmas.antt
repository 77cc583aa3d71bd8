-- Lists beside each other, of which the first of each key count.
use Rattle.std.proofs.Common.{arith, ℕ, zero, suc, ◌≡◌, ◌+◌, List, [], ◌∷◌, ◌++◌, length, take, Bool, true, false, cond, Some, refl, ap, sym, ◌∙◌}
use Rattle.std.specs.Prelude.{filter, not, ◌&&◌, ◌||◌, bytes_eq, slice_get}
use Rattle.std.specs.List.{flat_map, list_any, zip}
use Rattle.kern_model.proofs.TestLemmas.{true_of_both_ways, bytes_same, same_bytes}
use Rattle.net_rules.specs.Firsts.{firsts}

-- texts are equal both ways
pub bytes_flip : (a b : List ℕ) → bytes_eq a b ≡ bytes_eq b a
bytes_flip a b = true_of_both_ways (bytes_eq a b) (bytes_eq b a) (λ h. same_bytes b a (sym (bytes_same a b h))) (λ h. same_bytes a b (sym (bytes_same b a h)))

-- a filter of a filter
pub filter_twice : {X : Type 0} (p q : X → Bool) (xs : List X) → filter p (filter q xs) ≡ filter (λ x. p x && q x) xs
filter_twice p q [] = refl
filter_twice {X} p q (x ∷ xs) = by (q x) (p x) refl (filter_twice p q xs)
  where
    by : (b c : Bool) → p x ≡ c → filter p (filter q xs) ≡ filter (λ y. p y && q y) xs → filter p (cond b (x ∷ filter q xs) (filter q xs)) ≡ cond (c && b) (x ∷ filter (λ y. p y && q y) xs) (filter (λ y. p y && q y) xs)
    by true true is rest = ap (λ c. cond c (x ∷ filter p (filter q xs)) (filter p (filter q xs))) is ∙ ap (λ ys. x ∷ ys) rest
    by true false is rest = ap (λ c. cond c (x ∷ filter p (filter q xs)) (filter p (filter q xs))) is ∙ rest
    by false true is rest = rest
    by false false is rest = rest

pub all_pass : {X : Type 0} (xs : List X) → filter (λ x. true) xs ≡ xs
all_pass [] = refl
all_pass (x ∷ xs) = ap (λ ys. x ∷ ys) (all_pass xs)

-- the item of a key is not the first where one before it has the key
split_test : (a b c : Bool) → (a && not (b || c)) ≡ ((a && not b) && not c)
split_test true true c = refl
split_test true false c = refl
split_test false b c = refl

module _ {X S Y : Type 0} (key : X → List ℕ) (f : X → List Y) (g : X × S → List Y) where
  abbrev pub beside : List X → List S → List Y
  beside xs ss = flat_map g (zip xs ss)

  -- what stands beside an item gives what the item gives, where the item is the first of a key that a test lets through
  abbrev pub GiveAs : (List ℕ → Bool) → List X → List S → Type 0
  GiveAs free xs ss = (i : ℕ) (x : X) (s : S) → slice_get xs i ≡ Some x → slice_get ss i ≡ Some s → g (x, s) ≡ cond (free (key x) && not (list_any (λ y. bytes_eq (key y) (key x)) (take i xs))) (f x) []

  -- the test of the others, once an item has its key
  abbrev others : (List ℕ → Bool) → X → List ℕ → Bool
  others free x name = free name && not (bytes_eq name (key x))

  later : (free : List ℕ → Bool) (x : X) (s : S) (xs : List X) (ss : List S) → GiveAs free (x ∷ xs) (s ∷ ss) → GiveAs (others free x) xs ss
  later free x s xs ss each i y t row state =
      let any : Bool = list_any (λ z. bytes_eq (key z) (key y)) (take i xs) in
      each (suc i) y t row state
      ∙ ap (λ b. cond (free (key y) && not (b || any)) (f y) []) (bytes_flip (key x) (key y))
      ∙ ap (λ b. cond b (f y) []) (split_test (free (key y)) (bytes_eq (key y) (key x)) any)

  first_here : (free : List ℕ → Bool) (x : X) (xs : List X) (b : Bool) → free (key x) ≡ b → cond (b && not false) (f x) [] ++ flat_map f (filter (λ y. others free x (key y)) (firsts key xs))
      ≡ flat_map f (cond b (x ∷ filter (λ y. free (key y)) (filter (λ y. not (bytes_eq (key y) (key x))) (firsts key xs))) (filter (λ y. free (key y)) (filter (λ y. not (bytes_eq (key y) (key x))) (firsts key xs))))
  first_here free x xs true is = ap (λ ys. f x ++ flat_map f ys) (sym (filter_twice (λ y. free (key y)) (λ y. not (bytes_eq (key y) (key x))) (firsts key xs)))
  first_here free x xs false is = ap (flat_map f) (sym (filter_twice (λ y. free (key y)) (λ y. not (bytes_eq (key y) (key x))) (firsts key xs)))

  -- all together they give what the firsts give
  pub give_firsts : (free : List ℕ → Bool) (xs : List X) (ss : List S) → length ss ≡ length xs → GiveAs free xs ss → beside xs ss ≡ flat_map f (filter (λ x. free (key x)) (firsts key xs))
  give_firsts free [] ss size each = refl
  give_firsts free (x ∷ xs) [] size each = absurd (omega (arith, size))
  give_firsts free (x ∷ xs) (s ∷ ss) size each =
      ap (λ ys. ys ++ beside xs ss) (each 0 x s refl refl)
      ∙ ap (λ ys. cond (free (key x) && not false) (f x) [] ++ ys) (give_firsts (others free x) xs ss (omega (arith, size)) (later free x s xs ss each))
      ∙ first_here free x xs (free (key x)) refl

  pub give_all_firsts : (xs : List X) (ss : List S) → length ss ≡ length xs → GiveAs (λ name. true) xs ss → beside xs ss ≡ flat_map f (firsts key xs)
  give_all_firsts xs ss size each = give_firsts (λ name. true) xs ss size each ∙ ap (flat_map f) (all_pass (firsts key xs))
