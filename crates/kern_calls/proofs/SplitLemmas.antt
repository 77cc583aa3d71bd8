-- Sorted lists that come in parts, and the first of a list in parts.
use Rattle.std.proofs.Common.{◌≡◌, List, [], ◌∷◌, ◌++◌, Bool, true, false, cond, Contains, Some, filter, refl, ap, sym, ◌∙◌}
use Rattle.std.specs.Prelude.{◌&&◌, not, slice_get}
use Rattle.std.specs.List.{find}
use Rattle.std.specs.Option.{option_or}
use Rattle.std.specs.declared.cmp.Ordering.{Ordering}
use Rattle.std.specs.declared.cmp.Ordering.TheVariants.{Less}
use Rattle.std.specs.List.Sorted.{IsStrictlySortedBy}
use Rattle.kern_model.proofs.MemberLemmas.{here, there, member_of_all}
use Rattle.kern_model.proofs.TestLemmas.{false_of_not}

kept_at : {X : Type 0} (p : X → Bool) (x : X) (xs : List X) (b : Bool) → p x ≡ b → filter p (x ∷ xs) ≡ cond b (x ∷ filter p xs) (filter p xs)
kept_at p x xs b is = ap (λ t. cond t (x ∷ filter p xs) (filter p xs)) is

all_kept : {X : Type 0} (p : X → Bool) → (xs : List X) → ((x : X) → Contains xs x → p x ≡ true) → filter p xs ≡ xs
all_kept p [] pass = refl
all_kept p (x ∷ xs) pass = kept_at p x xs true (pass x (here x xs)) ∙ ap (λ ys. x ∷ ys) (all_kept p xs (λ y member. pass y (there x xs y member)))

none_kept : {X : Type 0} (p : X → Bool) → (xs : List X) → ((x : X) → Contains xs x → p x ≡ false) → filter p xs ≡ []
none_kept p [] fail = refl
none_kept p (x ∷ xs) fail = kept_at p x xs false (fail x (here x xs)) ∙ none_kept p xs (λ y member. fail y (there x xs y member))

-- a sorted list is what passes a test and then the others, where none of these comes before what passes
pub fronted : {X : Type 0} (cmp : X → X → Ordering) (p q : X → Bool) → ((x : X) → q x ≡ not (p x)) → ((a b : X) → p a ≡ false → p b ≡ true → cmp a b ≡ Less → ⊥) → (xs : List X) → IsStrictlySortedBy cmp xs → xs ≡ filter p xs ++ filter q xs
unfolding IsStrictlySortedBy
fronted cmp p q others behind [] sorted = refl
fronted cmp p q others behind (x ∷ xs) sorted = by (fronted cmp p q others behind xs sorted.1) (p x) refl
  where
    by : xs ≡ filter p xs ++ filter q xs → (b : Bool) → p x ≡ b → x ∷ xs ≡ filter p (x ∷ xs) ++ filter q (x ∷ xs)
    by rest true is =
        let front = kept_at p x xs true is in
        let back = kept_at q x xs false (others x ∙ ap not is) in
        ap (λ ys. x ∷ ys) rest ∙ sym (ap (λ ys. ys ++ filter q (x ∷ xs)) front ∙ ap (λ ys. x ∷ (filter p xs ++ ys)) back)
    by rest false is =
        let fail : (y : _) → Contains xs y → p y ≡ false = λ y member. false_of_not (p y) (λ passes. behind x y is passes (member_of_all (λ z. cmp x z ≡ Less) xs y sorted.0 member)) in
        let front = kept_at p x xs false is ∙ none_kept p xs fail in
        let back = kept_at q x xs true (others x ∙ ap not is) ∙ ap (λ ys. x ∷ ys) (all_kept q xs (λ y member. others y ∙ ap not (fail y member))) in
        sym (ap (λ ys. ys ++ filter q (x ∷ xs)) front ∙ back)

-- what passes two tests passes a third
pub kept_twice : {X : Type 0} (p q r : X → Bool) → ((x : X) → r x ≡ (p x && q x)) → (xs : List X) → filter q (filter p xs) ≡ filter r xs
kept_twice p q r is [] = refl
kept_twice p q r is (x ∷ xs) = by (kept_twice p q r is xs) (p x) refl (q x) refl
  where
    by : filter q (filter p xs) ≡ filter r xs → (b : Bool) → p x ≡ b → (c : Bool) → q x ≡ c → filter q (filter p (x ∷ xs)) ≡ filter r (x ∷ xs)
    by rest true first true second = ap (filter q) (kept_at p x xs true first) ∙ kept_at q x (filter p xs) true second ∙ ap (λ ys. x ∷ ys) rest ∙ sym (kept_at r x xs true (is x ∙ ap (λ b. b && q x) first ∙ second))
    by rest true first false second = ap (filter q) (kept_at p x xs true first) ∙ kept_at q x (filter p xs) false second ∙ rest ∙ sym (kept_at r x xs false (is x ∙ ap (λ b. b && q x) first ∙ second))
    by rest false first c second = ap (filter q) (kept_at p x xs false first) ∙ rest ∙ sym (kept_at r x xs false (is x ∙ ap (λ b. b && q x) first))

-- the first of two lists, and of what passes a test
pub first_of_two : {X : Type 0} (xs ys : List X) → slice_get (xs ++ ys) 0 ≡ option_or (slice_get xs 0) (slice_get ys 0)
first_of_two [] ys = refl
first_of_two (x ∷ xs) ys = refl

pub first_kept : {X : Type 0} (p : X → Bool) → (xs : List X) → slice_get (filter p xs) 0 ≡ find p xs
first_kept p [] = refl
first_kept p (x ∷ xs) = by (first_kept p xs) (p x)
  where
    by : slice_get (filter p xs) 0 ≡ find p xs → (b : Bool) → slice_get (cond b (x ∷ filter p xs) (filter p xs)) 0 ≡ cond b (Some x) (find p xs)
    by rest true = refl
    by rest false = rest
