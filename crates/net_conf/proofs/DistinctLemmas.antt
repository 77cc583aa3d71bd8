-- Lists in which no item stands twice.
use Rattle.std.proofs.Common.{◌≢◌, List, [], ◌∷◌, ◌++◌, true, false, Bool, cond, Contains, sym, subst}
use Rattle.std.specs.Prelude.{filter}
use Rattle.std.specs.List.{AllByRecursion}
use Rattle.plane_words.specs.Distinct.{AreDistinct}
use Rattle.kern_model.proofs.MemberLemmas.{here, there}

all_kept : {X : Type 0} (P : X → Type 0) (p : X → Bool) → (xs : List X) → AllByRecursion P xs → AllByRecursion P (filter p xs)
all_kept P p [] all = tt
all_kept {X} P p (x ∷ xs) all = elim (p x) as (λ b. AllByRecursion P (cond b (x ∷ filter p xs) (filter p xs))) [
  | true ↦ (all.0, all_kept P p xs all.1)
  | false ↦ all_kept P p xs all.1
]

-- those that pass a test
pub distinct_kept : {X : Type 0} (p : X → Bool) → (xs : List X) → AreDistinct xs → AreDistinct (filter p xs)
distinct_kept p [] distinct = tt
distinct_kept {X} p (x ∷ xs) distinct = elim (p x) as (λ b. AreDistinct (cond b (x ∷ filter p xs) (filter p xs))) [
  | true ↦ (all_kept (λ (other : X). other ≢ x) p xs distinct.0, distinct_kept p xs distinct.1)
  | false ↦ distinct_kept p xs distinct.1
]

all_pushed : {X : Type 0} (P : X → Type 0) → (xs : List X) (x : X) → AllByRecursion P xs → P x → AllByRecursion P (xs ++ x ∷ [])
all_pushed P [] x all last = (last, tt)
all_pushed P (y ∷ ys) x all last = (all.0, all_pushed P ys x all.1 last)

-- a new item at the end
pub distinct_pushed : {X : Type 0} (xs : List X) (x : X) → AreDistinct xs → (Contains xs x → ⊥) → AreDistinct (xs ++ x ∷ [])
distinct_pushed [] x distinct new = (tt, tt)
distinct_pushed {X} (y ∷ ys) x distinct new =
    (all_pushed (λ (other : X). other ≢ y) ys x distinct.0 (λ same. new (subst (Contains (y ∷ ys)) (sym same) (here y ys))), distinct_pushed ys x distinct.1 (λ member. new (there y ys x member)))
