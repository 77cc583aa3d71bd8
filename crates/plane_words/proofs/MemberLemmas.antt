-- Members of lists.
use Rattle.std.proofs.Common.{arith, ◌≡◌, ◌⊎◌, inl, inr, zero, suc, List, [], ◌∷◌, Contains, refl, subst}
use Rattle.std.specs.List.{AllByRecursion}

pub first_member : {X : Type 0} (x : X) (xs : List X) → Contains (x ∷ xs) x
first_member x xs = (0, omega arith, refl)

pub later_member : {X : Type 0} (x : X) (xs : List X) (y : X) → Contains xs y → Contains (x ∷ xs) y
later_member x xs y h = (suc h.0, let inside = h.1 in omega arith, h.2)

pub first_or_later : {X : Type 0} (x : X) (xs : List X) (y : X) → Contains (x ∷ xs) y → (x ≡ y) ⊎ Contains xs y
first_or_later x xs y (zero, inside, is) = inl is
first_or_later x xs y (suc k, inside, is) = inr (k, omega arith, is)

pub no_member : {X : Type 0} (y : X) → Contains [] y → ⊥
no_member y h = let inside = h.1 in omega arith

-- a fact of each member is one of all
pub all_from_members : {X : Type 0} (P : X → Type 0) → (xs : List X) → ((x : X) → Contains xs x → P x) → AllByRecursion P xs
all_from_members P [] h = tt
all_from_members P (x ∷ xs) h = (h x (first_member x xs), all_from_members P xs (λ y inside. h y (later_member x xs y inside)))

pub member_of_all : {X : Type 0} (P : X → Type 0) → (xs : List X) (x : X) → AllByRecursion P xs → Contains xs x → P x
member_of_all P [] x all h = absurd (no_member x h)
member_of_all {X} P (y ∷ ys) x all h =
    elim (first_or_later y ys x h) as (λ _. P x) [
      | inl same ↦ subst P same all.0
      | inr later ↦ member_of_all P ys x all.1 later
    ]
