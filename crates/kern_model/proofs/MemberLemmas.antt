-- Members of lists.
use Rattle.std.proofs.Common.{arith, zero, suc, ◌≡◌, ◌⊎◌, inl, inr, List, [], ◌∷◌, map, Contains, refl, subst}
use Rattle.std.specs.List.{AllByRecursion}

pub here : {X : Type 0} → (x : X) (xs : List X) → Contains (x ∷ xs) x
here x xs = (0, omega arith, refl)

pub there : {X : Type 0} → (x : X) (xs : List X) (y : X) → Contains xs y → Contains (x ∷ xs) y
there x xs y h = (suc h.0, let inside = h.1 in omega arith, h.2)

pub first_or_later : {X : Type 0} → (x : X) (xs : List X) (y : X) → Contains (x ∷ xs) y → (x ≡ y) ⊎ Contains xs y
first_or_later x xs y (zero, inside, is) = inl is
first_or_later x xs y (suc k, inside, is) = inr (k, omega arith, is)

pub none_in_nil : {X : Type 0} → (y : X) → Contains [] y → ⊥
none_in_nil y h = let inside = h.1 in omega arith

pub all_members : {X : Type 0} (P : X → Type 0) → (xs : List X) → ((x : X) → Contains xs x → P x) → AllByRecursion P xs
all_members P [] h = tt
all_members P (x ∷ xs) h = (h x (here x xs), all_members P xs (λ y inside. h y (there x xs y inside)))

pub member_of_all : {X : Type 0} (P : X → Type 0) → (xs : List X) (x : X) → AllByRecursion P xs → Contains xs x → P x
member_of_all P [] x all h = absurd (none_in_nil x h)
member_of_all {X} P (y ∷ ys) x all h =
    elim (first_or_later y ys x h) as (λ _. P x) [
      | inl same ↦ subst P same all.0
      | inr later ↦ member_of_all P ys x all.1 later
    ]

pub map_member : {X Y : Type 0} (f : X → Y) → (xs : List X) (x : X) → Contains xs x → Contains (map f xs) (f x)
map_member f [] x h = absurd (none_in_nil x h)
map_member f (y ∷ ys) x h =
    elim (first_or_later y ys x h) as (λ _. Contains (map f (y ∷ ys)) (f x)) [
      | inl same ↦ subst (λ z. Contains (f y ∷ map f ys) (f z)) same (here (f y) (map f ys))
      | inr later ↦ there (f y) (map f ys) (f x) (map_member f ys x later)
    ]

-- a member of a mapped list comes from a member
pub record ComesFrom {X Y : Type 0} (f : X → Y) (xs : List X) (y : Y) : Type 0 where
  pub source : X
  pub member : Contains xs source
  pub same : f source ≡ y

pub member_of_map : {X Y : Type 0} (f : X → Y) → (xs : List X) (y : Y) → Contains (map f xs) y → ComesFrom f xs y
member_of_map f [] y h = absurd (none_in_nil y h)
member_of_map f (x ∷ xs) y h =
    elim (first_or_later (f x) (map f xs) y h) as (λ _. ComesFrom f (x ∷ xs) y) [
      | inl same ↦ record { source = x; member = here x xs; same = same }
      | inr later ↦ let from = member_of_map f xs y later in record { source = from.source; member = there x xs from.source from.member; same = from.same }
    ]
