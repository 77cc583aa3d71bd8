-- Members of lists that are filtered, joined, or of which the first of a key count.
use Rattle.std.proofs.Common.{◌≡◌, ◌⊎◌, inl, inr, ℕ, List, [], ◌∷◌, Bool, true, false, cond, Contains, refl, ap, sym, subst, ◌∙◌}
use Rattle.std.specs.Prelude.{◌&&◌, ◌||◌, not, bytes_eq, filter}
use Rattle.std.specs.List.{list_any, flat_map}
use Rattle.std.proofs.lemmas.List.Elements.{Contains-append_left, Contains-append_right, Contains-append_cases}
use Rattle.kern_model.proofs.MemberLemmas.{here, there, first_or_later, none_in_nil}
use Rattle.kern_model.proofs.TestLemmas.{bytes_same, same_bytes, not_true}
use Rattle.kern_calls.proofs.FilterLemmas.{from_filter, in_filter}
use Rattle.net_rules.specs.Firsts.{firsts}

-- a test that asks a further one only where the first holds
pub and_same : (b c d : Bool) → (b ≡ true → c ≡ d) → (b && c) ≡ (b && d)
and_same true c d h = h refl
and_same false c d h = refl

-- tests that agree on the members
pub any_same : {X : Type 0} (p q : X → Bool) → (xs : List X) → ((x : X) → Contains xs x → p x ≡ q x) → list_any p xs ≡ list_any q xs
any_same p q [] same = refl
any_same p q (x ∷ xs) same = cc (ap (λ b. b || list_any p xs) (same x (here x xs)), ap (λ b. q x || b) (any_same p q xs (λ y h. same y (there x xs y h))))

-- what a filtered list has
first_kept : {X : Type 0} (b : Bool) (x : X) (xs : List X) (y : X) → Contains (cond b (x ∷ xs) xs) y → (x ≡ y) ⊎ Contains xs y
first_kept true x xs y h = first_or_later x xs y h
first_kept false x xs y h = inr h

pub within_filter : {X : Type 0} (p : X → Bool) → (xs : List X) (x : X) → Contains (filter p xs) x → Contains xs x
within_filter p [] x h = h
within_filter p (y ∷ ys) x h = elim (first_kept (p y) y (filter p ys) x h) as (λ _. Contains (y ∷ ys) x) [
  | inl same ↦ subst (Contains (y ∷ ys)) same (here y ys)
  | inr later ↦ there y ys x (within_filter p ys x later)
]

-- a list that stands only where a test holds
pub of_cond : {X : Type 0} (b : Bool) (xs : List X) (y : X) → Contains (cond b xs []) y → (b ≡ true) × Contains xs y
of_cond true xs y h = (refl, h)
of_cond false xs y h = absurd (none_in_nil y h)

pub to_cond : {X : Type 0} (b : Bool) (xs : List X) (y : X) → b ≡ true → Contains xs y → Contains (cond b xs []) y
to_cond true xs y e h = h
to_cond false xs y e h = cc e

-- lists that are joined
pub record IsAmong {X Y : Type 0} (f : X → List Y) (xs : List X) (y : Y) : Type 0 where
  pub source : X
  pub member : Contains xs source
  pub among : Contains (f source) y

pub in_join : {X Y : Type 0} (f : X → List Y) → (xs : List X) (x : X) (y : Y) → Contains xs x → Contains (f x) y → Contains (flat_map f xs) y
in_join f [] x y h among = absurd (none_in_nil x h)
in_join f (z ∷ zs) x y h among =
    elim (first_or_later z zs x h) as (λ _. Contains (flat_map f (z ∷ zs)) y) [
      | inl same ↦ Contains-append_left (f z) (flat_map f zs) y (subst (λ w. Contains (f w) y) (sym same) among)
      | inr later ↦ Contains-append_right (f z) (flat_map f zs) y (in_join f zs x y later among)
    ]

pub from_join : {X Y : Type 0} (f : X → List Y) → (xs : List X) (y : Y) → Contains (flat_map f xs) y → IsAmong f xs y
from_join f [] y h = absurd (none_in_nil y h)
from_join f (x ∷ xs) y h =
    elim (Contains-append_cases (f x) (flat_map f xs) y h) as (λ _. IsAmong f (x ∷ xs) y) [
      | inl first ↦ record { source = x; member = here x xs; among = first }
      | inr later ↦ let from = from_join f xs y later in record { source = from.source; member = there x xs from.source from.member; among = from.among }
    ]

-- the first of each key
pub within_firsts : {X : Type 0} (key : X → List ℕ) → (xs : List X) (x : X) → Contains (firsts key xs) x → Contains xs x
within_firsts key [] x h = h
within_firsts key (y ∷ ys) x h = elim (first_or_later y (filter (λ z. not (bytes_eq (key z) (key y))) (firsts key ys)) x h) as (λ _. Contains (y ∷ ys) x) [
  | inl same ↦ subst (Contains (y ∷ ys)) same (here y ys)
  | inr later ↦ there y ys x (within_firsts key ys x (within_filter (λ z. not (bytes_eq (key z) (key y))) (firsts key ys) x later))
]

other_key : {X : Type 0} (key : X → List ℕ) (y : X) (xs : List X) (x : X) → Contains (filter (λ z. not (bytes_eq (key z) (key y))) xs) x → key x ≡ key y → ⊥
other_key key y xs x h same = not_true (bytes_eq (key x) (key y)) (from_filter (λ z. not (bytes_eq (key z) (key y))) xs x h) (same_bytes (key x) (key y) same)

pub one_of_key : {X : Type 0} (key : X → List ℕ) → (xs : List X) (a b : X) → Contains (firsts key xs) a → Contains (firsts key xs) b → key a ≡ key b → a ≡ b
one_of_key key [] a b h g same = absurd (none_in_nil a h)
one_of_key {X} key (y ∷ ys) a b h g same =
    let others = filter (λ z. not (bytes_eq (key z) (key y))) (firsts key ys) in
    elim (first_or_later y others a h) as (λ _. a ≡ b) [
      | inl first ↦ elim (first_or_later y others b g) as (λ _. a ≡ b) [
        | inl second ↦ sym first ∙ second
        | inr later ↦ absurd (other_key key y (firsts key ys) b later (sym same ∙ ap key (sym first)))
      ]
      | inr before ↦ elim (first_or_later y others b g) as (λ _. a ≡ b) [
        | inl second ↦ absurd (other_key key y (firsts key ys) a before (same ∙ ap key (sym second)))
        | inr later ↦
            let p = λ (z : X). not (bytes_eq (key z) (key y)) in
            one_of_key key ys a b (within_filter p (firsts key ys) a before) (within_filter p (firsts key ys) b later) same
      ]
    ]

-- a member with that key
pub record HasKey {X : Type 0} (key : X → List ℕ) (xs : List X) (name : List ℕ) : Type 0 where
  pub with_key : X
  pub member : Contains xs with_key
  pub same : key with_key ≡ name

later_key : {X : Type 0} (key : X → List ℕ) (y : X) (ys : List X) (name : List ℕ) (b : Bool) → bytes_eq name (key y) ≡ b → HasKey key (firsts key ys) name → HasKey key (firsts key (y ∷ ys)) name
later_key key y ys name true is found = record { with_key = y; member = here y (filter (λ z. not (bytes_eq (key z) (key y))) (firsts key ys)); same = sym (bytes_same name (key y) is) }
later_key {X} key y ys name false is found =
    let p = λ (z : X). not (bytes_eq (key z) (key y)) in
    let passes : p found.with_key ≡ true = ap (λ k. not (bytes_eq k (key y))) found.same ∙ ap not is in
    record { with_key = found.with_key; member = there y (filter p (firsts key ys)) found.with_key (in_filter p (firsts key ys) found.with_key found.member passes); same = found.same }

pub key_in_firsts : {X : Type 0} (key : X → List ℕ) → (xs : List X) (x : X) → Contains xs x → HasKey key (firsts key xs) (key x)
key_in_firsts key [] x h = absurd (none_in_nil x h)
key_in_firsts key (y ∷ ys) x h = elim (first_or_later y ys x h) as (λ _. HasKey key (firsts key (y ∷ ys)) (key x)) [
  | inl same ↦ record { with_key = y; member = here y (filter (λ z. not (bytes_eq (key z) (key y))) (firsts key ys)); same = ap key same }
  | inr later ↦ later_key key y ys (key x) (bytes_eq (key x) (key y)) refl (key_in_firsts key ys x later)
]

pub in_firsts : (xs : List (List ℕ)) (x : List ℕ) → Contains xs x → Contains (firsts (λ name. name) xs) x
in_firsts xs x h = let found = key_in_firsts (λ name. name) xs x h in subst (Contains (firsts (λ name. name) xs)) found.same found.member
