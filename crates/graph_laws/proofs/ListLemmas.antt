-- Lists in which each item stands once, and how long these can be.
use Rattle.std.proofs.Common.{arith, suc, ◌≡◌, ◌≢◌, ◌≤◌, ◌<◌, inl, inr, ℕ, List, [], ◌∷◌, ◌++◌, map, length, Bool, true, false, cond, Contains, refl, ap, sym, subst, ◌∙◌}
use Rattle.std.specs.Prelude.{filter, not, bytes_eq}
use Rattle.std.specs.List.{AllByRecursion, flat_map}
use Rattle.plane_words.specs.Distinct.{AreDistinct}
use Rattle.kern_model.proofs.MemberLemmas.{here, there, first_or_later, none_in_nil, all_members, member_of_all, map_member, member_of_map}
use Rattle.kern_model.proofs.TestLemmas.{bytes_same, same_bytes, not_true, of_not}
use Rattle.kern_calls.proofs.FilterLemmas.{from_filter, in_filter}
use Rattle.net_rules.specs.Firsts.{firsts}
use Rattle.net_rules.proofs.ListLemmas.{IsAmong, from_join}

all_both : {X : Type 0} (P : X → Type 0) (xs ys : List X) → AllByRecursion P xs → AllByRecursion P ys → AllByRecursion P (xs ++ ys)
all_both P [] ys front back = back
all_both P (x ∷ xs) ys front back = (front.0, all_both P xs ys front.1 back)

-- two lists without a common item
pub distinct_both : {X : Type 0} (xs ys : List X) → AreDistinct xs → AreDistinct ys → ((x : X) → Contains xs x → Contains ys x → ⊥) → AreDistinct (xs ++ ys)
distinct_both [] ys front back apart = back
distinct_both {X} (x ∷ xs) ys front back apart = (
  all_both (λ (other : X). other ≢ x) xs ys front.0 (all_members (λ (other : X). other ≢ x) ys (λ y h same. apart x (here x xs) (subst (Contains ys) same h))),
  distinct_both xs ys front.1 back (λ y h k. apart y (there x xs y h) k),
)

-- lists that are joined, where items with a common member have one key
pub distinct_join : {X : Type 0} (key : X → List ℕ) (f : X → List (List ℕ)) (xs : List X) → AreDistinct (map key xs) → ((x : X) → Contains xs x → AreDistinct (f x))
    → ((x y : X) (z : List ℕ) → Contains xs x → Contains xs y → Contains (f x) z → Contains (f y) z → key x ≡ key y) → AreDistinct (flat_map f xs)
distinct_join key f [] once each one = tt
distinct_join {X} key f (x ∷ xs) once each one = distinct_both (f x) (flat_map f xs) (each x (here x xs))
    (distinct_join key f xs once.1 (λ y h. each y (there x xs y h)) (λ y z w h k. one y z w (there x xs y h) (there x xs z k)))
    (λ z h k.
    let from : IsAmong f xs z = from_join f xs z k in
    let other : key from.source ≢ key x = member_of_all (λ (q : List ℕ). q ≢ key x) (map key xs) (key from.source) once.0 (map_member key xs from.source from.member) in
    other (sym (one x from.source z (here x xs) (there x xs from.source from.member) h from.among)))

-- items by their keys
all_kept : {X : Type 0} (key : X → List ℕ) (P : List ℕ → Type 0) (p : X → Bool) (xs : List X) → AllByRecursion P (map key xs) → AllByRecursion P (map key (filter p xs))
all_kept key P p [] all = tt
all_kept key P p (x ∷ xs) all = elim (p x) as (λ b. AllByRecursion P (map key (cond b (x ∷ filter p xs) (filter p xs)))) [
  | true ↦ (all.0, all_kept key P p xs all.1)
  | false ↦ all_kept key P p xs all.1
]

pub keys_kept : {X : Type 0} (key : X → List ℕ) (p : X → Bool) (xs : List X) → AreDistinct (map key xs) → AreDistinct (map key (filter p xs))
keys_kept key p [] once = tt
keys_kept key p (x ∷ xs) once = elim (p x) as (λ b. AreDistinct (map key (cond b (x ∷ filter p xs) (filter p xs)))) [
  | true ↦ (all_kept key (λ (other : List ℕ). other ≢ key x) p xs once.0, keys_kept key p xs once.1)
  | false ↦ keys_kept key p xs once.1
]

pub one_of_key : {X : Type 0} (key : X → List ℕ) (xs : List X) (a b : X) → AreDistinct (map key xs) → Contains xs a → Contains xs b → key a ≡ key b → a ≡ b
one_of_key key [] a b once h k same = absurd (none_in_nil a h)
one_of_key {X} key (x ∷ xs) a b once h k same = elim (first_or_later x xs a h) as (λ _. a ≡ b) [
  | inl first ↦ elim (first_or_later x xs b k) as (λ _. a ≡ b) [
    | inl second ↦ sym first ∙ second
    | inr later ↦ absurd (other b later (sym same ∙ ap key (sym first)))
  ]
  | inr before ↦ elim (first_or_later x xs b k) as (λ _. a ≡ b) [
    | inl second ↦ absurd (other a before (same ∙ ap key (sym second)))
    | inr later ↦ one_of_key key xs a b once.1 before later same
  ]
]
  where
    other : (y : X) → Contains xs y → key y ≡ key x → ⊥
    other y member = member_of_all (λ (q : List ℕ). q ≢ key x) (map key xs) (key y) once.0 (map_member key xs y member)

-- the first of each key
pub firsts_once : {X : Type 0} (key : X → List ℕ) (xs : List X) → AreDistinct (map key (firsts key xs))
firsts_once key [] = tt
firsts_once {X} key (x ∷ xs) =
    let p = λ (y : X). not (bytes_eq (key y) (key x)) in (
      all_members (λ (q : List ℕ). q ≢ key x) (map key (filter p (firsts key xs))) (λ q h same.
          let from = member_of_map key (filter p (firsts key xs)) q h in
          not_true (bytes_eq (key from.source) (key x)) (from_filter p (firsts key xs) from.source from.member) (same_bytes (key from.source) (key x) (from.same ∙ same))),
      keys_kept key p (firsts key xs) (firsts_once key xs),
    )

-- names each once among others are no more than these
pub kept_length : {X : Type 0} (p : X → Bool) (xs : List X) → length (filter p xs) ≤ length xs
kept_length p [] = omega arith
kept_length p (x ∷ xs) = elim (p x) as (λ b. length (cond b (x ∷ filter p xs) (filter p xs)) ≤ suc (length xs)) [
  | true ↦ let rest = kept_length p xs in omega arith
  | false ↦ let rest = kept_length p xs in omega arith
]

fewer : (x : List ℕ) (ys : List (List ℕ)) → Contains ys x → length (filter (λ y. not (bytes_eq y x)) ys) < length ys
fewer x [] h = absurd (none_in_nil x h)
fewer x (y ∷ ys) h = go (bytes_eq y x) refl (fewer x ys)
  where
    left : List (List ℕ)
    left = filter (λ z. not (bytes_eq z x)) ys

    go : (b : Bool) → bytes_eq y x ≡ b → (Contains ys x → length left < length ys) → length (cond (not b) (y ∷ left) left) < suc (length ys)
    go true is rest = let most : length left ≤ length ys = kept_length (λ z. not (bytes_eq z x)) ys in omega (arith, most)
    go false is rest = elim (first_or_later y ys x h) as (λ _. suc (length left) < suc (length ys)) [
      | inl same ↦ cc (is, same_bytes y x same)
      | inr later ↦ let less = rest later in omega (arith, less)
    ]

pub no_longer : (xs ys : List (List ℕ)) → AreDistinct xs → ((x : List ℕ) → Contains xs x → Contains ys x) → length xs ≤ length ys
no_longer [] ys once within = omega arith
no_longer (x ∷ xs) ys once within =
    let p = λ (y : List ℕ). not (bytes_eq y x) in
    let less : length (filter p ys) < length ys = fewer x ys (within x (here x xs)) in
    let rest : length xs ≤ length (filter p ys) = no_longer xs (filter p ys) once.1 (λ y h.
    in_filter p ys y (within y (there x xs y h)) (of_not (bytes_eq y x) (λ same. member_of_all (λ (q : List ℕ). q ≢ x) xs y once.0 h (bytes_same y x same)))) in
    omega (arith, less, rest)
