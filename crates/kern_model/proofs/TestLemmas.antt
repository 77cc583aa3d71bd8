-- What tests tell, and the members of lists that pass them.
use Rattle.std.proofs.Common.{arith, suc, ◌≡◌, ◌≤◌, ◌<◌, ◌⊎◌, inl, inr, ℕ, List, [], ◌∷◌, true, false, Bool, Contains, refl, ap, sym, subst, ◌∙◌, Option, Some, None}
use Rattle.std.specs.Prelude.{◌&&◌, ◌||◌, not, bytes_eq, nat_le, nat_lt}
use Rattle.std.specs.List.{list_any, filter_map, cons_option}
use Rattle.std.proofs.lemmas.Bool.Decides.{leb_tells, Decides-ltb}
use Rattle.std.proofs.lemmas.Slice.Eq.{bytes_eq-Decides}
use Rattle.kern_model.proofs.MemberLemmas.{here, there, first_or_later, none_in_nil}

pub both : (b c : Bool) → (b && c) ≡ true → (b ≡ true) × (c ≡ true)
both true c h = (refl, h)
both false c h = cc h

pub of_both : (b c : Bool) → b ≡ true → c ≡ true → (b && c) ≡ true
of_both true c p q = q
of_both false c p q = cc p

pub either : (b c : Bool) → (b || c) ≡ true → (b ≡ true) ⊎ (c ≡ true)
either true c h = inl refl
either false c h = inr h

pub of_left : (b c : Bool) → b ≡ true → (b || c) ≡ true
of_left true c h = refl
of_left false c h = cc h

pub of_right : (b c : Bool) → c ≡ true → (b || c) ≡ true
of_right true c h = refl
of_right false c h = h

pub not_true : (b : Bool) → not b ≡ true → b ≡ true → ⊥
not_true true p q = cc p
not_true false p q = cc q

pub of_not : (b : Bool) → (b ≡ true → ⊥) → not b ≡ true
of_not true h = absurd (h refl)
of_not false h = refl

pub false_of_not : (b : Bool) → (b ≡ true → ⊥) → b ≡ false
false_of_not true h = absurd (h refl)
false_of_not false h = refl

pub true_or_not : (b : Bool) → (b ≡ true) ⊎ (b ≡ true → ⊥)
true_or_not true = inl refl
true_or_not false = inr (λ h. cc h)

pub true_of_both_ways : (b c : Bool) → (b ≡ true → c ≡ true) → (c ≡ true → b ≡ true) → b ≡ c
true_of_both_ways true c f g = sym (f refl)
true_of_both_ways false true f g = g refl
true_of_both_ways false false f g = refl

pub bytes_same : (a b : List ℕ) → bytes_eq a b ≡ true → a ≡ b
bytes_same a b h = (bytes_eq-Decides a b).0 h

pub same_bytes : (a b : List ℕ) → a ≡ b → bytes_eq a b ≡ true
same_bytes a b h = (bytes_eq-Decides a b).1 h

pub at_most : (a b : ℕ) → nat_le a b ≡ true → a ≤ b
at_most a b h = elim (leb_tells a b) as (λ _. a ≤ b) [ inl t ↦ t.1 | inr f ↦ cc (f.0, h) ]

pub at_most_test : (a b : ℕ) → a ≤ b → nat_le a b ≡ true
at_most_test a b h = elim (leb_tells a b) as (λ _. nat_le a b ≡ true) [ inl t ↦ t.0 | inr f ↦ let above = f.1 in absurd (omega arith) ]

pub below_test : (a b : ℕ) → nat_lt a b ≡ true → a < b
below_test a b h = (Decides-ltb a b).0 h

pub above_test : (a b : ℕ) → nat_lt a b ≡ false → b ≤ a
above_test a b h = elim (leb_tells (suc a) b) as (λ _. b ≤ a) [ inl t ↦ cc (t.0, h) | inr f ↦ let above = f.1 in omega arith ]

-- a member that passes a test
pub record Passes {X : Type 0} (p : X → Bool) (xs : List X) : Type 0 where
  pub passing : X
  pub member : Contains xs passing
  pub passes : p passing ≡ true

pub from_any : {X : Type 0} (p : X → Bool) → (xs : List X) → list_any p xs ≡ true → Passes p xs
from_any p [] h = cc h
from_any p (x ∷ xs) h = elim (either (p x) (list_any p xs) h) as (λ _. Passes p (x ∷ xs)) [
  | inl first ↦ record { passing = x; member = here x xs; passes = first }
  | inr later ↦ let found = from_any p xs later in record { passing = found.passing; member = there x xs found.passing found.member; passes = found.passes }
]

pub of_any : {X : Type 0} (p : X → Bool) → (xs : List X) (x : X) → Contains xs x → p x ≡ true → list_any p xs ≡ true
of_any p [] x member h = absurd (none_in_nil x member)
of_any p (y ∷ ys) x member h = elim (first_or_later y ys x member) as (λ _. list_any p (y ∷ ys) ≡ true) [
  | inl same ↦ of_left (p y) (list_any p ys) (subst (λ z. p z ≡ true) (sym same) h)
  | inr later ↦ of_right (p y) (list_any p ys) (of_any p ys x later h)
]

-- what a filtered and mapped list has, and where it comes from
pub record GivenBy {X Y : Type 0} (f : X → Option Y) (xs : List X) (y : Y) : Type 0 where
  pub source : X
  pub member : Contains xs source
  pub gives : f source ≡ Some y

in_cons : {Y : Type 0} (o : Option Y) (ys : List Y) (y : Y) → (o ≡ Some y) ⊎ Contains ys y → Contains (cons_option o ys) y
in_cons None ys y h = elim h as (λ _. Contains ys y) [ inl none ↦ cc none | inr later ↦ later ]
in_cons (Some v) ys y h = elim h as (λ _. Contains (v ∷ ys) y) [
  | inl first ↦ let same : v ≡ y = cc first in subst (Contains (v ∷ ys)) same (here v ys)
  | inr later ↦ there v ys y later
]

from_cons : {Y : Type 0} (o : Option Y) (ys : List Y) (y : Y) → Contains (cons_option o ys) y → (o ≡ Some y) ⊎ Contains ys y
from_cons None ys y h = inr h
from_cons (Some v) ys y h = elim (first_or_later v ys y h) as (λ _. (Some v ≡ Some y) ⊎ Contains ys y) [ inl same ↦ inl (ap Some same) | inr later ↦ inr later ]

pub in_filter_map : {X Y : Type 0} (f : X → Option Y) → (xs : List X) (x : X) (y : Y) → Contains xs x → f x ≡ Some y → Contains (filter_map f xs) y
in_filter_map f [] x y member h = absurd (none_in_nil x member)
in_filter_map f (z ∷ zs) x y member h = in_cons (f z) (filter_map f zs) y (elim (first_or_later z zs x member) as (λ _. (f z ≡ Some y) ⊎ Contains (filter_map f zs) y) [
  | inl same ↦ inl (ap f same ∙ h)
  | inr later ↦ inr (in_filter_map f zs x y later h)
])

pub from_filter_map : {X Y : Type 0} (f : X → Option Y) → (xs : List X) (y : Y) → Contains (filter_map f xs) y → GivenBy f xs y
from_filter_map f [] y h = absurd (none_in_nil y h)
from_filter_map f (x ∷ xs) y h = elim (from_cons (f x) (filter_map f xs) y h) as (λ _. GivenBy f (x ∷ xs) y) [
  | inl first ↦ record { source = x; member = here x xs; gives = first }
  | inr later ↦ let from = from_filter_map f xs y later in record { source = from.source; member = there x xs from.source from.member; gives = from.gives }
]
