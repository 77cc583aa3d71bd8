-- Members of a filtered list.
use Rattle.std.proofs.Common.{◌≡◌, ◌⊎◌, inl, inr, List, [], ◌∷◌, Bool, true, false, cond, Contains, filter, refl, sym, subst}
use Rattle.kern_model.proofs.MemberLemmas.{here, there, first_or_later, none_in_nil}

from_kept : {X : Type 0} (b : Bool) (y : X) (zs : List X) (x : X) → Contains (cond b (y ∷ zs) zs) x → ((b ≡ true) × (y ≡ x)) ⊎ Contains zs x
from_kept true y zs x h = elim (first_or_later y zs x h) as (λ _. ((true ≡ true) × (y ≡ x)) ⊎ Contains zs x) [ inl same ↦ inl (refl, same) | inr later ↦ inr later ]
from_kept false y zs x h = inr h

in_kept : {X : Type 0} (b : Bool) (y : X) (zs : List X) (x : X) → ((b ≡ true) × (y ≡ x)) ⊎ Contains zs x → Contains (cond b (y ∷ zs) zs) x
in_kept true y zs x h = elim h as (λ _. Contains (y ∷ zs) x) [ inl first ↦ subst (Contains (y ∷ zs)) first.1 (here y zs) | inr later ↦ there y zs x later ]
in_kept false y zs x h = elim h as (λ _. Contains zs x) [ inl first ↦ let no = first.0 in cc no | inr later ↦ later ]

pub from_filter : {X : Type 0} (p : X → Bool) → (xs : List X) (x : X) → Contains (filter p xs) x → p x ≡ true
from_filter p [] x h = absurd (none_in_nil x h)
from_filter p (y ∷ ys) x h = elim (from_kept (p y) y (filter p ys) x h) as (λ _. p x ≡ true) [
  | inl first ↦ subst (λ z. p z ≡ true) first.1 first.0
  | inr later ↦ from_filter p ys x later
]

pub in_filter : {X : Type 0} (p : X → Bool) → (xs : List X) (x : X) → Contains xs x → p x ≡ true → Contains (filter p xs) x
in_filter p [] x h is = absurd (none_in_nil x h)
in_filter p (y ∷ ys) x h is = in_kept (p y) y (filter p ys) x (elim (first_or_later y ys x h) as (λ _. ((p y ≡ true) × (y ≡ x)) ⊎ Contains (filter p ys) x) [
  | inl same ↦ inl (subst (λ z. p z ≡ true) (sym same) is, same)
  | inr later ↦ inr (in_filter p ys x later is)
])
