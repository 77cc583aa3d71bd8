-- A name is used exactly where it has users.
use Rattle.std.proofs.Common.{arith, ◌≡◌, ◌⊎◌, inl, inr, ℕ, zero, suc, ◌+◌, ◌<◌, List, [], ◌∷◌, Bool, true, false, Contains, length, refl, sym, ◌∙◌}
use Rattle.std.specs.Prelude.{◌&&◌, ◌||◌, filter, if◌then◌else◌}
use Rattle.std.specs.List.{list_any}
use Rattle.kern_model.proofs.MemberLemmas.{here}
use Rattle.kern_model.proofs.TestLemmas.{both, of_both, either, of_left, of_right, from_any, of_any}
use Rattle.kern_calls.proofs.FilterLemmas.{from_filter, in_filter}
use Rattle.net_rules.specs.Facts.{Facts}
use Rattle.net_rules.specs.Rows.{names_of, interfaces_of}
use Rattle.net_rules.specs.Standing.{stands}
use Rattle.net_rules.specs.Sound.{IsSound}
use Rattle.net_rules.specs.Available.{available}
use Rattle.net_rules.specs.Used.{uses, used, users}
use Rattle.net_rules.proofs.ListLemmas.{within_filter}
use Rattle.net_rules.proofs.DeviceLemmas.{used_follows}

any_counted : {X : Type 0} (p : X → Bool) (xs : List X) → list_any p xs ≡ true → 0 < length (filter p xs)
any_counted p xs h =
    let found = from_any p xs h in
    let kept = in_filter p xs found.passing found.member found.passes in
    let inside = kept.1 in
    omega arith

some_member : {X : Type 0} (p : X → Bool) (xs ys : List X) → 0 < length ys → ((y : X) → Contains ys y → (Contains xs y) × (p y ≡ true)) → list_any p xs ≡ true
some_member p xs [] some kept = absurd (omega arith)
some_member p xs (y ∷ ys) some kept = let k = kept y (here y ys) in of_any p xs y k.0 k.1

counted_any : {X : Type 0} (p : X → Bool) (xs : List X) → 0 < length (filter p xs) → list_any p xs ≡ true
counted_any p xs h = some_member p xs (filter p xs) h (λ y member. (within_filter p xs y member, from_filter p xs y member))

sum_some : (a b : ℕ) → 0 < a + b → (0 < a) ⊎ (0 < b)
sum_some zero b h = inr (omega arith)
sum_some (suc a) b h = inl (omega arith)

where_true : (b : Bool) (n : ℕ) → b ≡ true → 0 < n → 0 < (if b then n else 0)
where_true true n h some = some
where_true false n h some = cc h

true_where : (b : Bool) (n : ℕ) → 0 < (if b then n else 0) → (b ≡ true) × (0 < n)
true_where true n h = (refl, h)
true_where false n h = absurd (omega arith)

module _ (facts : Facts) (sound : IsSound facts.conf) (name : List ℕ) where
  abbrev upper_uses : List ℕ → Bool
  upper_uses upper = stands facts name upper && used facts upper

  abbrev by_interfaces : ℕ
  by_interfaces = length (filter (uses facts name) (interfaces_of facts.conf))

  abbrev by_names : ℕ
  by_names = length (filter (λ upper. stands facts name upper && used facts upper) (names_of facts.conf))

  pub users_of_used : used facts name ≡ true → 0 < users facts name
  users_of_used h =
      let any_interface = list_any (uses facts name) (interfaces_of facts.conf) in
      let any_name = list_any (λ upper. stands facts name upper && used facts upper) (names_of facts.conf) in
      let parts = both (available facts name) (any_interface || any_name) (sym (used_follows facts sound name) ∙ h) in
      let some : 0 < by_interfaces + by_names = elim (either any_interface any_name parts.1) as (λ _. 0 < by_interfaces + by_names) [
        | inl one ↦ let more = any_counted (uses facts name) (interfaces_of facts.conf) one in omega arith
        | inr one ↦ let more = any_counted (λ upper. stands facts name upper && used facts upper) (names_of facts.conf) one in omega arith
      ] in
      where_true (available facts name) (by_interfaces + by_names) parts.0 some

  pub used_of_users : 0 < users facts name → used facts name ≡ true
  used_of_users h =
      let any_interface = list_any (uses facts name) (interfaces_of facts.conf) in
      let any_name = list_any (λ upper. stands facts name upper && used facts upper) (names_of facts.conf) in
      let parts = true_where (available facts name) (by_interfaces + by_names) h in
      used_follows facts sound name ∙ of_both (available facts name) (any_interface || any_name) parts.0 (elim (sum_some by_interfaces by_names parts.1) as (λ _. (any_interface || any_name) ≡ true) [
        | inl one ↦ of_left any_interface any_name (counted_any (uses facts name) (interfaces_of facts.conf) one)
        | inr one ↦ of_right any_interface any_name (counted_any (λ upper. stands facts name upper && used facts upper) (names_of facts.conf) one)
      ])
