-- The row of a name: that of the names, or that of a name without a row.
use Rattle.std.proofs.Common.{◌≡◌, ◌⊎◌, inl, inr, ℕ, List, [], ◌∷◌, ◌++◌, Bool, true, false, cond, Contains, refl, ap, sym, subst, ◌∙◌, append_assoc}
use Rattle.std.specs.Prelude.{bytes_eq, if◌then◌else◌}
use Rattle.std.proofs.lemmas.List.{append-nil}
use Rattle.kern_model.proofs.MemberLemmas.{here, there, first_or_later, none_in_nil}
use Rattle.kern_model.proofs.TestLemmas.{from_any, of_any, bytes_same, same_bytes, true_or_not}
use Rattle.net_rows.specs.declared.rows.Conf.{Conf}
use Rattle.net_rows.specs.declared.rows.NameRow.{NameRow}
use Rattle.net_rules.specs.Rows.{rowless, row_at}
use Rattle.net_devices.specs.declared.said.Said.{Said}
use Rattle.net_devices.specs.EachOnce.{has}
use Rattle.net_devices.specs.NameRows.{name_row, rows_behind, name_rows}

-- a test does not tell both
pub no_both : (b : Bool) → b ≡ true → b ≡ false → ⊥
no_both true h k = cc k
no_both false h k = cc h

-- the names in front of one
pub before : List (List ℕ) → List ℕ → List (List ℕ)
before [] name = []
before (other ∷ others) name = if bytes_eq other name then [] else other ∷ before others name

module _ (said : List Said) where
  -- a row in front is of that name, or the row is further on
  found_behind : (names earlier : List (List ℕ)) (name : List ℕ) → Contains names name → row_at (rows_behind said earlier names) name ≡ name_row said (earlier ++ before names name) name
  unfolding before
  found_behind [] earlier name h = absurd (none_in_nil name h)
  found_behind (other ∷ others) earlier name h = go (bytes_eq other name) refl (found_behind others (earlier ++ other ∷ []) name)
    where
      go : (b : Bool) → bytes_eq other name ≡ b → (Contains others name → row_at (rows_behind said (earlier ++ other ∷ []) others) name ≡ name_row said ((earlier ++ other ∷ []) ++ before others name) name)
          → cond {A = NameRow} b (name_row said earlier other) (row_at (rows_behind said (earlier ++ other ∷ []) others) name) ≡ name_row said (earlier ++ cond {A = List (List ℕ)} b [] (other ∷ before others name)) name
      go true is rest = ap (name_row said earlier) (bytes_same other name is) ∙ ap (λ (z : List (List ℕ)). name_row said z name) (sym (append-nil earlier))
      go false is rest = elim (first_or_later other others name h) as (λ _. row_at (rows_behind said (earlier ++ other ∷ []) others) name ≡ name_row said (earlier ++ other ∷ before others name) name) [
        | inl same ↦ absurd (no_both (bytes_eq other name) (same_bytes other name same) is)
        | inr later ↦ rest later ∙ ap (λ (z : List (List ℕ)). name_row said z name) (append_assoc earlier (other ∷ []) (before others name))
      ]

  none_behind : (names earlier : List (List ℕ)) (name : List ℕ) → (Contains names name → ⊥) → row_at (rows_behind said earlier names) name ≡ rowless name
  none_behind [] earlier name h = refl
  none_behind (other ∷ others) earlier name h = go (bytes_eq other name) refl (none_behind others (earlier ++ other ∷ []) name (λ later. h (there other others name later)))
    where
      go : (b : Bool) → bytes_eq other name ≡ b → row_at (rows_behind said (earlier ++ other ∷ []) others) name ≡ rowless name
          → cond {A = NameRow} b (name_row said earlier other) (row_at (rows_behind said (earlier ++ other ∷ []) others) name) ≡ rowless name
      go true is rest = absurd (h (subst (Contains (other ∷ others)) (bytes_same other name is) (here other others)))
      go false is rest = rest

-- of two names one stands in front of the other
pub in_order : (names : List (List ℕ)) (a b : List ℕ) → Contains names a → Contains names b → (a ≡ b) ⊎ (Contains (before names a) b ⊎ Contains (before names b) a)
unfolding before
in_order [] a b h k = absurd (none_in_nil a h)
in_order (other ∷ others) a b h k = go (bytes_eq other a) (bytes_eq other b) refl refl (in_order others a b)
  where
    later : (x : List ℕ) → bytes_eq other x ≡ false → Contains (other ∷ others) x → Contains others x
    later x is inside = elim (first_or_later other others x inside) as (λ _. Contains others x) [
      | inl same ↦ absurd (no_both (bytes_eq other x) (same_bytes other x same) is)
      | inr found ↦ found
    ]

    go : (p q : Bool) → bytes_eq other a ≡ p → bytes_eq other b ≡ q → (Contains others a → Contains others b → (a ≡ b) ⊎ (Contains (before others a) b ⊎ Contains (before others b) a))
        → (a ≡ b) ⊎ (Contains (cond {A = List (List ℕ)} p [] (other ∷ before others a)) b ⊎ Contains (cond {A = List (List ℕ)} q [] (other ∷ before others b)) a)
    go true true is it rest = inl (sym (bytes_same other a is) ∙ bytes_same other b it)
    go true false is it rest = inr (inr (subst (Contains (other ∷ before others b)) (bytes_same other a is) (here other (before others b))))
    go false true is it rest = inr (inl (subst (Contains (other ∷ before others a)) (bytes_same other b it) (here other (before others a))))
    go false false is it rest = elim (rest (later a is h) (later b it k)) as (λ _. (a ≡ b) ⊎ (Contains (other ∷ before others a) b ⊎ Contains (other ∷ before others b) a)) [
      | inl same ↦ inl same
      | inr order ↦ elim order as (λ _. (a ≡ b) ⊎ (Contains (other ∷ before others a) b ⊎ Contains (other ∷ before others b) a)) [
        | inl second ↦ inr (inl (there other (before others a) b second))
        | inr first ↦ inr (inr (there other (before others b) a first))
      ]
    ]

-- the name has a row, or none
pub with_row : (names : List (List ℕ)) (name : List ℕ) → Contains names name ⊎ (Contains names name → ⊥)
with_row names name = elim (true_or_not (has names name)) as (λ _. Contains names name ⊎ (Contains names name → ⊥)) [
  | inl there ↦ let found = from_any (λ other. bytes_eq other name) names there in inl (subst (Contains names) (bytes_same found.passing name found.passes) found.member)
  | inr absent ↦ inr (λ member. absent (of_any (λ other. bytes_eq other name) names name member (same_bytes name name refl)))
]

module _ (conf : Conf) (said : List Said) (names : List (List ℕ)) (are : conf.names ≡ name_rows said names) where
  pub row_found : (name : List ℕ) → Contains names name → row_at conf.names name ≡ name_row said (before names name) name
  row_found name h = ap (λ (z : List NameRow). row_at z name) are ∙ found_behind said names [] name h

  pub row_less : (name : List ℕ) → (Contains names name → ⊥) → row_at conf.names name ≡ rowless name
  row_less name h = ap (λ (z : List NameRow). row_at z name) are ∙ none_behind said names [] name h
