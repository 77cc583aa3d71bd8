-- VLANs that were found, with one name more.
use Rattle.std.proofs.Common.{ℕ, suc, ◌≡◌, ◌+◌, ◌<◌, Bool, true, false, cond, List, [], ◌∷◌, ◌++◌, length, take, drop, get_or, Option, Some, None, refl, sym, ap, ◌∙◌, append_assoc}
use Rattle.std.specs.Prelude.{◌||◌}
use Rattle.std.specs.List.{list_any}
use Rattle.std.specs.BTreeMap.{is_at}
use Rattle.std.specs.BTreeSet.{BTreeSet, contains}
use Rattle.std.proofs.Common.{drop-cons, add-one}
use Rattle.net_rows.specs.declared.dotted.VlanParts.{VlanParts}
use Rattle.net_rows.specs.declared.rows.NameRow.{NameRow}
use Rattle.net_devices.specs.declared.said.Said.{Said}
use Rattle.net_devices.specs.Kinds.{kind_of}
use Rattle.net_devices.specs.NameRows.{vlan_of, is_vlan_at, is_vlan_of_some, name_row, rows_behind}
use Rattle.net_devices.specs.FoundVlans.{has_vlan, HasVlanToo, HasVlansOf}
use Rattle.net_devices.specs.VlanTable.{vlan_cmp}
use Rattle.net_devices.proofs.KeyLemmas.{vlan_key, there_or, any_push, take_more}

pub vlan_put : (old new : BTreeSet (List ℕ × ℕ)) (vlan : VlanParts) → ((q : List ℕ × ℕ) → contains vlan_cmp new q ≡ cond (is_at (vlan_cmp (vlan.lower, vlan.id)) q) true (contains vlan_cmp old q)) → HasVlanToo old new (Some vlan)
vlan_put old new vlan put q =
    put q
    ∙ there_or (is_at (vlan_cmp (vlan.lower, vlan.id)) q) (contains vlan_cmp old q)
    ∙ ap (λ (z : Bool). contains vlan_cmp old q || z) (vlan_key (vlan.lower, vlan.id) q)

pub vlan_none : (vlans : BTreeSet (List ℕ × ℕ)) (vlan : Option VlanParts) → vlan ≡ None → HasVlanToo vlans vlans vlan
vlan_none vlans vlan none q = sym (ap (λ (z : Option VlanParts). contains vlan_cmp vlans q || is_vlan_at q.0 q.1 z) none ∙ same (contains vlan_cmp vlans q))
  where
    same : (b : Bool) → (b || false) ≡ b
    same true = refl
    same false = refl

pub vlans_more : (said : List Said) (old new : BTreeSet (List ℕ × ℕ)) (names more : List (List ℕ)) (name : List ℕ) (vlan : Option VlanParts) → vlan ≡ vlan_of (kind_of said name) → more ≡ names ++ name ∷ [] → HasVlansOf said old names
    → HasVlanToo old new vlan → HasVlansOf said new more
vlans_more said old new names more name vlan is m are too q =
    too q
    ∙ ap (λ (z : Bool). z || is_vlan_at q.0 q.1 vlan) (are q)
    ∙ ap (λ (z : Option VlanParts). list_any (λ (n : List ℕ). is_vlan_at q.0 q.1 (vlan_of (kind_of said n))) names || is_vlan_at q.0 q.1 z) is
    ∙ sym (any_push (λ (n : List ℕ). is_vlan_at q.0 q.1 (vlan_of (kind_of said n))) names name)
    ∙ ap (list_any (λ (n : List ℕ). is_vlan_at q.0 q.1 (vlan_of (kind_of said n)))) (sym m)

-- whether a VLAN was found tells whether an earlier name is the same
pub found_same : (said : List Said) (vlans : BTreeSet (List ℕ × ℕ)) (names : List (List ℕ)) (vlan : Option VlanParts) → HasVlansOf said vlans names → has_vlan vlans vlan ≡ is_vlan_of_some said names vlan
found_same said vlans names None are = refl
found_same said vlans names (Some vlan) are = are (vlan.lower, vlan.id)

-- the rows so far, with one more
pub rows_more : (said : List Said) (rows all : List NameRow) (names : List (List ℕ)) (index : ℕ) (name : List ℕ) (row : NameRow) → index < length names → name ≡ get_or names index name → row ≡ name_row said (take index names) name → rows
    ++ rows_behind said (take index names) (drop index names) ≡ all → (rows ++ row ∷ []) ++ rows_behind said (take (index + 1) names) (drop (index + 1) names) ≡ all
rows_more said rows all names index name row h e r is =
    append_assoc rows (row ∷ []) (rows_behind said (take (index + 1) names) (drop (index + 1) names))
    ∙ ap (λ (z : List NameRow). rows ++ z) (
    ap (λ (z : NameRow). z ∷ rows_behind said (take (index + 1) names) (drop (index + 1) names)) r
    ∙ ap (λ (z : List (List ℕ)). name_row said (take index names) name ∷ rows_behind said z (drop (index + 1) names)) (take_more names index name h e)
    ∙ sym (ap (rows_behind said (take index names)) (drop-cons names index name h ∙ (ap (λ (z : List ℕ). z ∷ drop (suc index) names) (sym e) ∙ ap (λ (n : ℕ). name ∷ drop n names) (sym (add-one index))))))
    ∙ is
