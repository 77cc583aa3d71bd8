-- Levels of names, one level down.
use Rattle.std.proofs.Common.{ℕ, zero, suc, ◌≡◌, ◌-◌, ◌<◌, ◌≤◌, Bool, true, false, cond, List, length, map, drop, Option, Some, bytes_eq, eqb-true, refl, sym, ◌∙◌, ap, subst, arith}
use Rattle.std.specs.Prelude.{fold, max}
use Rattle.std.proofs.lemmas.List.{drop_all}
use Rattle.std.specs.Prelude.{◌&&◌, ◌==◌}
use Rattle.std.specs.BTreeMap.{BTreeMap, get, is_at}
use Rattle.std.proofs.lemmas.Slice.Eq.{bytes_eq-Decides}
use Rattle.net_devices.specs.declared.said.Said.{Said}
use Rattle.net_devices.specs.Levels.{is_bridge, below, highest, level_over, level_within}
use Rattle.net_devices.specs.VlanTable.{vlan_cmp}
use Rattle.net_devices.proofs.KeyLemmas.{vlan_key}

level_at : (said : List Said) (more : ℕ) (name : List ℕ) → 0 < more → level_within said more name ≡ level_over (is_bridge said name) (highest (map (level_within said (more - 1)) (below said name)))
level_at said zero name some = absurd (omega arith)
level_at said (suc more) name some =
    let less : suc more - 1 ≡ more = omega arith in
    ap (λ (z : ℕ). level_over (is_bridge said name) (highest (map (level_within said z) (below said name)))) (sym less)

-- the highest level of all that a name stands on gives its level
pub level_is : (said : List Said) (more : ℕ) (name : List ℕ) (lowers : List (List ℕ)) (index top : ℕ) → 0 < more → lowers ≡ below said name → length lowers ≤ index → fold max top (map (level_within said (more - 1)) (drop index lowers))
    ≡ highest (map (level_within said (more - 1)) lowers) → level_over (is_bridge said name) top ≡ level_within said more name
level_is said more name lowers index top some is all sofar =
    let step : List (List ℕ) → ℕ = λ z. fold max top (map (level_within said (more - 1)) z) in
    let here : top ≡ highest (map (level_within said (more - 1)) lowers) = sym (ap step (drop_all index lowers all)) ∙ sofar in
    ap (level_over (is_bridge said name)) (here ∙ ap (λ (z : List (List ℕ)). highest (map (level_within said (more - 1)) z)) is) ∙ sym (level_at said more name some)

-- a level more among those that were found
both : (a b : Bool) → (a && b) ≡ true → (a ≡ true) × (b ≡ true)
both true true h = (refl, refl)
both true false h = absurd (let k : false ≡ true = h in cc)
both false b h = absurd (let k : false ≡ true = h in cc)

picked : (is : Bool) (level found : ℕ) (was : Option ℕ) (P : ℕ → Type 0) → (is ≡ true → P level) → ((n : ℕ) → was ≡ Some n → P n) → cond {A = Option ℕ} is (Some level) was ≡ Some found → P found
picked true level found was P h k e = subst P (let same : level ≡ found = cc in same) (h refl)
picked false level found was P h k e = k found e

pub levels_more : (said : List Said) (old new : BTreeMap (List ℕ × ℕ) ℕ) (name : List ℕ) (more level : ℕ) → ((key : List ℕ × ℕ) (n : ℕ) → get vlan_cmp old key ≡ Some n → n ≡ level_within said key.1 key.0) → level
    ≡ level_within said more name → ((q : List ℕ × ℕ) → get vlan_cmp new q ≡ cond {A = Option ℕ} (is_at (vlan_cmp (name, more)) q) (Some level) (get vlan_cmp old q)) → (key : List ℕ × ℕ) (n : ℕ) → get vlan_cmp new key ≡ Some n → n
    ≡ level_within said key.1 key.0
levels_more said old new name more level are is put key n e =
    picked (is_at (vlan_cmp (name, more)) key) level n (get vlan_cmp old key) (λ (z : ℕ). z ≡ level_within said key.1 key.0)
    (λ (at : is_at (vlan_cmp (name, more)) key ≡ true).
    let parts : (bytes_eq name key.0 ≡ true) × ((more == key.1) ≡ true) = both (bytes_eq name key.0) (more == key.1) (sym (vlan_key (name, more) key) ∙ at) in
    let same_name : name ≡ key.0 = (bytes_eq-Decides name key.0).0 parts.0 in
    let same_more : more ≡ key.1 = eqb-true more key.1 parts.1 in
    is ∙ ap (λ (z : ℕ). level_within said z name) same_more ∙ ap (level_within said key.1) same_name)
    (λ (m : ℕ) (was : get vlan_cmp old key ≡ Some m). are key m was)
    (sym (put key) ∙ e)
