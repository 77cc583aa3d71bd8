-- The levels of the names that are read.
use Rattle.std.proofs.Common.{arith, ℕ, zero, suc, ◌≡◌, ◌+◌, ◌<◌, ◌≤◌, ◌⊎◌, inl, inr, List, [], ◌∷◌, map, Bool, true, false, Contains, refl, ap, sym, subst, ◌∙◌}
use Rattle.std.specs.Prelude.{fold, max}
use Rattle.std.proofs.Math.Nat.{le-max_left, le-max_right}
use Rattle.kern_model.proofs.MemberLemmas.{first_or_later, none_in_nil, map_member}
use Rattle.kern_model.proofs.TestLemmas.{above_test, false_of_not}
use Rattle.net_rows.specs.declared.rows.Conf.{Conf}
use Rattle.net_rows.specs.declared.rows.NameRow.{NameRow}
use Rattle.net_rows.specs.declared.rows.NameKind.TheVariants as is
use Rattle.net_rows.specs.declared.fault_name.FaultName.TheVariants as fault
use Rattle.net_rules.specs.Rows.{row_at, kind_at, is_bridge_kind}
use Rattle.net_rules.specs.Rows.{is_bridge as is_bridge_at}
use Rattle.net_rules.specs.Standing.{standing_of_row, lowers_of}
use Rattle.net_rules.specs.Sound.{level_at, RowStands, HasSoundLevels}
use Rattle.net_devices.specs.declared.said.Said.{Said}
use Rattle.net_devices.specs.Names.{section_of}
use Rattle.net_devices.specs.Levels.{is_bridge, below, highest, level_over, level_within, level}
use Rattle.net_devices.specs.Kinds.{kind_of}
use Rattle.net_devices.specs.Faults.{bare}
use Rattle.net_devices.specs.NameRows.{name_faults, faults_of, is_broken, is_too_high, has_same_vlan, name_row, name_rows}
use Rattle.net_devices.proofs.LevelLaws.{found, level_kept}
use Rattle.net_conf.proofs.RowLemmas.{no_both, before, row_found, row_less, with_row}
use Rattle.net_conf.proofs.KindLemmas.{lowers_by, stood, rowless_stands, rowless_no_bridge, is_below, same_bridge, is_alone, breaking, high_listed}

-- a member is not above the highest
in_fold : (top x : ℕ) (xs : List ℕ) → (x ≤ top) ⊎ Contains xs x → x ≤ fold max top xs
in_fold top x [] h = elim h as (λ _. x ≤ top) [ inl low ↦ low | inr member ↦ absurd (none_in_nil x member) ]
in_fold top x (y ∷ ys) h = in_fold (max top y) x ys (elim h as (λ _. (x ≤ max top y) ⊎ Contains ys x) [
  | inl low ↦ inl (let a : top ≤ max top y = le-max_left top y in omega (arith, a, low))
  | inr member ↦ elim (first_or_later y ys x member) as (λ _. (x ≤ max top y) ⊎ Contains ys x) [
    | inl same ↦ inl (let a : y ≤ max top y = le-max_right top y in omega (arith, a, same))
    | inr later ↦ inr later
  ]
])

in_highest : (xs : List ℕ) (x : ℕ) → Contains xs x → x ≤ highest xs
in_highest xs x h = in_fold 0 x xs (inr h)

one_above : (bridge : Bool) (top : ℕ) → top + 1 ≤ level_over bridge top
one_above true top = let a : top ≤ max top 1 = le-max_left top 1 in omega (arith, a)
one_above false top = omega arith

two_for_bridge : (bridge : Bool) (top : ℕ) → bridge ≡ true → 2 ≤ level_over bridge top
two_for_bridge true top h = let a : 1 ≤ max top 1 = le-max_right top 1 in omega (arith, a)
two_for_bridge false top h = cc h

least_within : (said : List Said) (more : ℕ) (name : List ℕ) → 1 ≤ level_within said more name
least_within said zero name = omega arith
least_within said (suc more) name =
    let top : ℕ = highest (map (level_within said more) (below said name)) in
    let a : top + 1 ≤ level_over (is_bridge said name) top = one_above (is_bridge said name) top in
    omega (arith, a)

-- one level down, all that a name stands on is lower
lower_within : (said : List Said) (more : ℕ) (upper lower : List ℕ) → Contains (below said upper) lower → level_within said more lower + 1 ≤ level_within said (suc more) upper
lower_within said more upper lower h =
    let top : ℕ = highest (map (level_within said more) (below said upper)) in
    let a : top + 1 ≤ level_over (is_bridge said upper) top = one_above (is_bridge said upper) top in
    let b : level_within said more lower ≤ top = in_highest (map (level_within said more) (below said upper)) (level_within said more lower) (map_member (level_within said more) (below said upper) lower h) in
    omega (arith, a, b)

lower_is_lower : (said : List Said) (upper lower : List ℕ) → level said upper ≤ 8 → Contains (below said upper) lower → level said lower < level said upper
lower_is_lower said upper lower most h =
    let a : level_within said 7 lower + 1 ≤ level said upper = lower_within said 7 upper lower h in
    let few : level_within said 7 lower ≤ 7 = omega (arith, a, most) in
    let same : level said lower ≡ level_within said 7 lower = level_kept said lower (level_within said 7 lower) (found said 7 lower few) (omega (arith, few)) in
    omega (arith, a, same)

two_with_lower : (said : List Said) (upper lower : List ℕ) → Contains (below said upper) lower → 1 < level said upper
two_with_lower said upper lower h =
    let a : level_within said 7 lower + 1 ≤ level said upper = lower_within said 7 upper lower h in
    let b : 1 ≤ level_within said 7 lower = least_within said 7 lower in
    omega (arith, a, b)

plain_first : (said : List Said) (name : List ℕ) → kind_of said name ≡ is.Plain → level said name ≡ 1
plain_first said name h =
    ap (λ (z : List (List ℕ)). level_over (is_bridge said name) (highest (map (level_within said 7) z))) (is_alone said name h)
    ∙ ap (λ (z : Bool). level_over z 0) (sym (same_bridge said name) ∙ ap is_bridge_kind h)

-- a name that is too high is broken
high_breaks : (said : List Said) (same high : Bool) (name : List ℕ) → high ≡ true → is_broken (name_faults said same high (section_of said name)) ≡ true
high_breaks said same true name h = breaking said (name_faults said same true (section_of said name)) (bare fault.TooHigh) (high_listed said same (section_of said name)) refl
high_breaks said same false name h = cc h

not_high : (said : List Said) (same : Bool) (name : List ℕ) → is_broken (faults_of said same name) ≡ false → level said name ≤ 8
not_high said same name h =
    above_test 8 (level said name) (false_of_not (is_too_high said name)
    (λ (high : is_too_high said name ≡ true). no_both (is_broken (faults_of said same name)) (high_breaks said same (is_too_high said name) name high) h))

module _ (conf : Conf) (said : List Said) (names : List (List ℕ)) (are : conf.names ≡ name_rows said names) where
  level_found : (name : List ℕ) → Contains names name → level_at conf name ≡ level said name
  level_found name h = ap (λ (r : NameRow). r.level) (row_found conf said names are name h)

  level_less : (name : List ℕ) → (Contains names name → ⊥) → level_at conf name ≡ 1
  level_less name h = ap (λ (r : NameRow). r.level) (row_less conf said names are name h)

  plain : (name : List ℕ) → kind_at conf name ≡ is.Plain → level_at conf name ≡ 1
  plain name h = elim (with_row names name) as (λ _. level_at conf name ≡ 1) [
    | inl member ↦ level_found name member ∙ plain_first said name (sym (ap (λ (r : NameRow). r.kind) (row_found conf said names are name member)) ∙ h)
    | inr absent ↦ level_less name absent
  ]

  bridge : (name : List ℕ) → is_bridge_at conf name ≡ true → 2 ≤ level_at conf name
  bridge name h = elim (with_row names name) as (λ _. 2 ≤ level_at conf name) [
    | inl member ↦
        let is : is_bridge said name ≡ true = sym (same_bridge said name) ∙ sym (ap (λ (r : NameRow). is_bridge_kind r.kind) (row_found conf said names are name member)) ∙ h in
        let two : 2 ≤ level said name = two_for_bridge (is_bridge said name) (highest (map (level_within said 7) (below said name))) is in
        subst (λ (n : ℕ). 2 ≤ n) (sym (level_found name member)) two
    | inr absent ↦ absurd (let no : false ≡ true = sym (rowless_no_bridge name) ∙ sym (ap (λ (r : NameRow). is_bridge_kind r.kind) (row_less conf said names are name absent)) ∙ h in cc no)
  ]

  least : (name : List ℕ) → 1 ≤ level_at conf name
  least name = elim (with_row names name) as (λ _. 1 ≤ level_at conf name) [
    | inl member ↦ subst (λ (n : ℕ). 1 ≤ n) (sym (level_found name member)) (least_within said 8 name)
    | inr absent ↦ subst (λ (n : ℕ). 1 ≤ n) (sym (level_less name absent)) (let one : 1 ≤ 1 = omega arith in one)
  ]

  found_most : (name : List ℕ) → Contains names name → (row_at conf.names name).broken ≡ false → level said name ≤ 8
  found_most name member h = not_high said (has_same_vlan said (before names name) (kind_of said name)) name (sym (ap (λ (r : NameRow). r.broken) (row_found conf said names are name member)) ∙ h)

  most : (name : List ℕ) → (row_at conf.names name).broken ≡ false → level_at conf name ≤ 8
  most name h = elim (with_row names name) as (λ _. level_at conf name ≤ 8) [
    | inl member ↦ subst (λ (n : ℕ). n ≤ 8) (sym (level_found name member)) (found_most name member h)
    | inr absent ↦ subst (λ (n : ℕ). n ≤ 8) (sym (level_less name absent)) (let few : 1 ≤ 8 = omega arith in few)
  ]

  rises_from : (upper lower : List ℕ) → RowStands conf upper lower → Contains names upper → level_at conf lower < level_at conf upper
  rises_from upper lower h member =
      let row : row_at conf.names upper ≡ name_row said (before names upper) upper = row_found conf said names are upper member in
      let stands : ((row_at conf.names upper).broken ≡ false) × Contains (lowers_by (row_at conf.names upper).kind) lower = stood (row_at conf.names upper).kind (row_at conf.names upper).broken lower h in
      let under : Contains (below said upper) lower = is_below said upper lower (subst (λ (r : NameRow). Contains (lowers_by r.kind) lower) row stands.1) in
      let few : level said upper ≤ 8 = found_most upper member stands.0 in
      subst (λ (n : ℕ). level_at conf lower < n) (sym (level_found upper member)) (elim (with_row names lower) as (λ _. level_at conf lower < level said upper) [
        | inl there ↦ subst (λ (n : ℕ). n < level said upper) (sym (level_found lower there)) (lower_is_lower said upper lower few under)
        | inr absent ↦ subst (λ (n : ℕ). n < level said upper) (sym (level_less lower absent)) (two_with_lower said upper lower under)
      ])

  rises : (upper lower : List ℕ) → RowStands conf upper lower → level_at conf lower < level_at conf upper
  rises upper lower h = elim (with_row names upper) as (λ _. level_at conf lower < level_at conf upper) [
    | inl member ↦ rises_from upper lower h member
    | inr absent ↦ absurd (rowless_stands upper lower (subst (λ (r : NameRow). Contains (lowers_of (standing_of_row r [])) lower) (row_less conf said names are upper absent) h))
  ]

  pub sound_levels : HasSoundLevels conf
  sound_levels = record { plain = plain; bridge = bridge; least = least; most = most; rises = rises }
