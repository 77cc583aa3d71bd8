-- What the walk up from a name finds.
use Rattle.std.proofs.Common.{◌≡◌, ◌⊎◌, inl, inr, suc, ◌<◌, ℕ, List, [], ◌∷◌, length, slice_get, Bool, true, false, cond, Contains, Option, Some, None, refl, sym, ap, subst, ◌∙◌, IsPermutation, bytes_eq}
use Rattle.std.specs.List.Sorted.{IsStrictlySortedBy}
use Rattle.std.specs.Ordering.{nat_cmp}
use Rattle.std.specs.Option.{option_map}
use Rattle.std.proofs.lemmas.List.Sorted.{Contains-permutation, IsPermutation-sym}
use Rattle.std.proofs.lemmas.Option.{slice_get-map, slice_get_within}
use Rattle.kern_model.proofs.MemberLemmas.{none_in_nil}
use Rattle.kern_model.proofs.TestLemmas.{from_any, of_any, bytes_same, same_bytes, either, of_left, of_right}
use Rattle.net_rows.specs.declared.rows.NameRow.{NameRow}
use Rattle.net_rules.specs.declared.inputs.Inputs.{Inputs}
use Rattle.net_rules.specs.Facts.{Facts}
use Rattle.net_rules.specs.Standing.{standing_at, lowers_of, stands}
use Rattle.net_rules.specs.Inputs.{facts_of}
use Rattle.net_rules.specs.Above.{IsAbove}
use Rattle.net_view.specs.Places.{named}
use Rattle.net_view.specs.RadioPorts.{group_in}
use Rattle.net_wants.proofs.ViewLemmas.{stands_on_none}
use Rattle.net_reach.specs.Places.{Places}
use Rattle.net_reach.specs.Walk.{Leads, Stays, IsClimbed, AreClimbed, IsAt, Touches, TouchesOnly, IsAtRow, HasTouched}
use Rattle.net_reach.specs.Reach.{stands_on, is_at_device, is_at_l3_device, IsReachOf, IsTouched, AreTouched}
use Rattle.net_reach.specs.declared.reach.Reach.{Reach}
use Rattle.net_reach.proofs.GroupLemmas.{members_of}
use Rattle.net_reach.proofs.WalkLemmas.{still_touches}

-- ---- what stands has a row

record HasRow (rows : List NameRow) (name : List ℕ) : Type 0 where
  pub place : ℕ
  pub row : NameRow
  pub found : slice_get rows place ≡ Some row
  pub is : row.name ≡ name

row_step : (r : NameRow) (rows : List NameRow) (name : List ℕ) (row : NameRow) (b : Bool) → bytes_eq r.name name ≡ b → (named (λ r. r.name) rows name ≡ Some row → HasRow rows name) → cond b (Some r) (named (λ r. r.name) rows name)
    ≡ Some row → HasRow (r ∷ rows) name
row_step r rows name row true same later is = record { place = 0; row = r; found = refl; is = bytes_same r.name name same }
row_step r rows name row false other later is = let found = later is in record { place = suc found.place; row = found.row; found = found.found; is = found.is }

row_found : (rows : List NameRow) (name : List ℕ) (row : NameRow) → named (λ r. r.name) rows name ≡ Some row → HasRow rows name
row_found [] name row h = cc h
row_found (r ∷ rows) name row h = row_step r rows name row (bytes_eq r.name name) refl (row_found rows name row) h

pub on_true : (facts : Facts) (lower upper : List ℕ) → Contains (lowers_of (standing_at facts upper)) lower → stands facts lower upper ≡ true
on_true facts lower upper inside = of_any (λ n. bytes_eq n lower) (lowers_of (standing_at facts upper)) lower inside (same_bytes lower lower refl)

pub true_on : (facts : Facts) (lower upper : List ℕ) → stands facts lower upper ≡ true → Contains (lowers_of (standing_at facts upper)) lower
true_on facts lower upper h =
    let found = from_any (λ n. bytes_eq n lower) (lowers_of (standing_at facts upper)) h in
    subst (Contains (lowers_of (standing_at facts upper))) (bytes_same found.passing lower found.passes) found.member

has_row : (facts : Facts) (lower upper : List ℕ) → stands facts lower upper ≡ true → HasRow facts.conf.names upper
has_row facts lower upper h = at (named (λ r. r.name) facts.conf.names upper) refl
  where
    at : (o : Option NameRow) → named (λ (r : NameRow). r.name) facts.conf.names upper ≡ o → HasRow facts.conf.names upper
    at None is = let off = stands_on_none facts upper (sym is) lower in cc (h, off)
    at (Some row) is = row_found facts.conf.names upper row is

-- ---- all that is above is found

module _ (inputs : Inputs) (reach : Reach) (is : IsReachOf inputs reach) (base : List ℕ) where
  abbrev facts : Facts
  facts = facts_of inputs

  stands_place : (lower upper : List ℕ) → stands facts lower upper ≡ true → (row : HasRow inputs.conf.names upper) → Contains (group_in reach.above lower) row.place
  stands_place lower upper on row =
      (members_of (group_in reach.above lower) (stands_on inputs lower) inputs.conf.names (is.above lower)).all row.place row.row row.found (ap (stands facts lower) row.is ∙ on)

  name_at : (place : ℕ) (row : NameRow) → slice_get inputs.conf.names place ≡ Some row → slice_get reach.names.items place ≡ Some row.name
  name_at place row found =
      ap (λ (z : List (List ℕ)). slice_get z place) is.names
      ∙ slice_get-map (λ (r : NameRow). r.name) inputs.conf.names place
      ∙ ap (option_map (λ (r : NameRow). r.name)) found

  module _ (rows touched : Places) (row_room : rows.bound ≡ length inputs.conf.names)
      (first : Leads reach.above base rows)
      (further : (place : ℕ) (name : List ℕ) → Contains rows.list place → slice_get reach.names.items place ≡ Some name → Leads reach.above name rows)
      (at_base : Touches reach.at_device reach.at_l3_device base touched)
      (at_rows : (row : ℕ) (name : List ℕ) → Contains rows.list row → slice_get reach.names.items row ≡ Some name → Touches reach.at_device reach.at_l3_device name touched) where
    all_above : (name : List ℕ) → IsAbove facts base name → Leads reach.above name rows × Touches reach.at_device reach.at_l3_device name touched
    all_above name IsAbove.itself = (first, at_base)
    all_above name (IsAbove.over upper lower h above) =
        let below = all_above lower above in
        let on = on_true facts lower upper h in
        let row = has_row facts lower upper on in
        let within = slice_get_within inputs.conf.names row.place row.row row.found in
        let entered = below.0 row.place (stands_place lower upper on row) (subst (λ k. row.place < k) (sym row_room) within) in
        let named : slice_get reach.names.items row.place ≡ Some upper = name_at row.place row.row row.found ∙ ap Some row.is in
        (further row.place upper entered named, at_rows row.place upper entered named)

    pub touched_all : touched.bound ≡ length inputs.conf.interfaces → (place : ℕ) → IsTouched inputs base place → Contains touched.list place
    touched_all room place is_touched =
        let touches = (all_above is_touched.name is_touched.above).1 in
        let within = subst (λ k. place < k) (sym room) (slice_get_within inputs.conf.interfaces place is_touched.row is_touched.found) in
        elim (either (is_at_device inputs is_touched.name is_touched.row) (is_at_l3_device inputs is_touched.name place is_touched.row) is_touched.at) as (λ _. Contains touched.list place) [
          | inl device ↦ touches.device place ((members_of (group_in reach.at_device is_touched.name) (is_at_device inputs is_touched.name) inputs.conf.interfaces (is.at_device is_touched.name)).all place is_touched.row is_touched.found
              device) within
          | inr l3_device ↦ touches.l3_device place ((is.at_l3_device is_touched.name).all place is_touched.row is_touched.found l3_device) within
        ]

  -- ---- nothing else is found

  stands_at : (lower : List ℕ) (place : ℕ) (name : List ℕ) → Contains (group_in reach.above lower) place → slice_get reach.names.items place ≡ Some name → Contains (lowers_of (standing_at facts name)) lower
  stands_at lower place name inside named =
      let found = (members_of (group_in reach.above lower) (stands_on inputs lower) inputs.conf.names (is.above lower)).only place inside in
      let same : found.0.name ≡ name = let both = sym (name_at place found.0 found.1) ∙ named in cc both in
      true_on facts lower name (ap (stands facts lower) (sym same) ∙ found.2)

  climbed_above : (place : ℕ) (name : List ℕ) → IsClimbed reach.above reach.names.items base place → slice_get reach.names.items place ≡ Some name → IsAbove facts base name
  climbed_above place name (IsClimbed.first p inside) named = IsAbove.over name base (stands_at base p name inside named) IsAbove.itself
  climbed_above place name (IsClimbed.further p lower other climbed at inside) named =
      IsAbove.over name other (stands_at other p name inside named) (climbed_above lower other climbed at)

  at_name : (name : List ℕ) (place : ℕ) → IsAbove facts base name → IsAt reach.at_device reach.at_l3_device name place → IsTouched inputs base place
  at_name name place above at = elim at as (λ _. IsTouched inputs base place) [
    | inl device ↦
        let found = (members_of (group_in reach.at_device name) (is_at_device inputs name) inputs.conf.interfaces (is.at_device name)).only place device in
        record { row = found.0; found = found.1; name = name; at = of_left (is_at_device inputs name found.0) (is_at_l3_device inputs name place found.0) found.2; above = above }
    | inr l3_device ↦
        let found = (is.at_l3_device name).only place l3_device in
        record { row = found.0; found = found.1; name = name; at = of_right (is_at_device inputs name found.0) (is_at_l3_device inputs name place found.0) found.2; above = above }
  ]

  pub touched_only : (rows none mid touched : Places) → none.list ≡ [] → AreClimbed reach.above reach.names.items base rows → TouchesOnly reach.at_device reach.at_l3_device base none mid
      → ((place : ℕ) → Contains touched.list place → Contains mid.list place ⊎ IsAtRow reach.at_device reach.at_l3_device reach.names.items rows.list place) → (place : ℕ) → Contains touched.list place → IsTouched inputs base place
  touched_only rows none mid touched empty climbed at_base at_rows place inside =
      elim (at_rows place inside) as (λ _. IsTouched inputs base place) [
        | inl before ↦ elim (at_base place before) as (λ _. IsTouched inputs base place) [
          | inl had ↦ absurd (none_in_nil place (subst (λ (z : List ℕ). Contains z place) empty had))
          | inr at ↦ at_name base place IsAbove.itself at
        ]
        | inr row ↦ at_name row.name place (climbed_above row.row row.name (climbed row.row row.member) row.named) row.at
      ]

pub touched_in_order : (inputs : Inputs) (base : List ℕ) (old new : List ℕ) → IsPermutation old new → IsStrictlySortedBy nat_cmp new → ((place : ℕ) → IsTouched inputs base place → Contains old place)
    → ((place : ℕ) → Contains old place → IsTouched inputs base place) → AreTouched inputs base new
touched_in_order inputs base old new same rising all only = record {
  rising = rising;
  all = λ place is. Contains-permutation old new place same (all place is);
  only = λ place inside. only place (Contains-permutation new old place (IsPermutation-sym old new same) inside);
}

-- the whole walk
pub walked : (inputs : Inputs) (reach : Reach) (is : IsReachOf inputs reach) (base : List ℕ) (names : List (List ℕ)) (listed : List ℕ) (rows none mid touched sorted : Places) → names ≡ reach.names.items → listed ≡ rows.list → rows.bound
    ≡ reach.visit.rows.bound → none ≡ record { bound = reach.visit.touched.bound; list = [] } → Leads reach.above base rows
    → ((place : ℕ) (name : List ℕ) → Contains rows.list place → slice_get names place ≡ Some name → Leads reach.above name rows) → AreClimbed reach.above names base rows → Stays none mid → Touches reach.at_device reach.at_l3_device base mid
    → TouchesOnly reach.at_device reach.at_l3_device base none mid → HasTouched reach.at_device reach.at_l3_device names listed mid touched → IsPermutation touched.list sorted.list → IsStrictlySortedBy nat_cmp sorted.list
    → AreTouched inputs base sorted.list
walked inputs reach is base names listed rows none mid touched sorted same told row_bound empty first further climbed stays at_base only_base at_rows order rising =
    touched_in_order inputs base touched.list sorted.list order rising
    (touched_all inputs reach is base rows touched (row_bound ∙ is.row_room) first further_names
    (still_touches reach.at_device reach.at_l3_device base mid touched rows_touched.stays at_base) rows_touched.touches
    (rows_touched.stays.bound ∙ stays.bound ∙ ap (λ (s : Places). s.bound) empty ∙ is.place_room))
    (touched_only inputs reach is base rows none mid touched (ap (λ (s : Places). s.list) empty) climbed_names only_base rows_touched.only)
  where
    further_names : (place : ℕ) (name : List ℕ) → Contains rows.list place → slice_get reach.names.items place ≡ Some name → Leads reach.above name rows
    further_names = subst (λ (z : List (List ℕ)). (place : ℕ) (name : List ℕ) → Contains rows.list place → slice_get z place ≡ Some name → Leads reach.above name rows) same further

    climbed_names : AreClimbed reach.above reach.names.items base rows
    climbed_names = subst (λ (z : List (List ℕ)). AreClimbed reach.above z base rows) same climbed

    rows_touched : HasTouched reach.at_device reach.at_l3_device reach.names.items rows.list mid touched
    rows_touched =
        subst (λ (z : List (List ℕ)). HasTouched reach.at_device reach.at_l3_device z rows.list mid touched) same
        (subst (λ (z : List ℕ). HasTouched reach.at_device reach.at_l3_device names z mid touched) told at_rows)
