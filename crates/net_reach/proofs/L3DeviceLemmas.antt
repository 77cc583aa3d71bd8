-- An interface is told another layer-3 device.
use Rattle.std.proofs.Common.{◌≡◌, ◌≢◌, suc, ℕ, List, [], ◌∷◌, ◌++◌, map, slice_get, Bool, true, false, cond, Contains, inl, inr, Option, Some, None, refl, sym, ap, subst, ◌∙◌, bytes_eq, eqb-true, eq-eqb}
use Rattle.std.specs.Option.{option_map}
use Rattle.std.proofs.lemmas.List.Elements.{Contains-append_left, Contains-append_right, Contains-append_cases}
use Rattle.kern_model.proofs.TestLemmas.{bytes_same, same_bytes}
use Rattle.uci_tree.proofs.FoldLemmas.{position-cons}
use Rattle.net_rows.specs.declared.rows.Conf.{Conf}
use Rattle.net_rows.specs.declared.rows.InterfaceRow.{InterfaceRow}
use Rattle.net_rules.specs.declared.inputs.Inputs.{Inputs}
use Rattle.net_rules.specs.Rows.{is_name}
use Rattle.net_view.specs.Places.{place_of, is_place}
use Rattle.net_view.specs.RadioPorts.{group_in}
use Rattle.net_reach.specs.Groups.{Groups, AreMembers, HasMembers, Gains, without_place}
use Rattle.net_reach.specs.Reach.{told_l3_device, interface_place, is_at_l3_device, IsReachOf}
use Rattle.net_reach.specs.L3Devices.{TellsL3Device}
use Rattle.net_reach.specs.declared.reach.Reach.{Reach}
use Rattle.net_reach.proofs.AlikeLemmas.{reach_moves}
use Rattle.net_reach.proofs.MemberLemmas.{in_one, of_one, left_in, left_only}

-- ---- the first row of a name

abbrev names : List InterfaceRow → List (List ℕ)
names rows = map (λ (row : InterfaceRow). row.name) rows

record HasRowAt (rows : List InterfaceRow) (name : List ℕ) (place : ℕ) : Type 0 where
  pub row : InterfaceRow
  pub found : slice_get rows place ≡ Some row
  pub is : row.name ≡ name

row_step : (r : InterfaceRow) (rows : List InterfaceRow) (name : List ℕ) (place : ℕ) (b : Bool) (o : Option ℕ) → bytes_eq r.name name ≡ b → place_of (names rows) name ≡ o
    → ((k : ℕ) → place_of (names rows) name ≡ Some k → HasRowAt rows name k) → cond {A = Option ℕ} b (Some 0) (option_map (λ k. suc k) o) ≡ Some place → HasRowAt (r ∷ rows) name place
row_step r rows name place true o same is rest h =
    let zero_is : 0 ≡ place = cc h in
    subst (HasRowAt (r ∷ rows) name) zero_is (record { row = r; found = refl; is = bytes_same r.name name same })
row_step r rows name place false None other is rest h = cc h
row_step r rows name place false (Some k) other is rest h =
    let next : suc k ≡ place = cc h in
    let found = rest k is in
    subst (HasRowAt (r ∷ rows) name) next (record { row = found.row; found = found.found; is = found.is })

row_there : (rows : List InterfaceRow) (name : List ℕ) (place : ℕ) → place_of (names rows) name ≡ Some place → HasRowAt rows name place
row_there [] name place h = cc h
row_there (r ∷ rows) name place h =
    row_step r rows name place (bytes_eq r.name name) (place_of (names rows) name) refl refl (row_there rows name)
    (sym (position-cons (λ (other : List ℕ). bytes_eq other name) r.name (names rows)) ∙ h)

is_found : (place : ℕ) (o : Option ℕ) → is_place place o ≡ true → o ≡ Some place
is_found place None h = cc h
is_found place (Some k) h = ap (λ (n : ℕ). Some n) (eqb-true k place h)

found_is : (place : ℕ) (o : Option ℕ) → o ≡ Some place → is_place place o ≡ true
found_is place o h = ap (is_place place) h ∙ eq-eqb place place refl

name_told : (o : Option (List ℕ)) (name : List ℕ) → is_name o name ≡ true → o ≡ Some name
name_told None name h = cc h
name_told (Some other) name h = ap (λ (n : List ℕ). Some n) (bytes_same other name h)

-- ---- the places at a layer-3 device, by what is told for names

module _ (rows : List InterfaceRow) where
  abbrev at : (List ℕ → Option (List ℕ)) → List ℕ → ℕ → InterfaceRow → Bool
  at told q place row = is_name (cond (is_place place (place_of (names rows) row.name)) (told row.name) None) q

  first_told : (b : Bool) (o : Option (List ℕ)) (q : List ℕ) → is_name (cond b o None) q ≡ true → (b ≡ true) × (is_name o q ≡ true)
  first_told true o q h = (refl, h)
  first_told false o q h = cc h

  told_first : (told : List ℕ → Option (List ℕ)) (q : List ℕ) (place : ℕ) (row : InterfaceRow) → place_of (names rows) row.name ≡ Some place → is_name (told row.name) q ≡ true → at told q place row ≡ true
  told_first told q place row first h = ap (λ b. is_name (cond b (told row.name) None) q) (found_is place (place_of (names rows) row.name) first) ∙ h

  module _ (before now : List ℕ → Option (List ℕ)) (interface : List ℕ) (place : ℕ) (was l3_device : Option (List ℕ))
      (others : (name : List ℕ) → bytes_eq name interface ≡ false → now name ≡ before name)
      (told_before : before interface ≡ was) (told_now : now interface ≡ l3_device)
      (there_is : place_of (names rows) interface ≡ Some place) (q : List ℕ) (places : List ℕ) (are : AreMembers places (at before q) rows) where
    abbrev left : List ℕ
    left = cond (is_name was q) (without_place places place) places

    abbrev come : List ℕ
    come = cond (is_name l3_device q) (place ∷ []) []

    -- the row at the place is of that name
    named : (p : ℕ) (row : InterfaceRow) → slice_get rows p ≡ Some row → p ≡ place → row.name ≡ interface
    named p row found same =
        let there = row_there rows interface place there_is in
        let one : row ≡ there.row = let both = sym found ∙ ap (slice_get rows) same ∙ there.found in cc both in
        ap (λ (r : InterfaceRow). r.name) one ∙ there.is

    stays_in : (b : Bool) (p : ℕ) → p ≢ place → Contains places p → Contains (cond b (without_place places place) places) p
    stays_in true p apart inside = left_in place p apart places inside
    stays_in false p apart inside = inside

    was_in : (b : Bool) (p : ℕ) → Contains (cond b (without_place places place) places) p → Contains places p × (b ≡ true → p ≢ place)
    was_in true p inside = let found = left_only place p places inside in (found.0, λ h. found.1)
    was_in false p inside = (inside, λ h. cc h)

    all_in : (p : ℕ) (row : InterfaceRow) (b : Bool) → bytes_eq row.name interface ≡ b → slice_get rows p ≡ Some row → place_of (names rows) row.name ≡ Some p → is_name (now row.name) q ≡ true → Contains (left ++ come) p
    all_in p row true same found first told =
        let is : row.name ≡ interface = bytes_same row.name interface same in
        let here_is : place ≡ p = let both = sym there_is ∙ ap (place_of (names rows)) (sym is) ∙ first in cc both in
        let new : is_name l3_device q ≡ true = ap (λ (o : Option (List ℕ)). is_name o q) (sym told_now ∙ ap now (sym is)) ∙ told in
        Contains-append_right left come p (of_one (is_name l3_device q) place p new here_is)
    all_in p row false other found first told =
        let apart : p ≢ place = λ h. let hit = same_bytes row.name interface (named p row found h) in cc (other, hit) in
        let old : is_name (before row.name) q ≡ true = ap (λ (o : Option (List ℕ)). is_name o q) (sym (others row.name other)) ∙ told in
        Contains-append_left left come p (stays_in (is_name was q) p apart (are.all p row found (told_first before q p row first old)))

    abbrev Found : ℕ → Type 0
    Found p = (row : InterfaceRow) × (slice_get rows p ≡ Some row) × (at now q p row ≡ true)

    new_found : (p : ℕ) → is_name l3_device q ≡ true → place ≡ p → Found p
    new_found p new here_is =
        let there = row_there rows interface place there_is in
        let first : place_of (names rows) there.row.name ≡ Some p = ap (place_of (names rows)) there.is ∙ there_is ∙ ap (λ (n : ℕ). Some n) here_is in
        let told : is_name (now there.row.name) q ≡ true = ap (λ (o : Option (List ℕ)). is_name o q) (ap now there.is ∙ told_now) ∙ new in
        (there.row, ap (slice_get rows) (sym here_is) ∙ there.found, told_first now q p there.row first told)

    old_found : (p : ℕ) (row : InterfaceRow) (b : Bool) → bytes_eq row.name interface ≡ b → slice_get rows p ≡ Some row → place_of (names rows) row.name ≡ Some p → is_name (before row.name) q ≡ true → (is_name was q ≡ true → p ≢ place)
        → Found p
    old_found p row true same found first told apart =
        let is : row.name ≡ interface = bytes_same row.name interface same in
        let here_is : p ≡ place = let both = sym first ∙ ap (place_of (names rows)) is ∙ there_is in cc both in
        let old : is_name was q ≡ true = ap (λ (o : Option (List ℕ)). is_name o q) (sym told_before ∙ ap before (sym is)) ∙ told in
        absurd (apart old here_is)
    old_found p row false other found first told apart =
        (row, found, told_first now q p row first (ap (λ (o : Option (List ℕ)). is_name o q) (others row.name other) ∙ told))

    pub moved : AreMembers (left ++ come) (at now q) rows
    moved = record {
      all = λ p row found passes.
          let is = first_told (is_place p (place_of (names rows) row.name)) (now row.name) q passes in
          all_in p row (bytes_eq row.name interface) refl found (is_found p (place_of (names rows) row.name) is.0) is.1;
      only = λ p inside. elim (Contains-append_cases left come p inside) as (λ _. Found p) [
        | inl old ↦
            let was_there = was_in (is_name was q) p old in
            let found = are.only p was_there.0 in
            let is = first_told (is_place p (place_of (names rows) found.0.name)) (before found.0.name) q found.2 in
            old_found p found.0 (bytes_eq found.0.name interface) refl found.1 (is_found p (place_of (names rows) found.0.name) is.0) is.1 was_there.1
        | inr new ↦ let one = in_one (is_name l3_device q) place p new in new_found p one.0 one.1
      ];
    }

-- ---- the map

pub l3_device_moves : (before now : Inputs) (interface : List ℕ) (place : ℕ) (was l3_device : Option (List ℕ)) (old mid new : Groups) → HasMembers old (is_at_l3_device before) before.conf.interfaces → interface_place before.conf interface
    ≡ Some place
    → TellsL3Device before now interface was l3_device → ((q : List ℕ) → group_in mid q ≡ cond (is_name was q) (without_place (group_in old q) place) (group_in old q)) → Gains mid new (λ q. is_name l3_device q) place
    → HasMembers new (is_at_l3_device now) now.conf.interfaces
l3_device_moves before now interface place was l3_device old mid new has there_is tells out come =
    subst (λ (c : Conf). HasMembers new (at c.interfaces (told_l3_device now)) c.interfaces) (sym tells.others.conf)
    (λ q. subst (λ (z : List ℕ). AreMembers z (at before.conf.interfaces (told_l3_device now) q) before.conf.interfaces)
    (sym (come q ∙ ap (λ (z : List ℕ). z ++ cond (is_name l3_device q) (place ∷ []) []) (out q)))
    (moved before.conf.interfaces (told_l3_device before) (told_l3_device now) interface place was l3_device tells.others.l3_devices tells.was_told tells.is_told there_is q (group_in old q) (has q)))

pub l3_device_set : (before now : Inputs) (reach : Reach) (interface : List ℕ) (place : ℕ) (was l3_device : Option (List ℕ)) (mid new : Groups) → IsReachOf before reach → interface_place before.conf interface ≡ Some place
    → TellsL3Device before now interface was l3_device → ((q : List ℕ) → group_in mid q ≡ cond (is_name was q) (without_place (group_in reach.at_l3_device q) place) (group_in reach.at_l3_device q))
    → Gains mid new (λ q. is_name l3_device q) place
    → IsReachOf now (record reach { at_l3_device = new })
l3_device_set before now reach interface place was l3_device mid new is there_is tells out come =
    reach_moves (λ name. bytes_eq name interface) before now reach new tells.others
    (l3_device_moves before now interface place was l3_device reach.at_l3_device mid new is.at_l3_device there_is tells out come) is

-- ---- room

pub room_taken : (inputs : Inputs) (reach : Reach) (groups : Groups) → IsReachOf inputs reach → ((q : List ℕ) → group_in groups q ≡ group_in reach.at_l3_device q) → IsReachOf inputs (record reach { at_l3_device = groups })
room_taken inputs reach groups is same = record {
  interfaces = is.interfaces;
  radios = is.radios;
  devices = is.devices;
  rows = is.rows;
  names = is.names;
  above = is.above;
  at_device = is.at_device;
  at_l3_device = λ q. subst (λ (z : List ℕ). AreMembers z (is_at_l3_device inputs q) inputs.conf.interfaces) (sym (same q)) (is.at_l3_device q);
  routes = is.routes;
  row_room = is.row_room;
  place_room = is.place_room;
}
