-- What happens to a device leaves alone what is not above it.
use Rattle.std.proofs.Common.{◌≡◌, ℕ, zero, suc, List, [], Bool, false, cond, Contains, Option, Some, None, refl, ap, sym, subst, ◌∙◌}
use Rattle.std.specs.Prelude.{◌↔◌, ◌&&◌, ◌||◌, not, is_some}
use Rattle.std.specs.Option.{option_and_then, option_map_or}
use Rattle.kern_model.specs.declared.object.Device.{Device}
use Rattle.net_rows.specs.declared.rows.InterfaceRow.{InterfaceRow}
use Rattle.net_rules.specs.Levels.{by_levels}
use Rattle.net_rules.specs.Facts.{Facts}
use Rattle.net_rules.specs.Rows.{is_name, is_plain, interfaces_of, interface_named, asks_nothing}
use Rattle.net_rules.specs.RadioPorts.{device_of}
use Rattle.net_rules.specs.Standing.{Standing, standing_at, lowers_of}
use Rattle.net_rules.specs.Available.{is_present, has_carrier, opens, opens_at, available, links, links_at, link}
use Rattle.net_rules.specs.Interfaces.{is_enabled, has_device, is_claimed, has_link, is_ready, answer_of, l3_device_of, is_answered_up, serves_l3_device, is_up}
use Rattle.net_rules.specs.Need.{interface_request, interface_need}
use Rattle.net_rules.specs.Want.{given_by, given}
use Rattle.net_rules.proofs.TableLemmas.{found_member}
use Rattle.net_rules.proofs.OnceLemmas.{found_firsts}
use Rattle.net_rules.proofs.DeviceLemmas.{opens_same, links_same}
use Rattle.net_rules.specs.Above.{IsAbove, IsOffBase, DiffersAt}
use Rattle.net_rules.specs.Touched.{NeedsStay}

-- facts with other devices, the same but at one name
module _ (facts : Facts) (other : List ℕ → Option Device) (base : List ℕ) (alike : (name : List ℕ) → (name ≡ base → ⊥) → other name ≡ facts.device name) where
  abbrev with_others : Facts
  with_others = record facts { device = other }

  abbrev IsOff : List ℕ → Type 0
  IsOff name = IsAbove facts base name → ⊥

  not_base : (name : List ℕ) → IsOff name → name ≡ base → ⊥
  not_base name off same = off (subst (IsAbove facts base) (sym same) IsAbove.itself)

  off_below : (name lower : List ℕ) → IsOff name → Contains (lowers_of (standing_at facts name)) lower → IsOff lower
  off_below name lower off h above = off (IsAbove.over name lower h above)

  opens_by : (levels : ℕ) (name : List ℕ) → IsOff name → by_levels levels (opens_at facts) name ≡ by_levels levels (opens_at with_others) name
  unfolding by_levels
  opens_by zero name off = refl
  opens_by (suc levels) name off =
      opens_same (is_present facts name) (by_levels levels (opens_at facts)) (by_levels levels (opens_at with_others)) (standing_at facts name) (λ lower h. opens_by levels lower (off_below name lower off h))
      ∙ ap (λ (d : Option Device). opens (is_some d) (by_levels levels (opens_at with_others)) (standing_at facts name)) (sym (alike name (not_base name off)))

  available_off : (name : List ℕ) → IsOff name → available with_others name ≡ available facts name
  unfolding available
  available_off name off = sym (opens_by 8 name off)

  links_by : (levels : ℕ) (name : List ℕ) → IsOff name → by_levels levels (links_at facts) name ≡ by_levels levels (links_at with_others) name
  unfolding by_levels
  links_by zero name off = refl
  links_by (suc levels) name off =
      links_same (has_carrier facts name) (available facts name) (by_levels levels (links_at facts)) (by_levels levels (links_at with_others)) (standing_at facts name) (λ lower h. links_by levels lower (off_below name lower off h))
      ∙ ap (λ (d : Option Device). links (option_map_or (λ (device : Device). device.carrier) d false) (available facts name) (by_levels levels (links_at with_others)) (standing_at facts name)) (sym (alike name (not_base name off)))
      ∙ ap (λ b. links (has_carrier with_others name) b (by_levels levels (links_at with_others)) (standing_at facts name)) (sym (available_off name off))

  link_off : (name : List ℕ) → IsOff name → link with_others name ≡ link facts name
  unfolding link
  link_off name off = sym (links_by 8 name off)

  -- interfaces on such names
  device_off : (proto : List ℕ) (o : Option (List ℕ)) → IsOffBase facts base o → has_device with_others proto o ≡ has_device facts proto o
  device_off proto None off = refl
  device_off proto (Some device) off = available_off device off

  linked_off : (o : Option (List ℕ)) → IsOffBase facts base o → has_link with_others o ≡ has_link facts o
  linked_off None off = refl
  linked_off (Some device) off = link_off device off

  l3_device_off : (own o : Option (List ℕ)) → IsOffBase facts base o → serves_l3_device with_others own o ≡ serves_l3_device facts own o
  l3_device_off own None off = refl
  l3_device_off own (Some l3_device) off = ap (λ b. b && (is_plain facts.conf l3_device || is_name own l3_device)) (available_off l3_device off)

  module _ (row : InterfaceRow) (off : IsOffBase facts base (device_of facts row)) where
    claimed_off : is_claimed with_others row ≡ is_claimed facts row
    claimed_off = ap (λ b. is_enabled facts row && b) (device_off row.proto (device_of facts row) off)

    ready_off : is_ready with_others row ≡ is_ready facts row
    ready_off =
        ap (λ b. b && (row.force_link || has_link with_others (device_of facts row))) claimed_off
        ∙ ap (λ b. is_claimed facts row && (row.force_link || b)) (linked_off (device_of facts row) off)

    need_off : interface_need with_others row ≡ interface_need facts row
    need_off = ap (λ b. cond (b && not (asks_nothing row.proto)) (Some (interface_request facts row)) None) ready_off

    module _ (l3_device : IsOffBase facts base (l3_device_of facts row)) where
      up_off : is_up with_others row ≡ is_up facts row
      up_off =
          ap (λ b. b && (asks_nothing row.proto || (is_answered_up (answer_of facts row) && serves_l3_device with_others (device_of facts row) (l3_device_of facts row)))) ready_off
          ∙ ap (λ b. is_ready facts row && (asks_nothing row.proto || (is_answered_up (answer_of facts row) && b))) (l3_device_off (device_of facts row) (l3_device_of facts row) l3_device)

      given_off : given with_others row ≡ given facts row
      given_off = ap (λ b. cond b (given_by facts row (l3_device_of facts row)) []) up_off

-- names that stand alike are above the same
above_by : (facts other : Facts) → ((name : List ℕ) → standing_at facts name ≡ standing_at other name) → (base name : List ℕ) → IsAbove facts base name → IsAbove other base name
above_by facts other alike base name IsAbove.itself = IsAbove.itself
above_by facts other alike base name (IsAbove.over upper lower h above) = IsAbove.over upper lower (subst (λ (s : Standing). Contains (lowers_of s) lower) (alike upper) h) (above_by facts other alike base lower above)

-- two facts that differ at a device
module _ (before now : Facts) (base : List ℕ) (differs : DiffersAt base before now) where
  same_but : now ≡ record before { device = now.device }
  same_but = λ i. record {
    conf = differs.conf i;
    device = now.device;
    operator_state = λ q. differs.operator_state q i;
    answer = λ q. differs.answer q i;
    ports = λ q. differs.ports q i;
  }

  standing_stays : (name : List ℕ) → standing_at now name ≡ standing_at before name
  standing_stays name = ap (λ (f : Facts). standing_at f name) same_but

  pub above_stays : (other name : List ℕ) → IsAbove before other name ↔ IsAbove now other name
  above_stays other name = (above_by before now (λ q. sym (standing_stays q)) other name, above_by now before standing_stays other name)

  pub names_off : (name : List ℕ) → (IsAbove before base name → ⊥) → (available now name ≡ available before name) × (link now name ≡ link before name)
  names_off name off = (
    ap (λ (f : Facts). available f name) same_but ∙ available_off before now.device base differs.device name off,
    ap (λ (f : Facts). link f name) same_but ∙ link_off before now.device base differs.device name off,
  )

  pub places_stay : (row : InterfaceRow) → (device_of now row ≡ device_of before row) × (l3_device_of now row ≡ l3_device_of before row)
  places_stay row = (ap (λ (f : Facts). device_of f row) same_but, ap (λ (f : Facts). l3_device_of f row) same_but)

  pub needs_off : (row : InterfaceRow) → IsOffBase before base (device_of before row) → (is_claimed now row ≡ is_claimed before row) × (interface_need now row ≡ interface_need before row)
  needs_off row off = (
    ap (λ (f : Facts). is_claimed f row) same_but ∙ claimed_off before now.device base differs.device row off,
    ap (λ (f : Facts). interface_need f row) same_but ∙ need_off before now.device base differs.device row off,
  )

  pub uses_off : (row : InterfaceRow) → IsOffBase before base (device_of before row) → IsOffBase before base (l3_device_of before row) → (is_up now row ≡ is_up before row) × (given now row ≡ given before row)
  uses_off row off l3_device = (
    ap (λ (f : Facts). is_up f row) same_but ∙ up_off before now.device base differs.device row off l3_device,
    ap (λ (f : Facts). given f row) same_but ∙ given_off before now.device base differs.device row off l3_device,
  )

  module _ (touched : List ℕ → Bool) (apart : (row : InterfaceRow) → Contains (interfaces_of before.conf) row → touched row.name ≡ false → IsOffBase before base (device_of before row)) where
    of_row : (name : List ℕ) → touched name ≡ false → (found : Option InterfaceRow) → interface_named before.conf name ≡ found → option_and_then (interface_need now) found ≡ option_and_then (interface_need before) found
    of_row name off None is = refl
    of_row name off (Some row) is =
        let first = found_member (λ (r : InterfaceRow). r.name) (interfaces_of before.conf) name row (found_firsts (λ (r : InterfaceRow). r.name) before.conf.interfaces name ∙ is) in
        (needs_off row (apart row first.member (ap touched first.same ∙ off))).1

    pub needs_stay : NeedsStay before now touched
    needs_stay name off =
        ap (λ conf. option_and_then (interface_need now) (interface_named conf name)) differs.conf
        ∙ of_row name off (interface_named before.conf name) refl
