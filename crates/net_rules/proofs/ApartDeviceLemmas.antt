-- A device whose name cannot be used decides nothing.
use Rattle.std.proofs.Common.{◌≡◌, ◌⊎◌, inl, inr, ℕ, List, [], ◌∷◌, ◌++◌, map, Bool, true, false, cond, Contains, Option, Some, None, refl, ap, sym, subst, ◌∙◌}
use Rattle.std.specs.Prelude.{bytes_eq, filter, not, ◌&&◌, ◌||◌, is_some}
use Rattle.std.specs.List.{filter_map, flat_map, list_any}
use Rattle.std.specs.Option.{option_and_then, option_map_or}
use Rattle.std.proofs.lemmas.List.Elements.{Contains-append_left, Contains-append_right}
use Rattle.kern_model.specs.declared.object.Device.{Device}
use Rattle.kern_model.specs.declared.object.Mac.{Mac}
use Rattle.kern_model.specs.declared.object.LinkKind.TheVariants as kind
use Rattle.kern_model.specs.declared.object.Object.TheVariants as object
use Rattle.kern_model.specs.ObjectOrder.{set_of}
use Rattle.kern_model.proofs.TestLemmas.{both, either, not_true, of_not, false_of_not, bytes_same, same_bytes, in_filter_map, from_any}
use Rattle.net_rows.specs.declared.rows.InterfaceRow.{InterfaceRow}
use Rattle.net_rows.specs.declared.rows.NameRow.{NameRow}
use Rattle.net_rules.specs.Facts.{Facts}
use Rattle.net_rules.specs.Rows.{is_name, is_plain, names_of, interfaces_of, interface_named, is_filtering, vlans_of, asks_nothing, row_at}
use Rattle.net_rules.specs.RadioPorts.{device_of, radio_ports}
use Rattle.net_rules.specs.Standing.{Standing, Broken, Alone, Over, Ports, standing_at, lowers_of, stands}
use Rattle.net_rules.specs.Sound.{IsSound, AreClosedDown}
use Rattle.net_rules.specs.Available.{is_present, has_carrier, opens, opens_at, available, links, links_at, link}
use Rattle.net_rules.specs.Interfaces.{is_enabled, has_device, is_claimed, has_link, is_ready, answer_of, is_answered_up, serves_l3_device, l3_device_of, is_up}
use Rattle.net_rules.specs.Used.{uses, serves_at, used}
use Rattle.net_rules.specs.Need.{interface_request, interface_need}
use Rattle.net_rules.specs.After.{interface_need_of}
use Rattle.net_rules.specs.Want.{mtu_of, local_vlan, objects_by, objects_of_row, objects_at, given_by, given, known_names, wanted_list, want}
use Rattle.net_rules.proofs.ListLemmas.{any_same, in_firsts}
use Rattle.net_rules.proofs.TableLemmas.{found_member}
use Rattle.net_rules.proofs.OnceLemmas.{found_firsts}
use Rattle.net_rules.proofs.StandingLemmas.{stands_by_test, lower_known}
use Rattle.net_rules.proofs.DeviceLemmas.{available_follows, link_follows, used_follows, used_known}
use Rattle.net_rules.proofs.AloneLemmas.{available_alone, link_alone, used_alone}
use Rattle.net_rules.proofs.ApartSameLemmas.{join_same, if_same}

of_name : (o : Option (List ℕ)) (name : List ℕ) → is_name o name ≡ true → o ≡ Some name
of_name None name h = cc h
of_name (Some other) name h = ap Some (bytes_same other name h)

module _ (facts : Facts) (sound : IsSound facts.conf) (other : List ℕ → Option Device) (name : List ℕ)
    (apart : Contains (known_names facts) name → ⊥) (alike : (q : List ℕ) → (q ≡ name → ⊥) → other q ≡ facts.device q) where
  abbrev now : Facts
  now = record facts { device = other }

  -- the name is none of those that can be used
  abbrev of_radios : List (List ℕ)
  of_radios = map (λ j. j.port) (radio_ports facts)

  abbrev of_devices : List (List ℕ)
  of_devices = filter_map (device_of facts) (interfaces_of facts.conf)

  abbrev of_l3_devices : List (List ℕ)
  of_l3_devices = filter_map (l3_device_of facts) (interfaces_of facts.conf)

  unknown : Contains (names_of facts.conf ++ (of_radios ++ (of_devices ++ of_l3_devices))) name → ⊥
  unknown h = apart (in_firsts (names_of facts.conf ++ (of_radios ++ (of_devices ++ of_l3_devices))) name h)

  no_row : Contains (names_of facts.conf) name → ⊥
  no_row h = unknown (Contains-append_left (names_of facts.conf) (of_radios ++ (of_devices ++ of_l3_devices)) name h)

  no_port : Contains of_radios name → ⊥
  no_port h = unknown (Contains-append_right (names_of facts.conf) (of_radios ++ (of_devices ++ of_l3_devices)) name (Contains-append_left of_radios (of_devices ++ of_l3_devices) name h))

  no_device : (row : InterfaceRow) → Contains (interfaces_of facts.conf) row → device_of facts row ≡ Some name → ⊥
  no_device row member is = unknown (Contains-append_right (names_of facts.conf) (of_radios ++ (of_devices ++ of_l3_devices)) name
      (Contains-append_right of_radios (of_devices ++ of_l3_devices) name (Contains-append_left of_devices of_l3_devices name (in_filter_map (device_of facts) (interfaces_of facts.conf) row name member is))))

  no_l3_device : (row : InterfaceRow) → Contains (interfaces_of facts.conf) row → l3_device_of facts row ≡ Some name → ⊥
  no_l3_device row member is = unknown (Contains-append_right (names_of facts.conf) (of_radios ++ (of_devices ++ of_l3_devices)) name
      (Contains-append_right of_radios (of_devices ++ of_l3_devices) name (Contains-append_right of_devices of_l3_devices name (in_filter_map (l3_device_of facts) (interfaces_of facts.conf) row name member is))))

  -- nothing stands on it
  no_lower : (upper : List ℕ) → Contains (lowers_of (standing_at facts upper)) name → ⊥
  no_lower upper h = elim (lower_known facts sound upper name h) as (λ _. ⊥) [ inl row ↦ no_row row | inr port ↦ no_port port ]

  -- availability and link of all others
  abbrev is_other : List ℕ → Bool
  is_other q = not (bytes_eq q name)

  off : (q : List ℕ) → is_other q ≡ true → q ≡ name → ⊥
  off q is same = not_true (bytes_eq q name) is (same_bytes q name same)

  of_off : (q : List ℕ) → (q ≡ name → ⊥) → is_other q ≡ true
  of_off q other_name = of_not (bytes_eq q name) (λ h. other_name (bytes_same q name h))

  closed : AreClosedDown now is_other
  closed upper lower among h = of_off lower (λ same. no_lower upper (subst (Contains (lowers_of (standing_at facts upper))) same h))

  available_alike : (q : List ℕ) → is_other q ≡ true → available facts q ≡ available now q
  available_alike = available_alone now sound is_other (available facts) closed
      (λ q is. available_follows facts sound q ∙ ap (λ d. opens (is_some d) (available facts) (standing_at facts q)) (sym (alike q (off q is))))

  link_alike : (q : List ℕ) → is_other q ≡ true → link facts q ≡ link now q
  link_alike = link_alone now sound is_other (link facts) closed
      (λ q is. link_follows facts sound q
      ∙ ap (λ d. links (option_map_or (λ (device : Device). device.carrier) d false) (available facts q) (link facts) (standing_at facts q)) (sym (alike q (off q is)))
      ∙ ap (λ b. links (has_carrier now q) b (link facts) (standing_at facts q)) (available_alike q is))

  pub available_same : (q : List ℕ) → (q ≡ name → ⊥) → available now q ≡ available facts q
  available_same q other_name = sym (available_alike q (of_off q other_name))

  pub link_same : (q : List ℕ) → (q ≡ name → ⊥) → link now q ≡ link facts q
  link_same q other_name = sym (link_alike q (of_off q other_name))

  -- interfaces
  device_same : (proto : List ℕ) (o : Option (List ℕ)) → (o ≡ Some name → ⊥) → has_device now proto o ≡ has_device facts proto o
  device_same proto None other_name = refl
  device_same proto (Some device) other_name = available_same device (λ same. other_name (ap Some same))

  linked_same : (o : Option (List ℕ)) → (o ≡ Some name → ⊥) → has_link now o ≡ has_link facts o
  linked_same None other_name = refl
  linked_same (Some device) other_name = link_same device (λ same. other_name (ap Some same))

  l3_device_same : (own o : Option (List ℕ)) → (o ≡ Some name → ⊥) → serves_l3_device now own o ≡ serves_l3_device facts own o
  l3_device_same own None other_name = refl
  l3_device_same own (Some l3_device) other_name = ap (λ b. b && (is_plain facts.conf l3_device || is_name own l3_device)) (available_same l3_device (λ same. other_name (ap Some same)))

  claimed_same : (row : InterfaceRow) → Contains (interfaces_of facts.conf) row → is_claimed now row ≡ is_claimed facts row
  claimed_same row member = ap (λ b. is_enabled facts row && b) (device_same row.proto (device_of facts row) (no_device row member))

  ready_same : (row : InterfaceRow) → Contains (interfaces_of facts.conf) row → is_ready now row ≡ is_ready facts row
  ready_same row member =
      ap (λ b. b && (row.force_link || has_link now (device_of facts row))) (claimed_same row member)
      ∙ ap (λ b. is_claimed facts row && (row.force_link || b)) (linked_same (device_of facts row) (no_device row member))

  pub up_same : (row : InterfaceRow) → Contains (interfaces_of facts.conf) row → is_up now row ≡ is_up facts row
  up_same row member =
      ap (λ b. b && (asks_nothing row.proto || (is_answered_up (answer_of facts row) && serves_l3_device now (device_of facts row) (l3_device_of facts row)))) (ready_same row member)
      ∙ ap (λ b. is_ready facts row && (asks_nothing row.proto || (is_answered_up (answer_of facts row) && b))) (l3_device_same (device_of facts row) (l3_device_of facts row) (no_l3_device row member))

  uses_same : (q : List ℕ) (row : InterfaceRow) → Contains (interfaces_of facts.conf) row → uses now q row ≡ uses facts q row
  uses_same q row member =
      ap (λ b. (b && is_name (device_of facts row) q) || (is_up now row && is_name (l3_device_of facts row) q)) (claimed_same row member)
      ∙ ap (λ b. (is_claimed facts row && is_name (device_of facts row) q) || (b && is_name (l3_device_of facts row) q)) (up_same row member)

  need_same : (row : InterfaceRow) → Contains (interfaces_of facts.conf) row → interface_need now row ≡ interface_need facts row
  need_same row member = ap (λ b. cond (b && not (asks_nothing row.proto)) (Some (interface_request facts row)) None) (ready_same row member)

  need_by : (q : List ℕ) (row : Option InterfaceRow) → interface_named facts.conf q ≡ row → option_and_then (interface_need now) row ≡ option_and_then (interface_need facts) row
  need_by q None is = refl
  need_by q (Some row) is = need_same row (found_member (λ (r : InterfaceRow). r.name) (interfaces_of facts.conf) q row (found_firsts (λ (r : InterfaceRow). r.name) facts.conf.interfaces q ∙ is)).member

  pub needs_same : (q : List ℕ) → interface_need_of now q ≡ interface_need_of facts q
  needs_same q = need_by q (interface_named facts.conf q) refl

  -- use
  not_used : used facts name ≡ false
  not_used = false_of_not (used facts name) (λ h. apart (used_known facts sound name h))

  uses_none : (row : InterfaceRow) → Contains (interfaces_of facts.conf) row → uses now name row ≡ true → ⊥
  uses_none row member h = elim (either (is_claimed now row && is_name (device_of facts row) name) (is_up now row && is_name (l3_device_of facts row) name) h) as (λ _. ⊥) [
    | inl own ↦ no_device row member (of_name (device_of facts row) name (both (is_claimed now row) (is_name (device_of facts row) name) own).1)
    | inr l3_device ↦ no_l3_device row member (of_name (l3_device_of facts row) name (both (is_up now row) (is_name (l3_device_of facts row) name) l3_device).1)
  ]

  serves_none : serves_at now (used facts) name ≡ true → ⊥
  serves_none h = elim (either (list_any (uses now name) (interfaces_of facts.conf)) (list_any (λ upper. stands facts name upper && used facts upper) (names_of facts.conf))
      (both (available now name) (list_any (uses now name) (interfaces_of facts.conf) || list_any (λ upper. stands facts name upper && used facts upper) (names_of facts.conf)) h).1) as (λ _. ⊥) [
        | inl interface ↦ let found = from_any (uses now name) (interfaces_of facts.conf) interface in uses_none found.passing found.member found.passes
        | inr upper ↦ let found = from_any (λ upper. stands facts name upper && used facts upper) (names_of facts.conf) upper in
            no_lower found.passing (stands_by_test facts name found.passing (both (stands facts name found.passing) (used facts found.passing) found.passes).0)
      ]

  serves_by : (q : List ℕ) (b : Bool) → bytes_eq q name ≡ b → used facts q ≡ serves_at now (used facts) q
  serves_by q true is = subst (λ n. used facts n ≡ serves_at now (used facts) n) (sym (bytes_same q name is)) (not_used ∙ sym (false_of_not (serves_at now (used facts) name) serves_none))
  serves_by q false is =
      let other_name : q ≡ name → ⊥ = λ same. cc (is, same_bytes q name same) in
      used_serves q
      ∙ ap (λ b. b && (list_any (uses facts q) (interfaces_of facts.conf) || list_any (λ upper. stands facts q upper && used facts upper) (names_of facts.conf))) (sym (available_same q other_name))
      ∙ ap (λ b. available now q && (b || list_any (λ upper. stands facts q upper && used facts upper) (names_of facts.conf))) (any_same (uses facts q) (uses now q) (interfaces_of facts.conf) (λ row member. sym (uses_same q row member)))
    where
      used_serves : (r : List ℕ) → used facts r ≡ serves_at facts (used facts) r
      used_serves r = used_follows facts sound r

  used_same : (q : List ℕ) → used now q ≡ used facts q
  used_same q = sym (used_alone now sound (λ r. true) (used facts) (λ upper lower among h. refl) (λ r among. serves_by r (bytes_eq r name) refl) q refl)

  used_path : used now ≡ used facts
  used_path = λ i q. used_same q i

  -- what is wanted
  by_same : (q : List ℕ) (mac : Option Mac) (s : Standing) → objects_by now q mac s ≡ objects_by facts q mac s
  by_same q mac Broken = refl
  by_same q mac (Alone fit) = refl
  by_same q mac (Over lower id) = refl
  by_same q mac (Ports empty ports) = ap (λ (u : List ℕ → Bool). object.Up q ∷ object.Link q (kind.Bridge mac (is_filtering facts.conf q))
      ∷ (map (λ port. object.Master port q) (filter u ports)
      ++ flat_map (λ row. map (λ entry. object.Vlan q entry.port row.id entry.pvid entry.untagged) (filter (λ entry. u entry.port && list_any (λ port. bytes_eq port entry.port) ports) row.entries) ++ local_vlan q row.id row.local)
      (vlans_of facts.conf q))) used_path

  row_same : (q : List ℕ) (row : NameRow) → objects_of_row now q row ≡ objects_of_row facts q row
  row_same q row = ap (λ os. mtu_of q row.mtu ++ os) (by_same q row.mac (standing_at facts q))

  at_same : (q : List ℕ) → objects_at now q ≡ objects_at facts q
  at_same q =
      ap (λ b. cond b (objects_of_row now q (row_at facts.conf.names q)) []) (used_same q)
      ∙ ap (λ os. cond (used facts q) os []) (row_same q (row_at facts.conf.names q))

  given_same : (row : InterfaceRow) → Contains (interfaces_of facts.conf) row → given now row ≡ given facts row
  given_same row member = ap (λ b. cond b (given_by facts row (l3_device_of facts row)) []) (up_same row member)

  list_same : wanted_list now ≡ wanted_list facts
  list_same =
      ap (λ os. os ++ flat_map (given now) (interfaces_of facts.conf)) (join_same (objects_at now) (objects_at facts) (known_names facts) (λ q member. at_same q))
      ∙ ap (λ os. flat_map (objects_at facts) (known_names facts) ++ os) (join_same (given now) (given facts) (interfaces_of facts.conf) given_same)

  pub want_same : want now ≡ want facts
  unfolding want
  want_same = ap set_of list_same
