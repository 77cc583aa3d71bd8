-- Available, linked and used names over sound rows.
use Rattle.std.proofs.Common.{arith, ℕ, ◌≡◌, ◌<◌, ◌-◌, inl, inr, List, [], ◌++◌, map, Bool, true, false, Contains, Option, Some, None, refl, ap, sym, ◌∙◌}
use Rattle.std.specs.Prelude.{◌&&◌, ◌||◌, not}
use Rattle.std.specs.List.{list_any, filter_map}
use Rattle.std.proofs.lemmas.List.Elements.{Contains-append_left, Contains-append_right}
use Rattle.kern_model.proofs.MemberLemmas.{here}
use Rattle.kern_model.proofs.TestLemmas.{both, of_both, either, of_left, of_right, not_true, false_of_not, bytes_same, same_bytes, from_any, of_any, in_filter_map}
use Rattle.net_rows.specs.declared.rows.Conf.{Conf}
use Rattle.net_rows.specs.declared.rows.InterfaceRow.{InterfaceRow}
use Rattle.net_rules.specs.Facts.{Facts}
use Rattle.net_rules.specs.Rows.{is_name, names_of, interfaces_of}
use Rattle.net_rules.specs.RadioPorts.{device_of, radio_ports}
use Rattle.net_rules.specs.Standing.{Standing, Broken, Alone, Over, Ports, standing_at, lowers_of, stands}
use Rattle.net_rules.specs.Sound.{level_at, IsSound}
use Rattle.net_rules.specs.Available.{is_present, has_carrier, opens, opens_at, available, links, links_at, link}
use Rattle.net_rules.specs.Interfaces.{is_claimed, is_up, l3_device_of}
use Rattle.net_rules.specs.Used.{uses, serves_at, used}
use Rattle.net_rules.specs.Want.{known_names}
use Rattle.net_rules.proofs.ListLemmas.{and_same, any_same, in_firsts}
use Rattle.net_rules.proofs.LevelLemmas.{IsLocal, follows}
use Rattle.net_rules.proofs.StandingLemmas.{Stands, stands_by_test, test_of_stands, rises, most, lower_known, upper_named}

-- ranks by levels: from below, and from above
abbrev pub rank_down : Conf → List ℕ → ℕ
rank_down conf name = 7 - (8 - level_at conf name)

abbrev pub rank_up : Conf → List ℕ → ℕ
rank_up conf name = 8 - level_at conf name

pub lower_rank : (facts : Facts) → IsSound facts.conf → (upper lower : List ℕ) → Stands facts upper lower → rank_down facts.conf lower < rank_down facts.conf upper
lower_rank facts sound upper lower h =
    let least = sound.levels.least lower in
    let below = rises facts sound upper lower h in
    let within = most facts sound upper lower h in
    omega arith

pub upper_rank : (facts : Facts) → IsSound facts.conf → (upper lower : List ℕ) → Stands facts upper lower → rank_up facts.conf upper < rank_up facts.conf lower
upper_rank facts sound upper lower h =
    let below = rises facts sound upper lower h in
    let within = most facts sound upper lower h in
    omega arith

pub opens_same : (present : Bool) (f g : List ℕ → Bool) (s : Standing) → ((lower : List ℕ) → Contains (lowers_of s) lower → f lower ≡ g lower) → opens present f s ≡ opens present g s
opens_same present f g Broken same = refl
opens_same present f g (Alone fit) same = refl
opens_same present f g (Over lower id) same = ap (λ b. not present && b) (same lower (here lower []))
opens_same present f g (Ports empty ports) same = ap (λ b. not present && (empty || b)) (any_same f g ports same)

pub links_same : (carrier ready : Bool) (f g : List ℕ → Bool) (s : Standing) → ((lower : List ℕ) → Contains (lowers_of s) lower → f lower ≡ g lower) → links carrier ready f s ≡ links carrier ready g s
links_same carrier ready f g Broken same = refl
links_same carrier ready f g (Alone fit) same = refl
links_same carrier ready f g (Over lower id) same = ap (λ b. ready && b) (same lower (here lower []))
links_same carrier ready f g (Ports empty ports) same = ap (λ b. ready && b) (any_same f g ports same)

of_name : (o : Option (List ℕ)) (name : List ℕ) → is_name o name ≡ true → o ≡ Some name
of_name None name h = cc h
of_name (Some other) name h = ap Some (bytes_same other name h)

pub name_of_some : (o : Option (List ℕ)) (name : List ℕ) → o ≡ Some name → is_name o name ≡ true
name_of_some o name h = ap (λ p. is_name p name) h ∙ same_bytes name name refl

-- a name is known
module _ (facts : Facts) where
  abbrev of_radios : List (List ℕ)
  of_radios = map (λ j. j.port) (radio_ports facts)

  abbrev of_devices : List (List ℕ)
  of_devices = filter_map (device_of facts) (interfaces_of facts.conf)

  abbrev of_l3_devices : List (List ℕ)
  of_l3_devices = filter_map (l3_device_of facts) (interfaces_of facts.conf)

  known : (name : List ℕ) → Contains (names_of facts.conf ++ (of_radios ++ (of_devices ++ of_l3_devices))) name → Contains (known_names facts) name
  known name h = in_firsts (names_of facts.conf ++ (of_radios ++ (of_devices ++ of_l3_devices))) name h

  row_known : (name : List ℕ) → Contains (names_of facts.conf) name → Contains (known_names facts) name
  row_known name h = known name (Contains-append_left (names_of facts.conf) (of_radios ++ (of_devices ++ of_l3_devices)) name h)

  radio_known : (name : List ℕ) → Contains of_radios name → Contains (known_names facts) name
  radio_known name h = known name (Contains-append_right (names_of facts.conf) (of_radios ++ (of_devices ++ of_l3_devices)) name (Contains-append_left of_radios (of_devices ++ of_l3_devices) name h))

  device_known : (name : List ℕ) → Contains of_devices name → Contains (known_names facts) name
  device_known name h = known name (Contains-append_right (names_of facts.conf) (of_radios ++ (of_devices ++ of_l3_devices)) name
      (Contains-append_right of_radios (of_devices ++ of_l3_devices) name (Contains-append_left of_devices of_l3_devices name h)))

  l3_device_known : (name : List ℕ) → Contains of_l3_devices name → Contains (known_names facts) name
  l3_device_known name h = known name (Contains-append_right (names_of facts.conf) (of_radios ++ (of_devices ++ of_l3_devices)) name
      (Contains-append_right of_radios (of_devices ++ of_l3_devices) name (Contains-append_right of_devices of_l3_devices name h)))

module _ (facts : Facts) (sound : IsSound facts.conf) where
  opens_local : IsLocal (opens_at facts) (rank_down facts.conf)
  opens_local f g name same = opens_same (is_present facts name) f g (standing_at facts name) (λ lower h. same lower (lower_rank facts sound name lower h))

  pub available_follows : (name : List ℕ) → available facts name ≡ opens_at facts (available facts) name
  unfolding available
  available_follows name = follows (opens_at facts) (rank_down facts.conf) opens_local (λ other. omega arith) name

  links_local : IsLocal (links_at facts) (rank_down facts.conf)
  links_local f g name same = links_same (has_carrier facts name) (available facts name) f g (standing_at facts name) (λ lower h. same lower (lower_rank facts sound name lower h))

  pub link_follows : (name : List ℕ) → link facts name ≡ links_at facts (link facts) name
  unfolding link
  link_follows name = follows (links_at facts) (rank_down facts.conf) links_local (λ other. omega arith) name

  abbrev interface_uses : List ℕ → Bool
  interface_uses name = list_any (uses facts name) (interfaces_of facts.conf)

  serves_local : IsLocal (serves_at facts) (rank_up facts.conf)
  serves_local f g name same =
      ap (λ b. available facts name && (interface_uses name || b))
      (any_same (λ upper. stands facts name upper && f upper) (λ upper. stands facts name upper && g upper) (names_of facts.conf)
      (λ upper member. and_same (stands facts name upper) (f upper) (g upper) (λ on. same upper (upper_rank facts sound upper name (stands_by_test facts name upper on)))))

  pub used_follows : (name : List ℕ) → used facts name ≡ serves_at facts (used facts) name
  unfolding used
  used_follows name = follows (serves_at facts) (rank_up facts.conf) serves_local (λ other. let least = sound.levels.least other in omega arith) name

  -- what an available name has
  opens_as : (name : List ℕ) (s : Standing) → standing_at facts name ≡ s → available facts name ≡ true → opens (is_present facts name) (available facts) s ≡ true
  opens_as name s is h = sym (available_follows name ∙ ap (opens (is_present facts name) (available facts)) is) ∙ h

  pub not_broken : (name : List ℕ) → standing_at facts name ≡ Broken → available facts name ≡ true → ⊥
  not_broken name is h = cc (opens_as name Broken is h)

  pub present_alone : (name : List ℕ) (fit : Bool) → standing_at facts name ≡ Alone fit → available facts name ≡ true → is_present facts name ≡ true
  present_alone name fit is h = (both (is_present facts name) fit (opens_as name (Alone fit) is h)).0

  false_by_not : (b : Bool) → not b ≡ true → b ≡ false
  false_by_not b h = false_of_not b (not_true b h)

  pub absent_over : (name lower : List ℕ) (id : ℕ) → standing_at facts name ≡ Over lower id → available facts name ≡ true → (is_present facts name ≡ false) × (available facts lower ≡ true)
  absent_over name lower id is h = let parts = both (not (is_present facts name)) (available facts lower) (opens_as name (Over lower id) is h) in (false_by_not (is_present facts name) parts.0, parts.1)

  pub absent_bridge : (name : List ℕ) (empty : Bool) (ports : List (List ℕ)) → standing_at facts name ≡ Ports empty ports → available facts name ≡ true → is_present facts name ≡ false
  absent_bridge name empty ports is h = false_by_not (is_present facts name) (both (not (is_present facts name)) (empty || list_any (available facts) ports) (opens_as name (Ports empty ports) is h)).0

  -- what a used name has
  abbrev uppers_use : List ℕ → Bool
  uppers_use name = list_any (λ upper. stands facts name upper && used facts upper) (names_of facts.conf)

  serves_as : (name : List ℕ) → used facts name ≡ true → (available facts name ≡ true) × ((interface_uses name || uppers_use name) ≡ true)
  serves_as name h = both (available facts name) (interface_uses name || uppers_use name) (sym (used_follows name) ∙ h)

  pub used_available : (name : List ℕ) → used facts name ≡ true → available facts name ≡ true
  used_available name h = (serves_as name h).0

  pub used_known : (name : List ℕ) → used facts name ≡ true → Contains (known_names facts) name
  used_known name h =
      elim (either (interface_uses name) (uppers_use name) (serves_as name h).1) as (λ _. Contains (known_names facts) name) [
        | inl claimed ↦
            let found = from_any (uses facts name) (interfaces_of facts.conf) claimed in
            let row = found.passing in
            elim (either (is_claimed facts row && is_name (device_of facts row) name) (is_up facts row && is_name (l3_device_of facts row) name) found.passes) as (λ _. Contains (known_names facts) name) [
              | inl own ↦ device_known facts name (in_filter_map (device_of facts) (interfaces_of facts.conf) row name found.member
                  (of_name (device_of facts row) name (both (is_claimed facts row) (is_name (device_of facts row) name) own).1))
              | inr over ↦ l3_device_known facts name (in_filter_map (l3_device_of facts) (interfaces_of facts.conf) row name found.member
                  (of_name (l3_device_of facts row) name (both (is_up facts row) (is_name (l3_device_of facts row) name) over).1))
            ]
        | inr below ↦
            let found = from_any (λ upper. stands facts name upper && used facts upper) (names_of facts.conf) below in
            elim (lower_known facts sound found.passing name (stands_by_test facts name found.passing (both (stands facts name found.passing) (used facts found.passing) found.passes).0)) as (λ _. Contains (known_names facts) name) [
              | inl named ↦ row_known facts name named
              | inr radio ↦ radio_known facts name radio
            ]
      ]

  -- what makes a name used
  pub used_by_interface : (row : InterfaceRow) (name : List ℕ) → Contains (interfaces_of facts.conf) row → available facts name ≡ true → uses facts name row ≡ true → used facts name ≡ true
  used_by_interface row name member ready claims = used_follows name
      ∙ of_both (available facts name) (interface_uses name || uppers_use name) ready (of_left (interface_uses name) (uppers_use name) (of_any (uses facts name) (interfaces_of facts.conf) row member claims))

  pub used_below : (upper name : List ℕ) → used facts upper ≡ true → Stands facts upper name → available facts name ≡ true → used facts name ≡ true
  used_below upper name above on ready =
      used_follows name ∙ of_both (available facts name) (interface_uses name || uppers_use name) ready
      (of_right (interface_uses name) (uppers_use name)
      (of_any (λ other. stands facts name other && used facts other) (names_of facts.conf) upper (upper_named facts upper name on)
      (of_both (stands facts name upper) (used facts upper) (test_of_stands facts name upper on) above)))
