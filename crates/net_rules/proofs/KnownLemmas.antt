-- The names that can be used are reached.
use Rattle.std.proofs.Common.{◌≡◌, ◌⊎◌, inl, inr, ℕ, List, [], ◌∷◌, ◌++◌, map, Bool, true, false, cond, Contains, Option, Some, None, refl, ap, sym, subst, ◌∙◌}
use Rattle.std.specs.Prelude.{bytes_eq, unwrap_or, filter, not, ◌&&◌}
use Rattle.std.specs.List.{filter_map, flat_map, list_any, find, zip}
use Rattle.std.specs.Option.{option_and_then, option_map}
use Rattle.std.proofs.lemmas.List.Elements.{Contains-append_left, Contains-append_right, Contains-append_cases}
use Rattle.kern_model.proofs.MemberLemmas.{here, there, first_or_later, none_in_nil, member_of_map}
use Rattle.kern_model.proofs.TestLemmas.{same_bytes, of_any, in_filter_map, from_filter_map}
use Rattle.net_rows.specs.declared.rows.InterfaceRow.{InterfaceRow}
use Rattle.net_rows.specs.declared.rows.RadioRow.{RadioRow}
use Rattle.net_rows.specs.declared.rows.WifiRow.{WifiRow}
use Rattle.net_rules.specs.declared.answer.Answer.{Answer}
use Rattle.net_rules.specs.declared.inputs.Inputs.{Inputs}
use Rattle.net_rules.specs.declared.inputs.OpenInterface.{OpenInterface}
use Rattle.net_rules.specs.declared.inputs.OpenRadio.{OpenRadio}
use Rattle.net_rules.specs.Facts.{Facts}
use Rattle.net_rules.specs.Firsts.{firsts}
use Rattle.net_rules.specs.Rows.{is_plain, names_of, interfaces_of, radios_of, interface_named, is_bridge, is_named_port, enabled_rows, asks_nothing}
use Rattle.net_rules.specs.RadioPorts as ports
use Rattle.net_rules.specs.RadioPorts.{AnsweredPort, RadioPort, device_of, device_or_port, answered_port, answered_ports, ports_of_radio, joined, radio_ports}
use Rattle.net_rules.specs.Interfaces as interfaces
use Rattle.net_rules.specs.Interfaces.{answer_of, device_or_own}
use Rattle.net_rules.specs.Want.{known_names}
use Rattle.net_rules.specs.Inputs.{facts_of, open_interface, open_radio}
use Rattle.net_rules.proofs.ListLemmas.{in_join, from_join, within_firsts}
use Rattle.net_rules.proofs.TableLemmas.{found_member}
use Rattle.net_rules.specs.Reach as reach
use Rattle.net_rules.specs.Reach.{reached_names, is_reached}

-- the second of two that are joined
of_zip : {X Y : Type 0} → (xs : List X) (ys : List Y) (pair : X × Y) → Contains (zip xs ys) pair → Contains ys pair.1
of_zip [] ys pair h = absurd (none_in_nil pair h)
of_zip (x ∷ xs) [] pair h = absurd (none_in_nil pair h)
of_zip (x ∷ xs) (y ∷ ys) pair h = elim (first_or_later (x, y) (zip xs ys) pair h) as (λ _. Contains (y ∷ ys) pair.1) [
  | inl same ↦ subst (Contains (y ∷ ys)) (ap (λ p. p.1) same) (here y ys)
  | inr later ↦ there y ys pair.1 (of_zip xs ys pair later)
]

-- the port that an answered one has
answered_from : (facts : Facts) (network : Option (List ℕ)) (port : Option (List ℕ)) (a : AnsweredPort) → answered_port facts network port ≡ Some a → port ≡ Some a.port
answered_from facts None port a h = cc h
answered_from facts (Some interface) None a h = cc h
answered_from facts (Some interface) (Some port) a h = by_test (is_plain facts.conf port) h
  where
    by_test : (b : Bool) → cond b (Some (record { interface = interface; port = port })) None ≡ Some a → Some port ≡ Some a.port
    by_test true e = let same : record { interface = interface; port = port } ≡ a = cc e in ap (λ x. Some x.port) same
    by_test false e = cc e

module _ (inputs : Inputs) where
  abbrev of_devices : List (List ℕ)
  of_devices = filter_map (λ row. row.device) inputs.conf.interfaces

  abbrev of_radios : List (List ℕ)
  of_radios = flat_map reach.ports_of inputs.radios

  abbrev of_l3_devices : List (List ℕ)
  of_l3_devices = filter_map reach.l3_device_of inputs.interfaces

  row_reached : (name : List ℕ) → Contains (names_of inputs.conf) name → Contains (reached_names inputs) name
  row_reached name h = Contains-append_left (names_of inputs.conf) (of_devices ++ (of_radios ++ of_l3_devices)) name h

  device_reached : (name : List ℕ) → Contains of_devices name → Contains (reached_names inputs) name
  device_reached name h = Contains-append_right (names_of inputs.conf) (of_devices ++ (of_radios ++ of_l3_devices)) name (Contains-append_left of_devices (of_radios ++ of_l3_devices) name h)

  radio_reached : (name : List ℕ) → Contains of_radios name → Contains (reached_names inputs) name
  radio_reached name h = Contains-append_right (names_of inputs.conf) (of_devices ++ (of_radios ++ of_l3_devices)) name
      (Contains-append_right of_devices (of_radios ++ of_l3_devices) name (Contains-append_left of_radios of_l3_devices name h))

  l3_device_reached : (name : List ℕ) → Contains of_l3_devices name → Contains (reached_names inputs) name
  l3_device_reached name h = Contains-append_right (names_of inputs.conf) (of_devices ++ (of_radios ++ of_l3_devices)) name
      (Contains-append_right of_devices (of_radios ++ of_l3_devices) name (Contains-append_right of_radios of_l3_devices name h))

  -- a port of a radio is one that the radio answered
  answered_by : (radio : List ℕ) (o : Option OpenRadio) → open_radio inputs.radios radio ≡ o → (port : List ℕ) → Contains (unwrap_or (option_and_then (λ x. x.ports) o) []) (Some port) → Contains of_radios port
  answered_by radio None is port h = absurd (none_in_nil (Some port) h)
  answered_by radio (Some o) is port h =
      let found = found_member (λ (x : OpenRadio). x.request.name) inputs.radios radio o is in
      in_join reach.ports_of inputs.radios o port found.member (in_filter_map (λ (p : Option (List ℕ)). p) (unwrap_or o.ports []) (Some port) port h refl)

  answered_reached : (a : AnsweredPort) → Contains (answered_ports (facts_of inputs)) a → Contains of_radios a.port
  answered_reached a h =
      let from = from_join (ports_of_radio (facts_of inputs)) (radios_of inputs.conf) a h in
      let given = from_filter_map (λ (pair : WifiRow × Option (List ℕ)). answered_port (facts_of inputs) pair.0.network pair.1) (zip (enabled_rows from.source) (unwrap_or ((facts_of inputs).ports from.source.name) [])) a from.among in
      let second = of_zip (enabled_rows from.source) (unwrap_or ((facts_of inputs).ports from.source.name) []) given.source given.member in
      let is = answered_from (facts_of inputs) given.source.0.network given.source.1 a given.gives in
      answered_by from.source.name (open_radio inputs.radios from.source.name) refl a.port (subst (Contains (unwrap_or ((facts_of inputs).ports from.source.name) [])) is second)

  -- a port that joins a bridge was answered
  joined_device : (a : AnsweredPort) (j : RadioPort) (device : Option (List ℕ))
      → option_and_then (λ bridge. cond (is_bridge inputs.conf bridge && not (is_named_port inputs.conf a.port)) (Some (record { bridge = bridge; port = a.port })) None) device ≡ Some j → a.port ≡ j.port
  joined_device a j None h = cc h
  joined_device a j (Some bridge) h = by_test (is_bridge inputs.conf bridge && not (is_named_port inputs.conf a.port)) h
    where
      by_test : (b : Bool) → cond b (Some (record { bridge = bridge; port = a.port })) None ≡ Some j → a.port ≡ j.port
      by_test true e = let same : record { bridge = bridge; port = a.port } ≡ j = cc e in ap (λ x. x.port) same
      by_test false e = cc e

  joined_row : (a : AnsweredPort) (j : RadioPort) (row : Option InterfaceRow)
      → option_and_then (λ (r : InterfaceRow). option_and_then (λ bridge. cond (is_bridge inputs.conf bridge && not (is_named_port inputs.conf a.port)) (Some (record { bridge = bridge; port = a.port })) None) r.device) row ≡ Some j → a.port
      ≡ j.port
  joined_row a j None h = cc h
  joined_row a j (Some row) h = joined_device a j row.device h

  port_reached : (name : List ℕ) → Contains (map (λ j. j.port) (radio_ports (facts_of inputs))) name → Contains (reached_names inputs) name
  port_reached name h =
      let from = member_of_map (λ (j : RadioPort). j.port) (radio_ports (facts_of inputs)) name h in
      let inside = within_firsts (λ (j : RadioPort). j.port) (filter_map (joined (facts_of inputs)) (answered_ports (facts_of inputs))) from.source from.member in
      let given = from_filter_map (joined (facts_of inputs)) (answered_ports (facts_of inputs)) from.source inside in
      let same = joined_row given.source from.source (interface_named inputs.conf given.source.interface) given.gives ∙ from.same in
      radio_reached name (subst (Contains of_radios) same (answered_reached given.source given.member))

  -- the device of an interface
  found_port : (interface : List ℕ) (o : Option AnsweredPort) → find (λ (a : AnsweredPort). bytes_eq a.interface interface) (answered_ports (facts_of inputs)) ≡ o → (name : List ℕ) → option_map (λ (a : AnsweredPort). a.port) o ≡ Some name
      → Contains of_radios name
  found_port interface None is name h = cc h
  found_port interface (Some a) is name h =
      let found = found_member (λ (x : AnsweredPort). x.interface) (answered_ports (facts_of inputs)) interface a is in
      let same : a.port ≡ name = cc h in
      subst (Contains of_radios) same (answered_reached a found.member)

  own_by : (row : InterfaceRow) → Contains inputs.conf.interfaces row → (device : Option (List ℕ)) → row.device ≡ device → (name : List ℕ) → device_or_port (facts_of inputs) row.name device ≡ Some name → Contains (reached_names inputs) name
  own_by row member None is name h = radio_reached name (found_port row.name (find (λ (a : AnsweredPort). bytes_eq a.interface row.name) (answered_ports (facts_of inputs))) refl name h)
  own_by row member (Some device) is name h = device_reached name (in_filter_map (λ (r : InterfaceRow). r.device) inputs.conf.interfaces row name member (is ∙ h))

  own_reached : (row : InterfaceRow) → Contains (interfaces_of inputs.conf) row → (name : List ℕ) → device_of (facts_of inputs) row ≡ Some name → Contains (reached_names inputs) name
  own_reached row member name h = own_by row (within_firsts (λ (r : InterfaceRow). r.name) inputs.conf.interfaces row member) row.device refl name h

  -- the layer-3 device of an interface
  answer_by : (interface : List ℕ) (o : Option OpenInterface) → open_interface inputs.interfaces interface ≡ o → (l3_device : List ℕ) → option_and_then (λ (a : Answer). a.device) (option_and_then (λ (x : OpenInterface). x.answer) o)
      ≡ Some l3_device → Contains of_l3_devices l3_device
  answer_by interface None is l3_device h = cc h
  answer_by interface (Some o) is l3_device h =
      let found = found_member (λ (x : OpenInterface). x.request.name) inputs.interfaces interface o is in
      in_filter_map reach.l3_device_of inputs.interfaces o l3_device found.member h

  answer_reached : (row : InterfaceRow) (b : Bool) (l3_device : List ℕ) → option_and_then (λ (a : Answer). a.device) (cond b None ((facts_of inputs).answer row.name)) ≡ Some l3_device → Contains of_l3_devices l3_device
  answer_reached row true l3_device h = cc h
  answer_reached row false l3_device h = answer_by row.name (open_interface inputs.interfaces row.name) refl l3_device h

  l3_device_by : (row : InterfaceRow) → Contains (interfaces_of inputs.conf) row → (answered : Option (List ℕ)) → option_and_then (λ (a : Answer). a.device) (answer_of (facts_of inputs) row) ≡ answered → (name : List ℕ)
      → device_or_own answered (device_of (facts_of inputs) row) ≡ Some name → Contains (reached_names inputs) name
  l3_device_by row member None is name h = own_reached row member name h
  l3_device_by row member (Some l3_device) is name h = l3_device_reached name (answer_reached row (asks_nothing row.proto) name (is ∙ h))

  known_cases : (name : List ℕ) → Contains (names_of inputs.conf
      ++ (map (λ j. j.port) (radio_ports (facts_of inputs)) ++ (filter_map (device_of (facts_of inputs)) (interfaces_of inputs.conf) ++ filter_map (interfaces.l3_device_of (facts_of inputs)) (interfaces_of inputs.conf)))) name
      → Contains (reached_names inputs) name
  known_cases name h = elim (Contains-append_cases (names_of inputs.conf)
      (map (λ j. j.port) (radio_ports (facts_of inputs)) ++ (filter_map (device_of (facts_of inputs)) (interfaces_of inputs.conf) ++ filter_map (interfaces.l3_device_of (facts_of inputs)) (interfaces_of inputs.conf))) name h) as
      (λ _. Contains (reached_names inputs) name) [
        | inl row ↦ row_reached name row
        | inr others ↦ elim (Contains-append_cases (map (λ j. j.port) (radio_ports (facts_of inputs)))
            (filter_map (device_of (facts_of inputs)) (interfaces_of inputs.conf) ++ filter_map (interfaces.l3_device_of (facts_of inputs)) (interfaces_of inputs.conf)) name others) as (λ _. Contains (reached_names inputs) name) [
              | inl port ↦ port_reached name port
              | inr behind ↦ elim (Contains-append_cases (filter_map (device_of (facts_of inputs)) (interfaces_of inputs.conf)) (filter_map (interfaces.l3_device_of (facts_of inputs)) (interfaces_of inputs.conf)) name behind) as
                  (λ _. Contains (reached_names inputs) name) [
                    | inl own ↦ let from = from_filter_map (device_of (facts_of inputs)) (interfaces_of inputs.conf) name own in own_reached from.source from.member name from.gives
                    | inr l3_device ↦ let from = from_filter_map (interfaces.l3_device_of (facts_of inputs)) (interfaces_of inputs.conf) name l3_device in
                        l3_device_by from.source from.member (option_and_then (λ (a : Answer). a.device) (answer_of (facts_of inputs) from.source)) refl name from.gives
                  ]
            ]
      ]

  pub known_reached : (name : List ℕ) → Contains (known_names (facts_of inputs)) name → Contains (reached_names inputs) name
  known_reached name h = known_cases name (within_firsts (λ (n : List ℕ). n)
      (names_of inputs.conf ++ (map (λ j. j.port) (radio_ports (facts_of inputs))
      ++ (filter_map (device_of (facts_of inputs)) (interfaces_of inputs.conf) ++ filter_map (interfaces.l3_device_of (facts_of inputs)) (interfaces_of inputs.conf))))
      name h)

  pub reached_test : (name : List ℕ) → Contains (reached_names inputs) name → is_reached inputs name ≡ true
  reached_test name h = of_any (λ other. bytes_eq other name) (reached_names inputs) name h (same_bytes name name refl)

  pub not_known : (name : List ℕ) → is_reached inputs name ≡ false → Contains (known_names (facts_of inputs)) name → ⊥
  not_known name apart h = let is = reached_test name (known_reached name h) in cc (apart, is)
