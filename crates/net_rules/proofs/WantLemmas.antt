-- The objects of the wanted set, by their kinds.
use Rattle.std.proofs.Common.{Option, Some, None, ℕ, ◌≡◌, inl, inr, List, [], ◌∷◌, ◌++◌, map, Bool, true, false, Contains, refl, sym, subst}
use Rattle.std.specs.Prelude.{filter, bytes_eq}
use Rattle.std.specs.List.{flat_map, list_any}
use Rattle.std.proofs.lemmas.List.Elements.{Contains-append_left, Contains-append_right, Contains-append_cases}
use Rattle.kern_model.specs.declared.object.Mac.{Mac}
use Rattle.kern_model.specs.declared.object.LinkKind.TheVariants.{Bridge, Vlan}
use Rattle.kern_model.specs.declared.object.Object.{Object}
use Rattle.kern_model.specs.declared.object.Object.TheVariants as object
use Rattle.kern_model.specs.ObjectOrder.{Has}
use Rattle.kern_model.proofs.MemberLemmas.{here, there, first_or_later, none_in_nil, map_member, member_of_map}
use Rattle.kern_model.proofs.TestLemmas.{both, of_both, bytes_same, same_bytes, from_any, of_any}
use Rattle.kern_model.proofs.SetLemmas.{set_of_member, member_of_set}
use Rattle.kern_calls.proofs.FilterLemmas.{from_filter, in_filter}
use Rattle.net_rows.specs.declared.rows.VlanRow.{VlanRow}
use Rattle.net_rows.specs.declared.rows.VlanEntry.{VlanEntry}
use Rattle.net_rules.specs.Facts.{Facts}
use Rattle.net_rules.specs.Rows.{row_at, is_vlan_of, vlans_of, is_filtering, interfaces_of}
use Rattle.net_rules.specs.Standing.{Standing, Broken, Alone, Over, Ports, standing_at}
use Rattle.net_rules.specs.Sound.{IsSound}
use Rattle.net_rules.specs.Used.{used}
use Rattle.net_rules.specs.Want.{mtu_of, mac_of, masters_of, entry_counts, local_vlan, vlan_objects, objects_by, objects_at, given, known_names, wanted_list, want}
use Rattle.net_rules.specs.Wanted.{IsUsedBridge, IsWantedMaster, IsWantedPortVlan, IsSetOn, IsGiven, IsWanted}
use Rattle.net_rules.proofs.ListLemmas.{within_filter, of_cond, to_cond, in_join, from_join}
use Rattle.net_rules.proofs.StandingLemmas.{only}
use Rattle.net_rules.proofs.DeviceLemmas.{not_broken, used_available, used_known}
use Rattle.net_rules.proofs.GivenLemmas.{on_l3_device, IsOn}

entry_object : List ℕ → VlanRow → VlanEntry → Object
entry_object bridge row e = object.Vlan bridge e.port row.id e.pvid e.untagged

module _ (facts : Facts) (sound : IsSound facts.conf) where
  abbrev of_names : List Object
  of_names = flat_map (objects_at facts) (known_names facts)

  abbrev of_interfaces : List Object
  of_interfaces = flat_map (given facts) (interfaces_of facts.conf)

  has_listed : (o : Object) → Contains (wanted_list facts) o → Has (want facts) o
  unfolding want
  has_listed o h = set_of_member (wanted_list facts) o h

  listed_of : (o : Object) → Has (want facts) o → Contains (wanted_list facts) o
  unfolding want
  listed_of o h = member_of_set (wanted_list facts) o h

  -- what is wanted is in the set
  abbrev mtu_at : List ℕ → List Object
  mtu_at name = mtu_of name (row_at facts.conf.names name).mtu

  abbrev others_at : List ℕ → Standing → List Object
  others_at name s = objects_by facts name (row_at facts.conf.names name).mac s

  has_object : (name : List ℕ) → used facts name ≡ true → (o : Object) → Contains (mtu_at name ++ others_at name (standing_at facts name)) o → Has (want facts) o
  has_object name serves o h =
      has_listed o (Contains-append_left of_names of_interfaces o (in_join (objects_at facts) (known_names facts) name o (used_known facts sound name serves)
      (to_cond (used facts name) (mtu_at name ++ others_at name (standing_at facts name)) o serves h)))

  has_as : (name : List ℕ) (s : Standing) → standing_at facts name ≡ s → used facts name ≡ true → (o : Object) → Contains (others_at name s) o → Has (want facts) o
  has_as name s is serves o h =
      has_object name serves o (Contains-append_right (mtu_at name) (others_at name (standing_at facts name)) o
      (subst (λ t. Contains (others_at name t) o) (sym is) h))

  has_mtu : (name : List ℕ) (mtu : ℕ) → (row_at facts.conf.names name).mtu ≡ Some mtu → used facts name ≡ true → Has (want facts) (object.Mtu name mtu)
  has_mtu name mtu is serves =
      has_object name serves (object.Mtu name mtu) (Contains-append_left (mtu_at name) (others_at name (standing_at facts name)) (object.Mtu name mtu)
      (subst (λ m. Contains (mtu_of name m) (object.Mtu name mtu)) (sym is) (here (object.Mtu name mtu) [])))

  has_mac : (name : List ℕ) (mac : Mac) (fit : Bool) → standing_at facts name ≡ Alone fit → (row_at facts.conf.names name).mac ≡ Some mac → used facts name ≡ true → Has (want facts) (object.Mac name mac)
  has_mac name mac fit is configured serves =
      has_as name (Alone fit) is serves (object.Mac name mac)
      (there (object.Up name) (mac_of name (row_at facts.conf.names name).mac) (object.Mac name mac)
      (subst (λ m. Contains (mac_of name m) (object.Mac name mac)) (sym configured) (here (object.Mac name mac) [])))

  abbrev bridge_link : List ℕ → Object
  bridge_link name = object.Link name (Bridge (row_at facts.conf.names name).mac (is_filtering facts.conf name))

  abbrev on_ports : List ℕ → List (List ℕ) → List Object
  on_ports name ports = masters_of facts name ports ++ flat_map (vlan_objects facts name ports) (vlans_of facts.conf name)

  has_up : (name : List ℕ) (s : Standing) → standing_at facts name ≡ s → used facts name ≡ true → Has (want facts) (object.Up name)
  has_up name Broken is serves = absurd (not_broken facts sound name is (used_available facts sound name serves))
  has_up name (Alone fit) is serves = has_as name (Alone fit) is serves (object.Up name) (here (object.Up name) (mac_of name (row_at facts.conf.names name).mac))
  has_up name (Over lower id) is serves = has_as name (Over lower id) is serves (object.Up name) (here (object.Up name) (object.Link name (Vlan lower id (row_at facts.conf.names name).mac) ∷ []))
  has_up name (Ports empty ports) is serves = has_as name (Ports empty ports) is serves (object.Up name) (here (object.Up name) (bridge_link name ∷ on_ports name ports))

  has_bridge : (name : List ℕ) (ports : List (List ℕ)) → IsUsedBridge facts name ports → Has (want facts) (bridge_link name)
  has_bridge name ports b =
      has_as name (Ports b.empty ports) b.standing b.used (bridge_link name)
      (there (object.Up name) (bridge_link name ∷ on_ports name ports) (bridge_link name) (here (bridge_link name) (on_ports name ports)))

  has_on_ports : (name : List ℕ) (ports : List (List ℕ)) → IsUsedBridge facts name ports → (o : Object) → Contains (on_ports name ports) o → Has (want facts) o
  has_on_ports name ports b o h =
      has_as name (Ports b.empty ports) b.standing b.used o
      (there (object.Up name) (bridge_link name ∷ on_ports name ports) o (there (bridge_link name) (on_ports name ports) o h))

  has_master : (port bridge : List ℕ) → IsWantedMaster facts port bridge → Has (want facts) (object.Master port bridge)
  has_master port bridge w =
      has_on_ports bridge w.ports w.bridge_used (object.Master port bridge)
      (Contains-append_left (masters_of facts bridge w.ports) (flat_map (vlan_objects facts bridge w.ports) (vlans_of facts.conf bridge)) (object.Master port bridge)
      (map_member (λ other. object.Master other bridge) (filter (used facts) w.ports) port (in_filter (used facts) w.ports port w.own w.port_used)))

  has_set : (bridge : List ℕ) (ports : List (List ℕ)) (row : VlanRow) → IsUsedBridge facts bridge ports → IsSetOn facts bridge row → (o : Object) → Contains (vlan_objects facts bridge ports row) o → Has (want facts) o
  has_set bridge ports row b set o h =
      has_on_ports bridge ports b o
      (Contains-append_right (masters_of facts bridge ports) (flat_map (vlan_objects facts bridge ports) (vlans_of facts.conf bridge)) o
      (in_join (vlan_objects facts bridge ports) (vlans_of facts.conf bridge) row o (in_filter (is_vlan_of bridge) facts.conf.vlans row set.member set.on) h))

  abbrev entry_objects : List ℕ → List (List ℕ) → VlanRow → List Object
  entry_objects bridge ports row = map (λ e. object.Vlan bridge e.port row.id e.pvid e.untagged) (filter (entry_counts facts ports) row.entries)

  has_entry : (bridge : List ℕ) (row : VlanRow) (e : VlanEntry) → IsSetOn facts bridge row → Contains row.entries e → IsWantedMaster facts e.port bridge → Has (want facts) (object.Vlan bridge e.port row.id e.pvid e.untagged)
  has_entry bridge row e set member w =
      let o = object.Vlan bridge e.port row.id e.pvid e.untagged in
      has_set bridge w.ports row w.bridge_used set o
      (Contains-append_left (entry_objects bridge w.ports row) (local_vlan bridge row.id row.local) o
      (map_member (λ (x : VlanEntry). object.Vlan bridge x.port row.id x.pvid x.untagged) (filter (entry_counts facts w.ports) row.entries) e
      (in_filter (entry_counts facts w.ports) row.entries e member
      (of_both (used facts e.port) (list_any (λ port. bytes_eq port e.port) w.ports) w.port_used (of_any (λ port. bytes_eq port e.port) w.ports e.port w.own (same_bytes e.port e.port refl))))))

  has_itself : (bridge : List ℕ) (row : VlanRow) (ports : List (List ℕ)) → IsSetOn facts bridge row → row.local ≡ true → IsUsedBridge facts bridge ports → Has (want facts) (object.Vlan bridge bridge row.id false false)
  has_itself bridge row ports set here_too b =
      let o = object.Vlan bridge bridge row.id false false in
      has_set bridge ports row b set o
      (Contains-append_right (entry_objects bridge ports row) (local_vlan bridge row.id row.local) o
      (subst (λ l. Contains (local_vlan bridge row.id l) o) (sym here_too) (here o [])))

  has_given : (o : Object) → IsGiven facts o → Has (want facts) o
  has_given o w = has_listed o (Contains-append_right of_names of_interfaces o (in_join (given facts) (interfaces_of facts.conf) w.row o w.member w.among))

  pub has_wanted : (o : Object) → IsWanted facts o → Has (want facts) o
  has_wanted (object.Link name (Bridge mac filtering)) w = subst (Has (want facts)) (cc (w.mac_is, w.filters)) (has_bridge name w.ports w.bridge)
  has_wanted (object.Link name (Vlan lower id mac)) w =
      let own = object.Link name (Vlan lower id (row_at facts.conf.names name).mac) in
      subst (λ m. Has (want facts) (object.Link name (Vlan lower id m))) w.mac_is
      (has_as name (Over lower id) w.standing w.used own (there (object.Up name) (own ∷ []) own (here own [])))
  has_wanted (object.Mtu name mtu) w = has_mtu name mtu w.configured w.used
  has_wanted (object.Mac name mac) w = has_mac name mac w.sound w.standing w.configured w.used
  has_wanted (object.Master port bridge) w = has_master port bridge w
  has_wanted (object.Vlan bridge port id pvid untagged) (IsWantedPortVlan.entry row e set member w) = has_entry bridge row e set member w
  has_wanted (object.Vlan bridge port id pvid untagged) (IsWantedPortVlan.itself row ports set local b) = has_itself bridge row ports set local b
  has_wanted (object.Up name) w = has_up name (standing_at facts name) refl w
  has_wanted (object.Address dev cidr) w = has_given (object.Address dev cidr) w
  has_wanted (object.Route r) w = has_given (object.Route r) w

  -- what is in the set is wanted
  of_mac : (name : List ℕ) (fit : Bool) → standing_at facts name ≡ Alone fit → used facts name ≡ true → (mac : Option Mac) → (row_at facts.conf.names name).mac ≡ mac → (o : Object) → Contains (mac_of name mac) o → IsWanted facts o
  of_mac name fit is serves None configured o h = absurd (none_in_nil o h)
  of_mac name fit is serves (Some mac) configured o h = subst (IsWanted facts) (only (object.Mac name mac) o h) (record { sound = fit; standing = is; configured = configured; used = serves })

  of_entry : (bridge : List ℕ) (ports : List (List ℕ)) (row : VlanRow) → IsUsedBridge facts bridge ports → IsSetOn facts bridge row → (o : Object) → Contains (entry_objects bridge ports row) o → IsWanted facts o
  of_entry bridge ports row b set o h =
      let from = member_of_map (λ (x : VlanEntry). object.Vlan bridge x.port row.id x.pvid x.untagged) (filter (entry_counts facts ports) row.entries) o h in
      let e = from.source in
      let counts = both (used facts e.port) (list_any (λ port. bytes_eq port e.port) ports) (from_filter (entry_counts facts ports) row.entries e from.member) in
      let found = from_any (λ port. bytes_eq port e.port) ports counts.1 in
      let w : IsWantedMaster facts e.port bridge = record { ports = ports; bridge_used = b; own = subst (Contains ports) (bytes_same found.passing e.port found.passes) found.member; port_used = counts.0 } in
      subst (IsWanted facts) from.same (IsWantedPortVlan.entry row e set (within_filter (entry_counts facts ports) row.entries e from.member) w)

  of_local : (bridge : List ℕ) (ports : List (List ℕ)) (row : VlanRow) → IsUsedBridge facts bridge ports → IsSetOn facts bridge row → (local : Bool) → row.local ≡ local → (o : Object) → Contains (local_vlan bridge row.id local) o
      → IsWanted facts o
  of_local bridge ports row b set false is o h = absurd (none_in_nil o h)
  of_local bridge ports row b set true is o h = subst (IsWanted facts) (only (object.Vlan bridge bridge row.id false false) o h) (IsWantedPortVlan.itself row ports set is b)

  of_on_ports : (bridge : List ℕ) (ports : List (List ℕ)) → IsUsedBridge facts bridge ports → (o : Object) → Contains (on_ports bridge ports) o → IsWanted facts o
  of_on_ports bridge ports b o h = elim (Contains-append_cases (masters_of facts bridge ports) (flat_map (vlan_objects facts bridge ports) (vlans_of facts.conf bridge)) o h) as (λ _. IsWanted facts o) [
    | inl master ↦
        let from = member_of_map (λ port. object.Master port bridge) (filter (used facts) ports) o master in
        subst (IsWanted facts) from.same (record { ports = ports; bridge_used = b; own = within_filter (used facts) ports from.source from.member; port_used = from_filter (used facts) ports from.source from.member })
    | inr set ↦
        let from = from_join (vlan_objects facts bridge ports) (vlans_of facts.conf bridge) o set in
        let on : IsSetOn facts bridge from.source = record { member = within_filter (is_vlan_of bridge) facts.conf.vlans from.source from.member; on = from_filter (is_vlan_of bridge) facts.conf.vlans from.source from.member } in
        elim (Contains-append_cases (entry_objects bridge ports from.source) (local_vlan bridge from.source.id from.source.local) o from.among) as (λ _. IsWanted facts o) [
          | inl entry ↦ of_entry bridge ports from.source b on o entry
          | inr itself ↦ of_local bridge ports from.source b on from.source.local refl o itself
        ]
  ]

  wanted_as : (name : List ℕ) (s : Standing) → standing_at facts name ≡ s → used facts name ≡ true → (o : Object) → Contains (others_at name s) o → IsWanted facts o
  wanted_as name Broken is serves o h = absurd (none_in_nil o h)
  wanted_as name (Alone fit) is serves o h = elim (first_or_later (object.Up name) (mac_of name (row_at facts.conf.names name).mac) o h) as (λ _. IsWanted facts o) [
    | inl same ↦ subst (IsWanted facts) same serves
    | inr mac ↦ of_mac name fit is serves (row_at facts.conf.names name).mac refl o mac
  ]
  wanted_as name (Over lower id) is serves o h = elim (first_or_later (object.Up name) (object.Link name (Vlan lower id (row_at facts.conf.names name).mac) ∷ []) o h) as (λ _. IsWanted facts o) [
    | inl same ↦ subst (IsWanted facts) same serves
    | inr later ↦ subst (IsWanted facts) (only (object.Link name (Vlan lower id (row_at facts.conf.names name).mac)) o later) (record { standing = is; mac_is = refl; used = serves })
  ]
  wanted_as name (Ports empty ports) is serves o h =
      let b : IsUsedBridge facts name ports = record { empty = empty; standing = is; used = serves } in
      elim (first_or_later (object.Up name) (bridge_link name ∷ on_ports name ports) o h) as (λ _. IsWanted facts o) [
        | inl same ↦ subst (IsWanted facts) same serves
        | inr later ↦ elim (first_or_later (bridge_link name) (on_ports name ports) o later) as (λ _. IsWanted facts o) [
          | inl same ↦ subst (IsWanted facts) same (record { ports = ports; bridge = b; mac_is = refl; filters = refl })
          | inr on ↦ of_on_ports name ports b o on
        ]
      ]

  mtu_wanted : (name : List ℕ) (m : Option ℕ) → (row_at facts.conf.names name).mtu ≡ m → used facts name ≡ true → (o : Object) → Contains (mtu_of name m) o → IsWanted facts o
  mtu_wanted name None is serves o h = absurd (none_in_nil o h)
  mtu_wanted name (Some mtu) is serves o h = subst (IsWanted facts) (only (object.Mtu name mtu) o h) (record { configured = is; used = serves })

  given_wanted : (o : Object) (l3_device : List ℕ) → IsOn l3_device o → IsGiven facts o → IsWanted facts o
  given_wanted (object.Link name kind) l3_device on w = absurd on
  given_wanted (object.Mtu name mtu) l3_device on w = absurd on
  given_wanted (object.Mac name mac) l3_device on w = absurd on
  given_wanted (object.Master port bridge) l3_device on w = absurd on
  given_wanted (object.Vlan bridge port id pvid untagged) l3_device on w = absurd on
  given_wanted (object.Up name) l3_device on w = absurd on
  given_wanted (object.Address dev cidr) l3_device on w = w
  given_wanted (object.Route r) l3_device on w = w

  pub of_wanted : (o : Object) → Has (want facts) o → IsWanted facts o
  of_wanted o h = elim (Contains-append_cases of_names of_interfaces o (listed_of o h)) as (λ _. IsWanted facts o) [
    | inl named ↦
        let from = from_join (objects_at facts) (known_names facts) o named in
        let name = from.source in
        let parts = of_cond (used facts name) (mtu_at name ++ others_at name (standing_at facts name)) o from.among in
        elim (Contains-append_cases (mtu_at name) (others_at name (standing_at facts name)) o parts.1) as (λ _. IsWanted facts o) [
          | inl of_mtu ↦ mtu_wanted name (row_at facts.conf.names name).mtu refl parts.0 o of_mtu
          | inr other ↦ wanted_as name (standing_at facts name) refl parts.0 o other
        ]
    | inr of_interface ↦
        let from = from_join (given facts) (interfaces_of facts.conf) o of_interface in
        let w : IsGiven facts o = record { row = from.source; member = from.member; among = from.among } in
        let on = on_l3_device facts from.source o from.among in
        given_wanted o on.l3_device on.on w
  ]
