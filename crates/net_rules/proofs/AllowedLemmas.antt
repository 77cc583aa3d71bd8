-- What sound rows want is allowed.
use Rattle.std.proofs.Common.{Some, Option, ℕ, ◌≡◌, ◌<◌, ◌⊎◌, inl, inr, List, Bool, true, false, Contains, refl, ap, ap₂, sym, subst, ◌∙◌}
use Rattle.std.specs.Prelude.{◌&&◌, ◌||◌, bytes_eq, nat_eq, is_some}
use Rattle.std.specs.FinMap as map
use Rattle.std.proofs.lemmas.Bool.Decides.{Decides-eqb}
use Rattle.kern_model.specs.declared.object.Mac.{Mac}
use Rattle.kern_model.specs.declared.object.LinkKind.{LinkKind}
use Rattle.kern_model.specs.declared.object.LinkKind.TheVariants.{Bridge, Vlan}
use Rattle.kern_model.specs.declared.object.Object.{Object}
use Rattle.kern_model.specs.declared.object.Object.TheVariants as object
use Rattle.kern_model.specs.ObjectOrder.{Has}
use Rattle.kern_model.specs.Kernel as kernel
use Rattle.kern_model.specs.Kernel.{Devices, Exists}
use Rattle.kern_model.specs.Admission.{IsBridge, IsFiltering}
use Rattle.kern_model.specs.Allowed.{HasSupport, exclude, are_one_vlan, AreAllowed}
use Rattle.kern_model.proofs.TestLemmas.{both, of_both, either, of_right, bytes_same, of_any}
use Rattle.kern_calls.proofs.KeptLemmas.{grounded}
use Rattle.net_rows.specs.declared.rows.VlanRow.{VlanRow}
use Rattle.net_rows.specs.declared.rows.VlanEntry.{VlanEntry}
use Rattle.net_rules.specs.Facts.{Facts}
use Rattle.net_rules.specs.Rows.{row_at, kind_at, is_vlan_of, is_name, is_bridge, is_filtering}
use Rattle.net_rules.specs.RadioPorts.{device_of}
use Rattle.net_rules.specs.Standing.{Standing, Broken, Alone, Over, Ports, standing_at}
use Rattle.net_rules.specs.Sound.{level_at, IsSound, AreOnBridge}
use Rattle.net_rules.specs.Available.{is_present}
use Rattle.net_rules.specs.Interfaces.{is_claimed, is_up, l3_device_of}
use Rattle.net_rules.specs.Used.{used}
use Rattle.net_rules.specs.Want.{want}
use Rattle.net_rules.specs.Wanted.{IsUsedBridge, IsWantedMaster, IsWantedPortVlan, IsSetOn, IsGiven, IsWanted}
use Rattle.net_rules.proofs.StandingLemmas.{rises, plain_port, port_no_bridge, bridge_row, bridge_test, one_owner, least_id, most_id, one_vlan, vlan_stands}
use Rattle.net_rules.proofs.DeviceLemmas.{not_broken, present_alone, absent_over, absent_bridge, used_available, used_by_interface, used_below, name_of_some}
use Rattle.net_rules.proofs.GivenLemmas.{IsOn, IsOnL3Device, on_l3_device, l3_device_available}
use Rattle.net_rules.proofs.WantLemmas.{has_wanted, of_wanted}

number_same : (a b : ℕ) → nat_eq a b ≡ true → a ≡ b
number_same a b h = (Decides-eqb a b).0 h

module _ (facts : Facts) (devices : Devices) (sound : IsSound facts.conf) (same_devices : (name : List ℕ) → facts.device name ≡ map.get devices name) where
  present_same : (name : List ℕ) → is_present facts name ≡ kernel.is_present devices name
  present_same name = ap is_some (same_devices name)

  present : (name : List ℕ) → is_present facts name ≡ true → kernel.is_present devices name ≡ true
  present name h = sym (present_same name) ∙ h

  absent : (name : List ℕ) → is_present facts name ≡ false → kernel.is_present devices name ≡ false
  absent name h = sym (present_same name) ∙ h

  -- a used name exists: it is present, or its link is wanted
  bridge_wanted : (name : List ℕ) (ports : List (List ℕ)) → IsUsedBridge facts name ports → Has (want facts) (object.Link name (Bridge (row_at facts.conf.names name).mac (is_filtering facts.conf name)))
  bridge_wanted name ports b = has_wanted facts sound (object.Link name (Bridge (row_at facts.conf.names name).mac (is_filtering facts.conf name))) (record { ports = ports; bridge = b; mac_is = refl; filters = refl })

  exists_as : (name : List ℕ) (s : Standing) → standing_at facts name ≡ s → used facts name ≡ true → Exists devices (want facts) name
  exists_as name Broken is serves = absurd (not_broken facts sound name is (used_available facts sound name serves))
  exists_as name (Alone fit) is serves = inl (present name (present_alone facts sound name fit is (used_available facts sound name serves)))
  exists_as name (Over lower id) is serves = inr (
    Vlan lower id (row_at facts.conf.names name).mac,
    has_wanted facts sound (object.Link name (Vlan lower id (row_at facts.conf.names name).mac)) (record { standing = is; mac_is = refl; used = serves }),
  )
  exists_as name (Ports empty ports) is serves = inr (Bridge (row_at facts.conf.names name).mac (is_filtering facts.conf name), bridge_wanted name ports (record { empty = empty; standing = is; used = serves }))

  exists : (name : List ℕ) → used facts name ≡ true → Exists devices (want facts) name
  exists name serves = exists_as name (standing_at facts name) refl serves

  -- the lower of a used VLAN is used
  pub lower_used : (name lower : List ℕ) (id : ℕ) → standing_at facts name ≡ Over lower id → used facts name ≡ true → used facts lower ≡ true
  lower_used name lower id is serves = used_below facts sound name lower serves (vlan_stands facts name lower id is) (absent_over facts sound name lower id is (used_available facts sound name serves)).1

  -- levels rise along VLANs, so none is over itself
  vlan_rises : (name lower : List ℕ) (id : ℕ) (mac : Option Mac) → Has (want facts) (object.Link name (Vlan lower id mac)) → level_at facts.conf lower < level_at facts.conf name
  vlan_rises name lower id mac held = rises facts sound name lower (vlan_stands facts name lower id (of_wanted facts sound (object.Link name (Vlan lower id mac)) held).standing)

  -- the bridge of a used one is made, and filters where a VLAN is set on it
  is_made : (bridge : List ℕ) (ports : List (List ℕ)) → IsUsedBridge facts bridge ports → IsBridge (want facts) bridge
  is_made bridge ports b = record { mac = (row_at facts.conf.names bridge).mac; filtering = is_filtering facts.conf bridge; held = bridge_wanted bridge ports b }

  filters : (bridge : List ℕ) (ports : List (List ℕ)) (r : VlanRow) → IsUsedBridge facts bridge ports → IsSetOn facts bridge r → IsFiltering (want facts) bridge
  filters bridge ports r b set =
      let filtering : is_filtering facts.conf bridge ≡ true = of_any (is_vlan_of bridge) facts.conf.vlans r set.member set.on in
      record { mac = (row_at facts.conf.names bridge).mac; held = subst (λ f. Has (want facts) (object.Link bridge (Bridge (row_at facts.conf.names bridge).mac f))) filtering (bridge_wanted bridge ports b) }

  -- the layer-3 device of an interface that is up is used
  l3_device_used : (o : Object) (w : IsGiven facts o) (on : IsOnL3Device facts w.row o) → used facts on.l3_device ≡ true
  l3_device_used o w on =
      let row = w.row in
      used_by_interface facts sound row on.l3_device w.member (l3_device_available facts row on.l3_device on.up on.l3_device_is)
      (of_right (is_claimed facts row && is_name (device_of facts row) on.l3_device) (is_up facts row && is_name (l3_device_of facts row) on.l3_device)
      (of_both (is_up facts row) (is_name (l3_device_of facts row) on.l3_device) on.up (name_of_some (l3_device_of facts row) on.l3_device on.l3_device_is)))

  l3_device_up : (o : Object) (dev : List ℕ) → ((l3_device : List ℕ) → IsOn l3_device o → dev ≡ l3_device) → IsGiven facts o → Has (want facts) (object.Up dev)
  l3_device_up o dev on_dev w =
      let on = on_l3_device facts w.row o w.among in
      has_wanted facts sound (object.Up dev) (subst (λ name. used facts name ≡ true) (sym (on_dev on.l3_device on.on)) (l3_device_used o w on))

  supported : (o : Object) → IsWanted facts o → HasSupport devices (want facts) o
  supported (object.Link name (Bridge mac filtering)) w = absent name (absent_bridge facts sound name w.bridge.empty w.ports w.bridge.standing (used_available facts sound name w.bridge.used))
  supported (object.Link name (Vlan lower id mac)) w = (
    absent name (absent_over facts sound name lower id w.standing (used_available facts sound name w.used)).0,
    record {
      stands = exists lower (lower_used name lower id w.standing w.used);
      least = least_id facts sound name lower id w.standing;
      most = most_id facts sound name lower id w.standing;
      grounded = grounded (want facts) (level_at facts.conf) vlan_rises name lower id mac (has_wanted facts sound (object.Link name (Vlan lower id mac)) w);
    },
  )
  supported (object.Mtu name mtu) w = exists name w.used
  supported (object.Mac name mac) w = present name (present_alone facts sound name w.sound w.standing (used_available facts sound name w.used))
  supported (object.Master port bridge) w = record {
    stands = exists port w.port_used;
    plain = λ held. let other = of_wanted facts sound (object.Link port (Bridge held.mac held.filtering)) held.held in
        plain_port facts sound bridge port w.bridge_used.empty other.bridge.empty w.ports other.ports w.bridge_used.standing w.own other.bridge.standing;
    made = is_made bridge w.ports w.bridge_used;
  }
  supported (object.Vlan bridge port id pvid untagged) (IsWantedPortVlan.entry r e set member w) = record {
    filtering = filters bridge w.ports r w.bridge_used set;
    joined = inr (has_wanted facts sound (object.Master e.port bridge) w);
  }
  supported (object.Vlan bridge port id pvid untagged) (IsWantedPortVlan.itself r ports set local b) = record { filtering = filters bridge ports r b set; joined = inl refl }
  supported (object.Up name) w = (
    exists name w,
    λ lower id mac held. has_wanted facts sound (object.Up lower) (lower_used name lower id (of_wanted facts sound (object.Link name (Vlan lower id mac)) held).standing w),
  )
  supported (object.Address dev cidr) w = l3_device_up (object.Address dev cidr) dev (λ l3_device on. on) w
  supported (object.Route r) w = l3_device_up (object.Route r) r.dev (λ l3_device on. on) w

  -- links of one name
  one_kind : (name other : List ℕ) (kind other_kind : LinkKind) → IsWanted facts (object.Link name kind) → IsWanted facts (object.Link other other_kind) → name ≡ other → kind ≡ other_kind
  one_kind name other (Bridge mac filtering) (Bridge other_mac other_filtering) v w same =
      let macs : mac ≡ other_mac = sym v.mac_is ∙ ap (λ n. (row_at facts.conf.names n).mac) same ∙ w.mac_is in
      let filters : filtering ≡ other_filtering = sym v.filters ∙ ap (is_filtering facts.conf) same ∙ w.filters in
      ap₂ Bridge macs filters
  one_kind name other (Bridge mac filtering) (Vlan lower id other_mac) v w same = cc (v.bridge.standing, w.standing, ap (standing_at facts) same)
  one_kind name other (Vlan lower id mac) (Bridge other_mac filtering) v w same = cc (v.standing, w.bridge.standing, ap (standing_at facts) same)
  one_kind name other (Vlan lower id mac) (Vlan base number other_mac) v w same =
      let equal : Over lower id ≡ Over base number = sym v.standing ∙ ap (standing_at facts) same ∙ w.standing in
      let lowers : lower ≡ base = cc equal in
      let ids : id ≡ number = cc equal in
      let macs : mac ≡ other_mac = sym v.mac_is ∙ ap (λ n. (row_at facts.conf.names n).mac) same ∙ w.mac_is in
      cc (lowers, ids, macs)

  same_vlan : (name other : List ℕ) (kind other_kind : LinkKind) → IsWanted facts (object.Link name kind) → IsWanted facts (object.Link other other_kind) → are_one_vlan kind other_kind ≡ true → name ≡ other
  same_vlan name other (Bridge mac filtering) other_kind v w same = cc same
  same_vlan name other (Vlan lower id mac) (Bridge other_mac filtering) v w same = cc same
  same_vlan name other (Vlan lower id mac) (Vlan base number other_mac) v w same =
      let parts = both (bytes_eq lower base) (nat_eq id number) same in
      one_vlan facts sound name other lower id v.standing (w.standing ∙ sym (ap₂ Over (bytes_same lower base parts.0) (number_same id number parts.1)))

  -- VLANs on one port
  port_is_no_bridge : (bridge other port : List ℕ) (ports other_ports : List (List ℕ)) → IsUsedBridge facts bridge ports → Contains ports port → IsUsedBridge facts other other_ports → port ≡ other → ⊥
  port_is_no_bridge bridge other port ports other_ports b own c same =
      let found = bridge_row facts other c.empty other_ports c.standing in
      port_no_bridge facts sound bridge port b.empty ports b.standing own (subst (λ n. is_bridge facts.conf n ≡ true) (sym same) (bridge_test (kind_at facts.conf other) c.empty found.own found.kind))

  AreAlike : ℕ → Bool → ℕ → Bool → Type 0
  AreAlike id pvid other_id other_pvid = (id ≡ other_id) ⊎ ((pvid ≡ true) × (other_pvid ≡ true))

  one_row : (bridge : List ℕ) (r s : VlanRow) (e f : VlanEntry) → AreOnBridge facts.conf bridge r s → Contains r.entries e → Contains s.entries f → e.port ≡ f.port → AreAlike r.id e.pvid s.id f.pvid → r ≡ s
  unfolding AreAlike
  one_row bridge r s e f on first second same alike = elim alike as (λ _. r ≡ s) [
    | inl ids ↦ sound.vlans.one_row bridge r s on ids
    | inr pvids ↦ sound.vlans.one_pvid bridge r s on e f first second same pvids.0 pvids.1
  ]

  apart_entries : (bridge other : List ℕ) (r s : VlanRow) (e f : VlanEntry) → IsSetOn facts bridge r → Contains r.entries e → IsWantedMaster facts e.port bridge → IsSetOn facts other s → Contains s.entries f
      → IsWantedMaster facts f.port other → e.port ≡ f.port → AreAlike r.id e.pvid s.id f.pvid → object.Vlan bridge e.port r.id e.pvid e.untagged ≡ object.Vlan other f.port s.id f.pvid f.untagged
  apart_entries bridge other r s e f set first v again second w same alike =
      let bridges : bridge ≡ other = one_owner facts sound bridge other e.port v.bridge_used.empty w.bridge_used.empty v.ports w.ports v.bridge_used.standing v.own w.bridge_used.standing (subst (Contains w.ports) (sym same) w.own) in
      let on : AreOnBridge facts.conf bridge r s = record { first = set.member; first_on = set.on; second = again.member; second_on = subst (λ b. is_vlan_of b s ≡ true) (sym bridges) again.on } in
      let rows : r ≡ s = one_row bridge r s e f on first second same alike in
      let entries : e ≡ f = sound.vlans.one_entry bridge r set.member set.on e f first (subst (λ x. Contains x.entries f) (sym rows) second) same in
      vlan_path bridge other r s e f bridges rows entries
    where
      vlan_path : (bridge other : List ℕ) (r s : VlanRow) (e f : VlanEntry) → bridge ≡ other → r ≡ s → e ≡ f → object.Vlan bridge e.port r.id e.pvid e.untagged ≡ object.Vlan other f.port s.id f.pvid f.untagged
      vlan_path bridge other r s e f p q x = λ i. object.Vlan (p i) (x i).port (q i).id (x i).pvid (x i).untagged

  same_itself : (bridge other : List ℕ) (id number : ℕ) → bridge ≡ other → AreAlike id false number false → object.Vlan bridge bridge id false false ≡ object.Vlan other other number false false
  unfolding AreAlike
  same_itself bridge other id number same alike = elim alike as (λ _. object.Vlan bridge bridge id false false ≡ object.Vlan other other number false false) [
    | inl ids ↦ ap₂ (λ b n. object.Vlan b b n false false) same ids
    | inr pvids ↦ let no = pvids.0 in cc no
  ]

  apart_vlans : (bridge port other other_port : List ℕ) (id other_id : ℕ) (pvid untagged other_pvid other_untagged : Bool) → IsWantedPortVlan facts bridge port id pvid untagged
      → IsWantedPortVlan facts other other_port other_id other_pvid other_untagged → port ≡ other_port → AreAlike id pvid other_id other_pvid → object.Vlan bridge port id pvid untagged
      ≡ object.Vlan other other_port other_id other_pvid other_untagged
  apart_vlans bridge port other other_port id other_id pvid untagged other_pvid other_untagged (IsWantedPortVlan.entry r e set first v) (IsWantedPortVlan.entry s f again second w) same alike =
      apart_entries bridge other r s e f set first v again second w same alike
  apart_vlans bridge port other other_port id other_id pvid untagged other_pvid other_untagged (IsWantedPortVlan.entry r e set first v) (IsWantedPortVlan.itself s ports again local c) same alike =
      absurd (port_is_no_bridge bridge other e.port v.ports ports v.bridge_used v.own c same)
  apart_vlans bridge port other other_port id other_id pvid untagged other_pvid other_untagged (IsWantedPortVlan.itself r ports set local b) (IsWantedPortVlan.entry s f again second w) same alike =
      absurd (port_is_no_bridge other bridge f.port w.ports ports w.bridge_used w.own b (sym same))
  apart_vlans bridge port other other_port id other_id pvid untagged other_pvid other_untagged (IsWantedPortVlan.itself r ports set local b) (IsWantedPortVlan.itself s others again local_too c) same alike =
      same_itself bridge other r.id s.id same alike

  alike_by_test : (id other_id : ℕ) (pvid other_pvid : Bool) → (nat_eq id other_id || (pvid && other_pvid)) ≡ true → AreAlike id pvid other_id other_pvid
  unfolding AreAlike
  alike_by_test id other_id pvid other_pvid h = elim (either (nat_eq id other_id) (pvid && other_pvid) h) as (λ _. (id ≡ other_id) ⊎ ((pvid ≡ true) × (other_pvid ≡ true))) [
    | inl ids ↦ inl (number_same id other_id ids)
    | inr pvids ↦ inr (both pvid other_pvid pvids)
  ]

  apart : (a b : Object) → IsWanted facts a → IsWanted facts b → exclude a b ≡ true → a ≡ b
  apart (object.Link name kind) (object.Link other other_kind) v w same =
      let equal : name ≡ other = elim (either (bytes_eq name other) (are_one_vlan kind other_kind) same) as (λ _. name ≡ other) [
        | inl names ↦ bytes_same name other names
        | inr vlans ↦ same_vlan name other kind other_kind v w vlans
      ] in
      ap₂ object.Link equal (one_kind name other kind other_kind v w equal)
  apart (object.Mtu name mtu) (object.Mtu other number) v w same =
      let equal : name ≡ other = bytes_same name other same in
      let configured : Some mtu ≡ Some number = sym v.configured ∙ ap (λ n. (row_at facts.conf.names n).mtu) equal ∙ w.configured in
      let numbers : mtu ≡ number = cc configured in
      ap₂ object.Mtu equal numbers
  apart (object.Mac name mac) (object.Mac other other_mac) v w same =
      let equal : name ≡ other = bytes_same name other same in
      let configured : Some mac ≡ Some other_mac = sym v.configured ∙ ap (λ n. (row_at facts.conf.names n).mac) equal ∙ w.configured in
      let macs : mac ≡ other_mac = cc configured in
      ap₂ object.Mac equal macs
  apart (object.Master port bridge) (object.Master other owner) v w same =
      let equal : port ≡ other = bytes_same port other same in
      ap₂ object.Master equal (one_owner facts sound bridge owner port v.bridge_used.empty w.bridge_used.empty v.ports w.ports v.bridge_used.standing v.own w.bridge_used.standing (subst (Contains w.ports) (sym equal) w.own))
  apart (object.Vlan bridge port id pvid untagged) (object.Vlan other other_port other_id other_pvid other_untagged) v w same =
      let parts = both (bytes_eq port other_port) (nat_eq id other_id || (pvid && other_pvid)) same in
      apart_vlans bridge port other other_port id other_id pvid untagged other_pvid other_untagged v w (bytes_same port other_port parts.0) (alike_by_test id other_id pvid other_pvid parts.1)
  apart a b v w same = cc same

  pub allowed : AreAllowed devices (want facts)
  allowed = record {
    supported = λ o h. supported o (of_wanted facts sound o h);
    apart = λ a b h g. apart a b (of_wanted facts sound a h) (of_wanted facts sound b g);
  }
