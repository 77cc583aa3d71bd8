-- A footprint has with each object the held links that it stands on.
use Rattle.std.proofs.Common.{ℕ, ◌≡◌, inl, inr, List, [], ◌∷◌, Option, Some, None, Bool, true, false, Contains, refl, ap, sym, subst, ◌∙◌}
use Rattle.std.specs.Prelude.{bytes_eq, is_some}
use Rattle.std.specs.Ordering.{eq_by_cmp}
use Rattle.std.specs.FinMap as map
use Rattle.kern_model.specs.declared.object.LinkKind.{LinkKind}
use Rattle.kern_model.specs.declared.object.LinkKind.TheVariants.{Bridge, Vlan}
use Rattle.kern_model.specs.declared.object.Object.{Object}
use Rattle.kern_model.specs.declared.object.Object.TheVariants as object
use Rattle.kern_model.specs.ObjectOrder.{object_cmp, Objects, Has}
use Rattle.kern_model.specs.Kernel as kernel
use Rattle.kern_model.specs.Kernel.{Devices}
use Rattle.kern_model.specs.Standing.{places_of, IsOver}
use Rattle.kern_model.specs.AdmissionTest.{is_among}
use Rattle.kern_model.specs.Allowed.{are_one_vlan, AreAllowed}
use Rattle.kern_model.proofs.MemberLemmas.{first_or_later, none_in_nil}
use Rattle.kern_model.proofs.TestLemmas.{both, of_both, of_any, either, of_left, of_right, bytes_same, same_bytes}
use Rattle.kern_model.proofs.SetLemmas.{has_retained, of_retained, same_object, test_of_same}
use Rattle.std.proofs.lemmas.Map.Views.{Contains-from_any}
use Rattle.kern_calls.specs.Kept.{IsWholePart}
use Rattle.net_rows.specs.declared.rows.InterfaceRow.{InterfaceRow}
use Rattle.net_rules.specs.Facts.{Facts}
use Rattle.net_rules.specs.Rows.{row_at, is_filtering}
use Rattle.net_rules.specs.RadioPorts.{device_of, radio_ports_of}
use Rattle.net_rules.specs.Standing.{Standing, Broken, Alone, Over, Ports, standing_at}
use Rattle.net_rules.specs.Sound.{IsSound}
use Rattle.net_rules.specs.Interfaces.{l3_device_of}
use Rattle.net_rules.specs.Used.{used}
use Rattle.net_rules.specs.Want.{want, given}
use Rattle.net_rules.specs.Wanted.{IsUsedBridge, IsWantedPortVlan}
use Rattle.net_rules.specs.Down.{LeadsDown, leads_down}
use Rattle.net_rules.specs.Footprint.{is_down_from, is_below, is_of, footprint, IsBelow, IsOf}
use Rattle.net_rules.proofs.DownLemmas.{down_test, down_joined, down_of_test, standing_lower}
use Rattle.net_rules.proofs.StandingLemmas.{only}
use Rattle.net_rules.proofs.DeviceLemmas.{not_broken, present_alone, used_available}
use Rattle.net_rules.proofs.GivenLemmas.{IsOn, on_l3_device}
use Rattle.net_rules.proofs.WantLemmas.{has_wanted, of_wanted}
use Rattle.net_rules.proofs.AllowedLemmas.{lower_used, allowed}

module _ (facts : Facts) where
  down_itself : (name : List ℕ) → leads_down facts.conf.names name name ≡ true
  down_itself name = down_test facts.conf.names name name LeadsDown.itself

  -- what is down to a VLAN is down to its lower
  down_lower : (name second lower : List ℕ) (id : ℕ) → leads_down facts.conf.names name second ≡ true → standing_at facts second ≡ Over lower id → leads_down facts.conf.names name lower ≡ true
  down_lower name second lower id p is =
      let names = facts.conf.names in
      let step = LeadsDown.over second lower (standing_lower names second (radio_ports_of facts second) lower id is) LeadsDown.itself in
      down_test names name lower (down_joined names lower second name step (down_of_test names name second p))

  from_lower : (from : Option (List ℕ)) (name lower : List ℕ) (id : ℕ) → is_down_from facts from name ≡ true → standing_at facts name ≡ Over lower id → is_down_from facts from lower ≡ true
  from_lower None name lower id p is = cc p
  from_lower (Some device) name lower id p is = down_lower device name lower id p is

  below_lower : (row : InterfaceRow) (name lower : List ℕ) (id : ℕ) → is_below facts row name ≡ true → standing_at facts name ≡ Over lower id → is_below facts row lower ≡ true
  below_lower row name lower id p is =
      elim (either (is_down_from facts (device_of facts row) name) (is_down_from facts (l3_device_of facts row) name) p) as (λ _. is_below facts row lower ≡ true) [
        | inl own ↦ of_left (is_down_from facts (device_of facts row) lower) (is_down_from facts (l3_device_of facts row) lower) (from_lower (device_of facts row) name lower id own is)
        | inr over ↦ of_right (is_down_from facts (device_of facts row) lower) (is_down_from facts (l3_device_of facts row) lower) (from_lower (l3_device_of facts row) name lower id over is)
      ]

  below_l3_device : (row : InterfaceRow) (l3_device : List ℕ) → l3_device_of facts row ≡ Some l3_device → is_below facts row l3_device ≡ true
  below_l3_device row l3_device is = of_right (is_down_from facts (device_of facts row) l3_device) (is_down_from facts (l3_device_of facts row) l3_device) (subst (λ o. is_down_from facts o l3_device ≡ true) (sym is) (down_itself l3_device))

in_footprint : (facts : Facts) (row : InterfaceRow) (o : Object) → Has (want facts) o → is_of facts row o ≡ true → Has (footprint facts row) o
unfolding footprint
in_footprint facts row o h of = has_retained (want facts) (is_of facts row) o h of

pub of_footprint : (facts : Facts) (row : InterfaceRow) (o : Object) → Has (footprint facts row) o → Has (want facts) o × (is_of facts row o ≡ true)
unfolding footprint
of_footprint facts row o h = of_retained (want facts) (is_of facts row) o h

-- the tests and what they say
down_from : (facts : Facts) (from : Option (List ℕ)) (name : List ℕ) → is_down_from facts from name ≡ true → (device : List ℕ) × (from ≡ Some device) × LeadsDown facts.conf.names name device
down_from facts None name h = cc h
down_from facts (Some device) name h = (device, refl, down_of_test facts.conf.names device name h)

from_down : (facts : Facts) (from : Option (List ℕ)) (name device : List ℕ) → from ≡ Some device → LeadsDown facts.conf.names name device → is_down_from facts from name ≡ true
from_down facts from name device is p = subst (λ o. is_down_from facts o name ≡ true) (sym is) (down_test facts.conf.names device name p)

below : (facts : Facts) (row : InterfaceRow) (name : List ℕ) → is_below facts row name ≡ true → IsBelow facts row name
below facts row name h =
    elim (either (is_down_from facts (device_of facts row) name) (is_down_from facts (l3_device_of facts row) name) h) as (λ _. IsBelow facts row name) [
      | inl p ↦ let d = down_from facts (device_of facts row) name p in IsBelow.own d.0 d.1 d.2
      | inr p ↦ let d = down_from facts (l3_device_of facts row) name p in IsBelow.l3_device d.0 d.1 d.2
    ]

test_below : (facts : Facts) (row : InterfaceRow) (name : List ℕ) → IsBelow facts row name → is_below facts row name ≡ true
test_below facts row name (IsBelow.own device is p) = of_left (is_down_from facts (device_of facts row) name) (is_down_from facts (l3_device_of facts row) name) (from_down facts (device_of facts row) name device is p)
test_below facts row name (IsBelow.l3_device device is p) = of_right (is_down_from facts (device_of facts row) name) (is_down_from facts (l3_device_of facts row) name) (from_down facts (l3_device_of facts row) name device is p)

-- in an allowed set
absent_link : (devices : Devices) (held : Objects) → AreAllowed devices held → (name : List ℕ) (kind : LinkKind) → Has held (object.Link name kind) → kernel.is_present devices name ≡ false
absent_link devices held allowed name (Bridge mac filtering) h = allowed.supported (object.Link name (Bridge mac filtering)) h
absent_link devices held allowed name (Vlan lower id mac) h = (allowed.supported (object.Link name (Vlan lower id mac)) h).0

one_link : (devices : Devices) (held : Objects) → AreAllowed devices held → (name : List ℕ) (kind other : LinkKind) → Has held (object.Link name kind) → Has held (object.Link name other) → object.Link name kind ≡ object.Link name other
one_link devices held allowed name kind other h g = allowed.apart (object.Link name kind) (object.Link name other) h g (of_left (bytes_eq name name) (are_one_vlan kind other) (same_bytes name name refl))

among_member : (xs : List Object) (o : Object) → is_among xs o ≡ true → Contains xs o
among_member xs o h = Contains-from_any same_object o xs h

member_among : (xs : List Object) (o : Object) → Contains xs o → is_among xs o ≡ true
member_among xs o h = of_any (eq_by_cmp object_cmp o) xs o h (sym (test_of_same true o o (λ h. refl) (λ same. refl)))

is_of_says : (facts : Facts) (row : InterfaceRow) (o : Object) → is_of facts row o ≡ true → IsOf facts row o
is_of_says facts row (object.Link name kind) h = below facts row name h
is_of_says facts row (object.Mtu name mtu) h = below facts row name h
is_of_says facts row (object.Mac name mac) h = below facts row name h
is_of_says facts row (object.Master port bridge) h = cc h
is_of_says facts row (object.Vlan bridge port id pvid untagged) h =
    let parts = both (bytes_eq port bridge) (is_below facts row bridge) h in
    (bytes_same port bridge parts.0, below facts row bridge parts.1)
is_of_says facts row (object.Up name) h = below facts row name h
is_of_says facts row (object.Address dev cidr) h = among_member (given facts row) (object.Address dev cidr) h
is_of_says facts row (object.Route r) h = among_member (given facts row) (object.Route r) h

test_is_of : (facts : Facts) (row : InterfaceRow) (o : Object) → IsOf facts row o → is_of facts row o ≡ true
test_is_of facts row (object.Link name kind) h = test_below facts row name h
test_is_of facts row (object.Mtu name mtu) h = test_below facts row name h
test_is_of facts row (object.Mac name mac) h = test_below facts row name h
test_is_of facts row (object.Master port bridge) h = absurd h
test_is_of facts row (object.Vlan bridge port id pvid untagged) h =
    of_both (bytes_eq port bridge) (is_below facts row bridge) (same_bytes port bridge h.0) (test_below facts row bridge h.1)
test_is_of facts row (object.Up name) h = test_below facts row name h
test_is_of facts row (object.Address dev cidr) h = member_among (given facts row) (object.Address dev cidr) h
test_is_of facts row (object.Route r) h = member_among (given facts row) (object.Route r) h

pub footprint_says : (facts : Facts) (row : InterfaceRow) (o : Object) → Has (footprint facts row) o → Has (want facts) o × IsOf facts row o
footprint_says facts row o h = let own = of_footprint facts row o h in (own.0, is_of_says facts row o own.1)

pub said_footprint : (facts : Facts) (row : InterfaceRow) (o : Object) → Has (want facts) o × IsOf facts row o → Has (footprint facts row) o
said_footprint facts row o h = in_footprint facts row o h.0 (test_is_of facts row o h.1)

-- a name is used, and below the device of the interface or its layer-3 device
record IsUnder (facts : Facts) (row : InterfaceRow) (name : List ℕ) : Type 0 where
  serves : used facts name ≡ true
  below : is_below facts row name ≡ true

module _ (facts : Facts) (devices : Devices) (sound : IsSound facts.conf) (same_devices : (name : List ℕ) → facts.device name ≡ map.get devices name) (row : InterfaceRow) (held : Objects) (admitted : AreAllowed devices held)
    (has : (o : Object) → Has (footprint facts row) o → Has held o) where
  -- a held link of a used name below the interface is of the footprint
  link_as : (name : List ℕ) (kind : LinkKind) (s : Standing) → standing_at facts name ≡ s → IsUnder facts row name → Has held (object.Link name kind) → Has (footprint facts row) (object.Link name kind)
  link_as name kind Broken is under h = absurd (not_broken facts sound name is (used_available facts sound name under.serves))
  link_as name kind (Alone fit) is under h = cc (sym (ap is_some (same_devices name)) ∙ present_alone facts sound name fit is (used_available facts sound name under.serves), absent_link devices held admitted name kind h)
  link_as name kind (Over lower id) is under h =
      let made = Vlan lower id (row_at facts.conf.names name).mac in
      let own = in_footprint facts row (object.Link name made) (has_wanted facts sound (object.Link name made) (record { standing = is; mac_is = refl; used = under.serves })) under.below in
      subst (Has (footprint facts row)) (one_link devices held admitted name made kind (has (object.Link name made) own) h) own
  link_as name kind (Ports empty ports) is under h =
      let made = Bridge (row_at facts.conf.names name).mac (is_filtering facts.conf name) in
      let b : IsUsedBridge facts name ports = record { empty = empty; standing = is; used = under.serves } in
      let own = in_footprint facts row (object.Link name made) (has_wanted facts sound (object.Link name made) (record { ports = ports; bridge = b; mac_is = refl; filters = refl })) under.below in
      subst (Has (footprint facts row)) (one_link devices held admitted name made kind (has (object.Link name made) own) h) own

  lower_under : (name lower : List ℕ) (id : ℕ) → standing_at facts name ≡ Over lower id → IsUnder facts row name → IsUnder facts row lower
  lower_under name lower id is under = record { serves = lower_used facts devices sound same_devices name lower id is under.serves; below = below_lower facts row name lower id under.below is }

  -- a held link that a used name below the interface is over is of the footprint too
  base_of : (base name : List ℕ) (kind : LinkKind) → Has held (object.Link base kind) → IsOver held base name → IsUnder facts row name → Has (footprint facts row) (object.Link base kind)
  base_of base name kind h IsOver.itself under = link_as base kind (standing_at facts base) refl under h
  base_of base top kind h (IsOver.above name lower id mac link over) under =
      let own = of_footprint facts row (object.Link name (Vlan lower id mac)) (link_as name (Vlan lower id mac) (standing_at facts name) refl under link) in
      let vlan = of_wanted facts sound (object.Link name (Vlan lower id mac)) own.0 in
      base_of base lower kind h over (lower_under name lower id vlan.standing under)

  -- the bridge of a VLAN that is set on a port
  bridge_used : (bridge port : List ℕ) (id : ℕ) (pvid untagged : Bool) → IsWantedPortVlan facts bridge port id pvid untagged → used facts bridge ≡ true
  bridge_used bridge port id pvid untagged (IsWantedPortVlan.entry r e set member w) = w.bridge_used.used
  bridge_used bridge port id pvid untagged (IsWantedPortVlan.itself r ports set local b) = b.used

  l3_device_under : (o : Object) (dev : List ℕ) → ((l3_device : List ℕ) → IsOn l3_device o → dev ≡ l3_device) → used facts dev ≡ true → Contains (given facts row) o → IsUnder facts row dev
  l3_device_under o dev on_dev serves h =
      let on = on_l3_device facts row o h in
      record { serves = serves; below = subst (λ n. is_below facts row n ≡ true) (sym (on_dev on.l3_device on.on)) (below_l3_device facts row on.l3_device on.l3_device_is) }

  up_used : (dev : List ℕ) → Has (want facts) (object.Up dev) → used facts dev ≡ true
  up_used dev h = of_wanted facts sound (object.Up dev) h

  -- the names that an object of the footprint is at
  place_of : (o : Object) (place : List ℕ) → Has (want facts) o → is_of facts row o ≡ true → Contains (places_of o) place → IsUnder facts row place
  place_of (object.Link name (Bridge mac filtering)) place h of at = absurd (none_in_nil place at)
  place_of (object.Link name (Vlan lower id mac)) place h of at =
      let vlan = of_wanted facts sound (object.Link name (Vlan lower id mac)) h in
      let under : IsUnder facts row name = record { serves = vlan.used; below = of } in
      subst (IsUnder facts row) (only lower place at) (lower_under name lower id vlan.standing under)
  place_of (object.Mtu name mtu) place h of at = subst (IsUnder facts row) (only name place at) (record { serves = (of_wanted facts sound (object.Mtu name mtu) h).used; below = of })
  place_of (object.Mac name mac) place h of at = subst (IsUnder facts row) (only name place at) (record { serves = (of_wanted facts sound (object.Mac name mac) h).used; below = of })
  place_of (object.Master port bridge) place h of at = cc of
  place_of (object.Vlan bridge port id pvid untagged) place h of at =
      let parts = both (bytes_eq port bridge) (is_below facts row bridge) of in
      let under : IsUnder facts row bridge = record { serves = bridge_used bridge port id pvid untagged (of_wanted facts sound (object.Vlan bridge port id pvid untagged) h); below = parts.1 } in
      elim (first_or_later port (bridge ∷ []) place at) as (λ _. IsUnder facts row place) [
        | inl at_port ↦ subst (IsUnder facts row) (sym (bytes_same port bridge parts.0) ∙ at_port) under
        | inr at_bridge ↦ subst (IsUnder facts row) (only bridge place at_bridge) under
      ]
  place_of (object.Up name) place h of at = subst (IsUnder facts row) (only name place at) (record { serves = up_used name h; below = of })
  place_of (object.Address dev cidr) place h of at = subst (IsUnder facts row) (only dev place at)
      (l3_device_under (object.Address dev cidr) dev (λ l3_device on. on) (up_used dev ((allowed facts devices sound same_devices).supported (object.Address dev cidr) h)) (among_member (given facts row) (object.Address dev cidr) of))
  place_of (object.Route r) place h of at = subst (IsUnder facts row) (only r.dev place at)
      (l3_device_under (object.Route r) r.dev (λ l3_device on. on) (up_used r.dev ((allowed facts devices sound same_devices).supported (object.Route r) h)) (among_member (given facts row) (object.Route r) of))

  pub whole_part : (wanted : Objects) → ((o : Object) → Has (footprint facts row) o → Has wanted o) → IsWholePart held wanted (footprint facts row)
  whole_part wanted stays = record {
    was = has;
    stays = stays;
    whole = λ o place base kind h at link over. let own = of_footprint facts row o h in base_of base place kind link over (place_of o place own.0 own.1 at);
  }
