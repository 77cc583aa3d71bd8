-- The tests of a kernel in memory judge right.
use Rattle.std.proofs.Common.{ℕ, ◌≡◌, ◌⊎◌, inl, inr, List, Option, true, false, Bool, Contains, refl, ap, sym, subst, ◌∙◌}
use Rattle.std.specs.Prelude.{◌&&◌, ◌||◌, not, bytes_eq, nat_eq, nat_le}
use Rattle.std.specs.List.{list_any}
use Rattle.std.specs.FinSet as set
use Rattle.std.proofs.lemmas.Bool.Decides.{Decides-eqb}
use Rattle.kern_model.specs.declared.object.Device.{Device}
use Rattle.kern_model.specs.declared.object.Mac.{Mac}
use Rattle.kern_model.specs.declared.object.LinkKind.{LinkKind}
use Rattle.kern_model.specs.declared.object.LinkKind.TheVariants.{Bridge, Vlan}
use Rattle.kern_model.specs.declared.object.Object.{Object}
use Rattle.kern_model.specs.declared.object.Object.TheVariants as object
use Rattle.kern_model.specs.declared.object.Call.{Call}
use Rattle.kern_model.specs.declared.object.Call.TheVariants.{Put, Take}
use Rattle.kern_model.specs.declared.object.DevEvent.{DevEvent}
use Rattle.kern_model.specs.declared.object.DevEvent.TheVariants as event
use Rattle.kern_model.specs.ObjectOrder.{Has, set_of}
use Rattle.kern_model.specs.Standing.{places_of}
use Rattle.kern_model.specs.Kernel.{map_of, is_present, Exists, MayHappen, own_mtu, own_mac, name_of}
use Rattle.kern_model.specs.Admission.{IsBridge, IsFiltering, HasLowerUp, MayBeMade, MasterMayBeSet, PortVlanMayBeSet, AdmitsPut, MayGoDown, AdmitsTake, CarriesOwn, Admits}
use Rattle.kern_model.specs.AdmissionTest as test
use Rattle.kern_model.proofs.OrderLemmas.{objects_total}
use Rattle.kern_model.proofs.SetLemmas.{set_of_member, member_of_set}
use Rattle.kern_model.proofs.TestLemmas.{both, of_both, either, of_left, of_right, not_true, of_not, at_most, at_most_test, bytes_same, same_bytes, from_any, of_any}

-- which objects pass
link_of_test : (name : List ℕ) (o : Object) → test.is_link_of name o ≡ true → (kind : LinkKind) × (o ≡ object.Link name kind)
link_of_test name (object.Link other kind) h = (kind, ap (λ n. object.Link n kind) (bytes_same other name h))
link_of_test name o h = cc h

record IsBridgeOf (name : List ℕ) (o : Object) : Type 0 where
  mac : Option Mac
  filtering : Bool
  same : o ≡ object.Link name (Bridge mac filtering)

bridge_of_test : (name : List ℕ) (o : Object) → test.is_bridge_of name o ≡ true → IsBridgeOf name o
bridge_of_test name (object.Link other (Bridge mac filtering)) h = record { mac = mac; filtering = filtering; same = ap (λ n. object.Link n (Bridge mac filtering)) (bytes_same other name h) }
bridge_of_test name o h = cc h

filtering_of_test : (name : List ℕ) (o : Object) → test.is_filtering_of name o ≡ true → (mac : Option Mac) × (o ≡ object.Link name (Bridge mac true))
filtering_of_test name (object.Link other (Bridge mac filtering)) h =
    let parts = both (bytes_eq other name) filtering h in
    let named = bytes_same other name parts.0 in
    let filters = parts.1 in
    (mac, cc (named, filters))
filtering_of_test name o h = cc h

record IsVlanOn (port : List ℕ) (id : ℕ) (o : Object) : Type 0 where
  bridge : List ℕ
  pvid : Bool
  untagged : Bool
  same : o ≡ object.Vlan bridge port id pvid untagged

vlan_on_test : (port : List ℕ) (id : ℕ) (o : Object) → test.is_vlan_on port id o ≡ true → IsVlanOn port id o
vlan_on_test port id (object.Vlan bridge other i pvid untagged) h =
    let parts = both (bytes_eq other port) (nat_eq i id) h in
    let at = bytes_same other port parts.0 in
    let of_id = (Decides-eqb i id).0 parts.1 in
    record { bridge = bridge; pvid = pvid; untagged = untagged; same = cc (at, of_id) }
vlan_on_test port id o h = cc h

record IsPvidOn (port : List ℕ) (o : Object) : Type 0 where
  bridge : List ℕ
  id : ℕ
  untagged : Bool
  same : o ≡ object.Vlan bridge port id true untagged

pvid_on_test : (port : List ℕ) (o : Object) → test.is_pvid_on port o ≡ true → IsPvidOn port o
pvid_on_test port (object.Vlan bridge other id pvid untagged) h =
    let parts = both (bytes_eq other port) pvid h in
    let at = bytes_same other port parts.0 in
    let is = parts.1 in
    record { bridge = bridge; id = id; untagged = untagged; same = cc (at, is) }
pvid_on_test port o h = cc h

record IsVlanOf (bridge port : List ℕ) (o : Object) : Type 0 where
  id : ℕ
  pvid : Bool
  untagged : Bool
  same : o ≡ object.Vlan bridge port id pvid untagged

vlan_of_test : (bridge port : List ℕ) (o : Object) → test.is_vlan_of bridge port o ≡ true → IsVlanOf bridge port o
vlan_of_test bridge port (object.Vlan b p id pvid untagged) h =
    let parts = both (bytes_eq b bridge) (bytes_eq p port) h in
    let of_bridge = bytes_same b bridge parts.0 in
    let at = bytes_same p port parts.1 in
    record { id = id; pvid = pvid; untagged = untagged; same = cc (of_bridge, at) }
vlan_of_test bridge port o h = cc h

record IsVlanWith (lower : List ℕ) (id : ℕ) (o : Object) : Type 0 where
  name : List ℕ
  mac : Option Mac
  same : o ≡ object.Link name (Vlan lower id mac)

vlan_with_test : (lower : List ℕ) (id : ℕ) (o : Object) → test.is_vlan_with lower id o ≡ true → IsVlanWith lower id o
vlan_with_test lower id (object.Link name (Vlan other i mac)) h =
    let parts = both (bytes_eq other lower) (nat_eq i id) h in
    let l = bytes_same other lower parts.0 in
    let n = (Decides-eqb i id).0 parts.1 in
    record { name = name; mac = mac; same = cc (l, n) }
vlan_with_test lower id o h = cc h

master_of_test : (port : List ℕ) (o : Object) → test.is_master_of port o ≡ true → (bridge : List ℕ) × (o ≡ object.Master port bridge)
master_of_test port (object.Master other bridge) h = (bridge, ap (λ n. object.Master n bridge) (bytes_same other port h))
master_of_test port o h = cc h

at_test : (name : List ℕ) (o : Object) → test.is_at name o ≡ true → Contains (places_of o) name
at_test name o h = let found = from_any (λ place. bytes_eq place name) (places_of o) h in subst (Contains (places_of o)) (bytes_same found.passing name found.passes) found.member

test_at : (name : List ℕ) (o : Object) → Contains (places_of o) name → test.is_at name o ≡ true
test_at name o member = of_any (λ place. bytes_eq place name) (places_of o) name member (same_bytes name name refl)

module _ (devices : List (List ℕ × Device)) (objects : List Object) where
  among_has : (o : Object) → test.is_among objects o ≡ true → Has (set_of objects) o
  among_has o h = set.contains-from_list objects_total objects o ∙ h

  has_among : (o : Object) → Has (set_of objects) o → test.is_among objects o ≡ true
  has_among o h = sym (set.contains-from_list objects_total objects o) ∙ h

  any_of : (p : Object → Bool) → (o : Object) → Has (set_of objects) o → p o ≡ true → list_any p objects ≡ true
  any_of p o h passes = of_any p objects o (member_of_set objects o h) passes

  none_of : (p : Object → Bool) → ((o : Object) → Has (set_of objects) o → p o ≡ true → ⊥) → not (list_any p objects) ≡ true
  none_of p none = of_not (list_any p objects) (λ h. let found = from_any p objects h in none found.passing (set_of_member objects found.passing found.member) found.passes)

  not_one : (p : Object → Bool) → not (list_any p objects) ≡ true → (o : Object) → Has (set_of objects) o → p o ≡ true → ⊥
  not_one p h o member passes = not_true (list_any p objects) h (any_of p o member passes)

  pub exists_to : (name : List ℕ) → test.exists devices objects name ≡ true → Exists (map_of devices) (set_of objects) name
  exists_to name h = elim (either (is_present (map_of devices) name) _ h) as (λ _. Exists (map_of devices) (set_of objects) name) [
    | inl present ↦ inl present
    | inr any ↦
        let found = from_any (test.is_link_of name) objects any in
        let link = link_of_test name found.passing found.passes in
        inr (link.0, subst (Has (set_of objects)) link.1 (set_of_member objects found.passing found.member))
  ]

  pub exists_of : (name : List ℕ) → Exists (map_of devices) (set_of objects) name → test.exists devices objects name ≡ true
  exists_of name e = elim e as (λ _. test.exists devices objects name ≡ true) [
    | inl present ↦ of_left (is_present (map_of devices) name) _ present
    | inr link ↦ of_right (is_present (map_of devices) name) _ (any_of (test.is_link_of name) (object.Link name link.0) link.1 (same_bytes name name refl))
  ]

  bridge_to : (name : List ℕ) → list_any (test.is_bridge_of name) objects ≡ true → IsBridge (set_of objects) name
  bridge_to name h =
      let found = from_any (test.is_bridge_of name) objects h in
      let link = bridge_of_test name found.passing found.passes in
      record { mac = link.mac; filtering = link.filtering; held = subst (Has (set_of objects)) link.same (set_of_member objects found.passing found.member) }

  filtering_to : (name : List ℕ) → list_any (test.is_filtering_of name) objects ≡ true → IsFiltering (set_of objects) name
  filtering_to name h =
      let found = from_any (test.is_filtering_of name) objects h in
      let link = filtering_of_test name found.passing found.passes in
      record { mac = link.0; held = subst (Has (set_of objects)) link.1 (set_of_member objects found.passing found.member) }

  filtering_of : (name : List ℕ) → IsFiltering (set_of objects) name → list_any (test.is_filtering_of name) objects ≡ true
  filtering_of name b = any_of (test.is_filtering_of name) (object.Link name (Bridge b.mac true)) b.held (of_both (bytes_eq name name) true (same_bytes name name refl) refl)

  bridge_of : (name : List ℕ) → IsBridge (set_of objects) name → list_any (test.is_bridge_of name) objects ≡ true
  bridge_of name b = any_of (test.is_bridge_of name) (object.Link name (Bridge b.mac b.filtering)) b.held (same_bytes name name refl)

  made_to : (kind : LinkKind) → test.may_be_made devices objects kind ≡ true → MayBeMade (map_of devices) (set_of objects) kind
  made_to (Bridge mac filtering) h = tt
  made_to (Vlan lower id mac) h =
      let a = both (test.exists devices objects lower) _ h in
      let b = both (nat_le 1 id) _ a.1 in
      let c = both (nat_le id 4094) _ b.1 in
      record {
        stands = exists_to lower a.0;
        least = at_most 1 id b.0;
        most = at_most id 4094 c.0;
        free = λ name m held. not_one (test.is_vlan_with lower id) c.1 (object.Link name (Vlan lower id m)) held (of_both (bytes_eq lower lower) (nat_eq id id) (same_bytes lower lower refl) ((Decides-eqb id id).1 refl));
      }

  made_of : (kind : LinkKind) → MayBeMade (map_of devices) (set_of objects) kind → test.may_be_made devices objects kind ≡ true
  made_of (Bridge mac filtering) h = refl
  made_of (Vlan lower id mac) h =
      of_both (test.exists devices objects lower) _ (exists_of lower h.stands) (of_both (nat_le 1 id) _ (at_most_test 1 id h.least) (of_both (nat_le id 4094) _ (at_most_test id 4094 h.most)
      (none_of (test.is_vlan_with lower id) (λ o held passes. let v = vlan_with_test lower id o passes in h.free v.name v.mac (subst (Has (set_of objects)) v.same held)))))

  master_to : (port bridge : List ℕ) → test.master_may_be_set devices objects port bridge ≡ true → MasterMayBeSet (map_of devices) (set_of objects) port bridge
  master_to port bridge h =
      let a = both (test.exists devices objects port) _ h in
      let b = both (not (list_any (test.is_bridge_of port) objects)) _ a.1 in
      let c = both (list_any (test.is_bridge_of bridge) objects) _ b.1 in
      record {
        stands = exists_to port a.0;
        plain = λ is. not_true (list_any (test.is_bridge_of port) objects) b.0 (bridge_of port is);
        made = bridge_to bridge c.0;
        free = λ other held. not_one (test.is_master_of port) c.1 (object.Master port other) held (same_bytes port port refl);
      }

  master_of : (port bridge : List ℕ) → MasterMayBeSet (map_of devices) (set_of objects) port bridge → test.master_may_be_set devices objects port bridge ≡ true
  master_of port bridge h =
      of_both (test.exists devices objects port) _ (exists_of port h.stands) (of_both (not (list_any (test.is_bridge_of port) objects)) _ (of_not (list_any (test.is_bridge_of port) objects) (λ is. h.plain (bridge_to port is)))
      (of_both (list_any (test.is_bridge_of bridge) objects) _ (bridge_of bridge h.made) (none_of (test.is_master_of port) (λ o held passes. let m = master_of_test port o passes in h.free m.0 (subst (Has (set_of objects)) m.1 held)))))

  port_vlan_to : (bridge port : List ℕ) (id : ℕ) (pvid : Bool) → test.port_vlan_may_be_set objects bridge port id pvid ≡ true → PortVlanMayBeSet (set_of objects) bridge port id pvid
  port_vlan_to bridge port id pvid h =
      let a = both (list_any (test.is_filtering_of bridge) objects) _ h in
      let b = both (bytes_eq port bridge || test.is_among objects (object.Master port bridge)) _ a.1 in
      let c = both (not (list_any (test.is_vlan_on port id) objects)) _ b.1 in
      record {
        filtering = filtering_to bridge a.0;
        joined = elim (either (bytes_eq port bridge) (test.is_among objects (object.Master port bridge)) b.0) as (λ _. (port ≡ bridge) ⊎ Has (set_of objects) (object.Master port bridge)) [
          | inl itself ↦ inl (bytes_same port bridge itself)
          | inr master ↦ inr (among_has (object.Master port bridge) master)
        ];
        free = λ other v u held. not_one (test.is_vlan_on port id) c.0 (object.Vlan other port id v u) held (of_both (bytes_eq port port) (nat_eq id id) (same_bytes port port refl) ((Decides-eqb id id).1 refl));
        alone = λ is other i u held. not_true (pvid && list_any (test.is_pvid_on port) objects) c.1
            (of_both pvid _ is (any_of (test.is_pvid_on port) (object.Vlan other port i true u) held (of_both (bytes_eq port port) true (same_bytes port port refl) refl)));
      }

  port_vlan_of : (bridge port : List ℕ) (id : ℕ) (pvid : Bool) → PortVlanMayBeSet (set_of objects) bridge port id pvid → test.port_vlan_may_be_set objects bridge port id pvid ≡ true
  port_vlan_of bridge port id pvid h =
      of_both (list_any (test.is_filtering_of bridge) objects) _ (filtering_of bridge h.filtering)
      (of_both (bytes_eq port bridge || test.is_among objects (object.Master port bridge)) _ (elim h.joined as (λ _. (bytes_eq port bridge || test.is_among objects (object.Master port bridge)) ≡ true) [
        | inl itself ↦ of_left (bytes_eq port bridge) _ (same_bytes port bridge itself)
        | inr master ↦ of_right (bytes_eq port bridge) _ (has_among (object.Master port bridge) master)
      ])
      (of_both (not (list_any (test.is_vlan_on port id) objects)) _
      (none_of (test.is_vlan_on port id) (λ o held passes. let v = vlan_on_test port id o passes in h.free v.bridge v.pvid v.untagged (subst (Has (set_of objects)) v.same held)))
      (of_not (pvid && list_any (test.is_pvid_on port) objects) (λ two.
      let parts = both pvid (list_any (test.is_pvid_on port) objects) two in
      let found = from_any (test.is_pvid_on port) objects parts.1 in
      let v = pvid_on_test port found.passing found.passes in
      h.alone parts.0 v.bridge v.id v.untagged (subst (Has (set_of objects)) v.same (set_of_member objects found.passing found.member))))))

  lower_to : (name : List ℕ) → not (list_any (test.lacks_lower objects name) objects) ≡ true → HasLowerUp (set_of objects) name
  lower_to name h lower id mac held = among_has (object.Up lower)
      (lower_in (test.is_among objects (object.Up lower)) (λ lacking. not_one (test.lacks_lower objects name) h (object.Link name (Vlan lower id mac)) held (of_both (bytes_eq name name) _ (same_bytes name name refl) lacking)))
    where
      lower_in : (b : Bool) → (not b ≡ true → ⊥) → b ≡ true
      lower_in true h = refl
      lower_in false h = absurd (h refl)

  lacks_none : (name : List ℕ) → HasLowerUp (set_of objects) name → (o : Object) → Has (set_of objects) o → test.lacks_lower objects name o ≡ true → ⊥
  lacks_none name up (object.Link other (Vlan lower id mac)) held h =
      let parts = both (bytes_eq other name) _ h in
      let same = bytes_same other name parts.0 in
      not_true (test.is_among objects (object.Up lower)) parts.1 (has_among (object.Up lower) (up lower id mac (subst (λ n. Has (set_of objects) (object.Link n (Vlan lower id mac))) same held)))
  lacks_none name up o held h = cc h

  put_to : (o : Object) → test.may_be_put devices objects o ≡ true → AdmitsPut (map_of devices) (set_of objects) o
  put_to (object.Link name kind) h = let parts = both (not (test.exists devices objects name)) _ h in (λ e. not_true (test.exists devices objects name) parts.0 (exists_of name e), made_to kind parts.1)
  put_to (object.Mtu name mtu) h = exists_to name h
  put_to (object.Mac name mac) h = h
  put_to (object.Master port bridge) h = master_to port bridge h
  put_to (object.Vlan bridge port id pvid untagged) h = port_vlan_to bridge port id pvid h
  put_to (object.Up name) h = let parts = both (test.exists devices objects name) _ h in (exists_to name parts.0, lower_to name parts.1)
  put_to (object.Address dev cidr) h = among_has (object.Up dev) h
  put_to (object.Route r) h = among_has (object.Up r.dev) h

  put_of : (o : Object) → AdmitsPut (map_of devices) (set_of objects) o → test.may_be_put devices objects o ≡ true
  put_of (object.Link name kind) h = of_both (not (test.exists devices objects name)) _ (of_not (test.exists devices objects name) (λ e. h.0 (exists_to name e))) (made_of kind h.1)
  put_of (object.Mtu name mtu) h = exists_of name h
  put_of (object.Mac name mac) h = h
  put_of (object.Master port bridge) h = master_of port bridge h
  put_of (object.Vlan bridge port id pvid untagged) h = port_vlan_of bridge port id pvid h
  put_of (object.Up name) h = of_both (test.exists devices objects name) _ (exists_of name h.0) (none_of (test.lacks_lower objects name) (lacks_none name h.1))
  put_of (object.Address dev cidr) h = has_among (object.Up dev) h
  put_of (object.Route r) h = has_among (object.Up r.dev) h

  needs_none : (name : List ℕ) → MayGoDown (set_of objects) name → (o : Object) → Has (set_of objects) o → test.needs_up objects name o ≡ true → ⊥
  needs_none name down (object.Address dev cidr) held h = down.addresses cidr (subst (λ n. Has (set_of objects) (object.Address n cidr)) (bytes_same dev name h) held)
  needs_none name down (object.Route r) held h = down.routes r held (bytes_same r.dev name h)
  needs_none name down (object.Link vlan (Vlan lower id mac)) held h =
      let parts = both (bytes_eq lower name) _ h in
      down.vlans vlan id mac (subst (λ n. Has (set_of objects) (object.Link vlan (Vlan n id mac))) (bytes_same lower name parts.0) held) (among_has (object.Up vlan) parts.1)
  needs_none name down o held h = cc h

  take_to : (o : Object) → test.may_be_taken objects o ≡ true → AdmitsTake (set_of objects) o
  take_to (object.Link name kind) h = λ o held place. not_one (test.is_at name) h o held (test_at name o place)
  take_to (object.Master port bridge) h = λ id pvid untagged held. not_one (test.is_vlan_of bridge port) h (object.Vlan bridge port id pvid untagged) held
      (of_both (bytes_eq bridge bridge) (bytes_eq port port) (same_bytes bridge bridge refl) (same_bytes port port refl))
  take_to (object.Up name) h = record {
    addresses = λ cidr held. not_one (test.needs_up objects name) h (object.Address name cidr) held (same_bytes name name refl);
    routes = λ r held on. not_one (test.needs_up objects name) h (object.Route r) held (same_bytes r.dev name on);
    vlans = λ vlan id mac held up. not_one (test.needs_up objects name) h (object.Link vlan (Vlan name id mac)) held (of_both (bytes_eq name name) _ (same_bytes name name refl) (has_among (object.Up vlan) up));
  }
  take_to o h = tt

  take_of : (o : Object) → AdmitsTake (set_of objects) o → test.may_be_taken objects o ≡ true
  take_of (object.Link name kind) h = none_of (test.is_at name) (λ o held passes. h o held (at_test name o passes))
  take_of (object.Master port bridge) h = none_of (test.is_vlan_of bridge port) (λ o held passes. let v = vlan_of_test bridge port o passes in h v.id v.pvid v.untagged (subst (Has (set_of objects)) v.same held))
  take_of (object.Up name) h = none_of (test.needs_up objects name) (needs_none name h)
  take_of o h = refl

  pub admitted_to : (c : Call) → test.call_passes devices objects c ≡ true → Admits (map_of devices) (set_of objects) c
  admitted_to (Put o) h = let parts = both (not (test.is_among objects o)) _ h in (λ held. not_true (test.is_among objects o) parts.0 (has_among o held), put_to o parts.1)
  admitted_to (Take o mtu mac) h =
      let a = both (test.is_among objects o) _ h in
      let b = both (test.may_be_taken objects o) _ a.1 in
      let c = both (nat_eq mtu (own_mtu (map_of devices) (name_of o))) _ b.1 in
      let own : CarriesOwn (map_of devices) o mtu mac = record
      { mtu_own = (Decides-eqb mtu (own_mtu (map_of devices) (name_of o))).0 c.0; mac_own = let same = bytes_same mac.0 (own_mac (map_of devices) (name_of o)).0 c.1 in ap (λ (xs : List ℕ). record { 0 = xs }) same } in
      (among_has o a.0, take_to o b.0, own)

  pub admitted_of : (c : Call) → Admits (map_of devices) (set_of objects) c → test.call_passes devices objects c ≡ true
  admitted_of (Put o) h = of_both (not (test.is_among objects o)) _ (of_not (test.is_among objects o) (λ held. h.0 (among_has o held))) (put_of o h.1)
  admitted_of (Take o mtu mac) h =
      let own = h.2 in
      of_both (test.is_among objects o) _ (has_among o h.0) (of_both (test.may_be_taken objects o) _ (take_of o h.1)
      (of_both (nat_eq mtu (own_mtu (map_of devices) (name_of o))) _ ((Decides-eqb mtu (own_mtu (map_of devices) (name_of o))).1 own.mtu_own) (same_bytes mac.0 (own_mac (map_of devices) (name_of o)).0 (ap (λ m. m.0) own.mac_own))))

  pub happens_to : (e : DevEvent) → test.event_passes devices objects e ≡ true → MayHappen (map_of devices) (set_of objects) e
  happens_to (event.Add name carrier mtu mac) h = λ e. not_true (test.exists devices objects name) h (exists_of name e)
  happens_to (event.Remove name) h = h
  happens_to (event.Carrier name on) h = h

  pub happens_of : (e : DevEvent) → MayHappen (map_of devices) (set_of objects) e → test.event_passes devices objects e ≡ true
  happens_of (event.Add name carrier mtu mac) h = of_not (test.exists devices objects name) (λ e. h (exists_to name e))
  happens_of (event.Remove name) h = h
  happens_of (event.Carrier name on) h = h
