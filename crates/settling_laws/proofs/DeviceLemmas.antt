-- What happens to a device, in a graph and among the devices of inputs.
use Rattle.std.proofs.Common.{ℕ, zero, suc, ◌≡◌, List, [], ◌∷◌, ◌++◌, map, Bool, true, false, cond, Option, Some, None, position, refl, ap, sym, subst, ◌∙◌}
use Rattle.std.specs.Prelude.{not, bytes_eq}
use Rattle.std.specs.List.{find}
use Rattle.std.specs.Option.{option_map, option_and_then}
use Rattle.kern_model.specs.declared.object.Device.{Device}
use Rattle.kern_model.specs.declared.object.Mac.{Mac}
use Rattle.kern_model.specs.declared.object.DevEvent.TheVariants as device
use Rattle.kern_model.specs.Kernel.{with_carrier}
use Rattle.kern_model.proofs.TestLemmas.{bytes_same, same_bytes}
use Rattle.uci_tree.proofs.FoldLemmas.{position-cons}
use Rattle.net_rules.specs.declared.inputs.Inputs.{Inputs}
use Rattle.net_rules.specs.declared.event.Event.TheVariants as event
use Rattle.net_rules.specs.Facts.{Facts}
use Rattle.net_rules.specs.Inputs.{device_in, facts_of}
use Rattle.net_rules.specs.After.{without_device, carrier_set, changed}
use Rattle.net_rules.proofs.MomentLemmas.{come_in}
use Rattle.graph_rules.specs.State.{Named, State, named_in, device_among, place_among}
use Rattle.graph_rules.specs.After.{name_at, with_device, with_claims, present_after, absent_after, carrier_after, claimed_after}
use Rattle.graph_laws.specs.Below.{AgreesBelow}

-- ---- among the names of a graph

-- two names of which one is that of another
same_test : (a b c : List ℕ) → bytes_eq a b ≡ true → bytes_eq b c ≡ bytes_eq a c
same_test a b c is = ap (λ n. bytes_eq n c) (sym (bytes_same a b is))

other_test : (a b c : List ℕ) → bytes_eq a b ≡ false → bytes_eq b c ≡ true → bytes_eq a c ≡ false
other_test a b c off is = sym (ap (bytes_eq a) (bytes_same b c is)) ∙ off

turned : (a b : List ℕ) (t : Bool) → bytes_eq a b ≡ t → bytes_eq b a ≡ false → bytes_eq a b ≡ false
turned a b true is off = let back : bytes_eq b a ≡ true = same_bytes b a (sym (bytes_same a b is)) in cc (back, off)
turned a b false is off = is

apart : (a b c : List ℕ) (t : Bool) → bytes_eq b c ≡ t → bytes_eq a b ≡ false → bytes_eq a c ≡ true → bytes_eq b c ≡ false
apart a b c true is off at = let both : bytes_eq a b ≡ true = same_bytes a b (bytes_same a c at ∙ sym (bytes_same b c is)) in cc (both, off)
apart a b c false is off at = is

abbrev device_by : Option Named → Option Device
device_by found = option_and_then (λ (n : Named). n.device) found

pub cons_device : (n : Named) (ns : List Named) (q : List ℕ) (b : Bool) → bytes_eq n.name q ≡ b → device_among (n ∷ ns) q ≡ cond b n.device (device_among ns q)
cons_device n ns q true is = ap (λ b. device_by (cond b (Some n) (named_in ns q))) is
cons_device n ns q false is = ap (λ b. device_by (cond b (Some n) (named_in ns q))) is

-- the place of a name behind another
record IsBehind (name : List ℕ) (ns : List Named) (id : ℕ) : Type 0 where
  pub before : ℕ
  pub is : id ≡ suc before
  pub place : place_among ns name ≡ Some before

place_behind : (name : List ℕ) (ns : List Named) (id : ℕ) (found : Option ℕ) → place_among ns name ≡ found → option_map (λ k. suc k) found ≡ Some id → IsBehind name ns id
place_behind name ns id None is h = cc h
place_behind name ns id (Some k) is h = record { before = k; is = let same : suc k ≡ id = cc h in sym same; place = is }

place_first : (id : ℕ) → ◌≡◌ {A = Option ℕ} (Some 0) (Some id) → id ≡ 0
place_first id h = cc h

-- what is set at the place of a name is what it has, and all others have what they had
abbrev SetAt : List Named → List ℕ → ℕ → Option Device → List ℕ → Type 0
SetAt ns name id d q = device_among (with_device ns id d) q ≡ cond (bytes_eq name q) d (device_among ns q)

set_here : (n : Named) (ns : List Named) (name q : List ℕ) (d : Option Device) → bytes_eq name n.name ≡ true → SetAt (n ∷ ns) name 0 d q
set_here n ns name q d is = by (bytes_eq n.name q) refl
  where
    by : (b : Bool) → bytes_eq n.name q ≡ b → SetAt (n ∷ ns) name 0 d q
    by true at =
        cons_device (record n { device = d }) ns q true at
        ∙ sym (ap (λ b. cond b d (device_among (n ∷ ns) q)) (sym (same_test name n.name q is) ∙ at))
    by false at =
        cons_device (record n { device = d }) ns q false at
        ∙ sym (cons_device n ns q false at)
        ∙ sym (ap (λ b. cond b d (device_among (n ∷ ns) q)) (sym (same_test name n.name q is) ∙ at))

set_later : (n : Named) (ns : List Named) (name q : List ℕ) (id : ℕ) (d : Option Device) → bytes_eq name n.name ≡ false → SetAt ns name id d q → SetAt (n ∷ ns) name (suc id) d q
set_later n ns name q id d off rest = by (bytes_eq n.name q) refl
  where
    by : (b : Bool) → bytes_eq n.name q ≡ b → SetAt (n ∷ ns) name (suc id) d q
    by true at =
        cons_device n (with_device ns id d) q true at
        ∙ sym (cons_device n ns q true at)
        ∙ sym (ap (λ b. cond b d (device_among (n ∷ ns) q)) (other_test name n.name q off at))
    by false at =
        cons_device n (with_device ns id d) q false at
        ∙ rest
        ∙ sym (ap (cond (bytes_eq name q) d) (cons_device n ns q false at))

pub set_device : (ns : List Named) (name : List ℕ) (id : ℕ) (d : Option Device) (q : List ℕ) → place_among ns name ≡ Some id → SetAt ns name id d q
set_device [] name id d q place = cc place
set_device (n ∷ ns) name id d q place = by (bytes_eq name n.name) refl (sym (position-cons (bytes_eq name) n.name (map (λ (m : Named). m.name) ns)) ∙ place) (λ k. set_device ns name k d q)
  where
    by : (b : Bool) → bytes_eq name n.name ≡ b → cond {A = Option ℕ} b (Some 0) (option_map (λ k. suc k) (place_among ns name)) ≡ Some id → ((k : ℕ) → place_among ns name ≡ Some k → SetAt ns name k d q) → SetAt (n ∷ ns) name id d q
    by true is at rest = subst (λ k. SetAt (n ∷ ns) name k d q) (sym (place_first id at)) (set_here n ns name q d is)
    by false off at rest =
        let behind = place_behind name ns id (place_among ns name) refl at in
        subst (λ k. SetAt (n ∷ ns) name k d q) (sym behind.is) (set_later n ns name q behind.before d off (rest behind.before behind.place))

-- and what was there is what it had
abbrev AtPlace : List Named → List ℕ → ℕ → Type 0
AtPlace ns name id = device_among ns name ≡ (name_at ns id).device

pub at_place : (ns : List Named) (name : List ℕ) (id : ℕ) → place_among ns name ≡ Some id → AtPlace ns name id
at_place [] name id place = refl
at_place (n ∷ ns) name id place = by (bytes_eq name n.name) refl (sym (position-cons (bytes_eq name) n.name (map (λ (m : Named). m.name) ns)) ∙ place) (at_place ns name)
  where
    by : (b : Bool) → bytes_eq name n.name ≡ b → cond {A = Option ℕ} b (Some 0) (option_map (λ k. suc k) (place_among ns name)) ≡ Some id → ((k : ℕ) → place_among ns name ≡ Some k → AtPlace ns name k) → AtPlace (n ∷ ns) name id
    by true is at rest =
        let itself : bytes_eq n.name name ≡ true = same_bytes n.name name (sym (bytes_same name n.name is)) in
        subst (AtPlace (n ∷ ns) name) (sym (place_first id at)) (cons_device n ns name true itself)
    by false off at rest =
        let behind = place_behind name ns id (place_among ns name) refl at in
        let other : bytes_eq n.name name ≡ false = turned n.name name (bytes_eq n.name name) refl off in
        subst (AtPlace (n ∷ ns) name) (sym behind.is) (cons_device n ns name false other ∙ rest behind.before behind.place)

-- claims are no devices
pub claims_apart : (ns : List Named) (id claims : ℕ) (q : List ℕ) → device_among (with_claims ns id claims) q ≡ device_among ns q
claims_apart [] id claims q = refl
claims_apart (n ∷ ns) zero claims q = by (bytes_eq n.name q) refl
  where
    by : (b : Bool) → bytes_eq n.name q ≡ b → device_among (record n { claims = claims } ∷ ns) q ≡ device_among (n ∷ ns) q
    by true at = cons_device (record n { claims = claims }) ns q true at ∙ sym (cons_device n ns q true at)
    by false at = cons_device (record n { claims = claims }) ns q false at ∙ sym (cons_device n ns q false at)
claims_apart (n ∷ ns) (suc id) claims q = by (bytes_eq n.name q) refl (claims_apart ns id claims q)
  where
    by : (b : Bool) → bytes_eq n.name q ≡ b → device_among (with_claims ns id claims) q ≡ device_among ns q → device_among (n ∷ with_claims ns id claims) q ≡ device_among (n ∷ ns) q
    by true at rest = cons_device n (with_claims ns id claims) q true at ∙ sym (cons_device n ns q true at)
    by false at rest = cons_device n (with_claims ns id claims) q false at ∙ rest ∙ sym (cons_device n ns q false at)

-- ---- among the devices of inputs

abbrev Entry : Type 0
Entry = List ℕ × Device

cons_entry : (e : Entry) (es : List Entry) (q : List ℕ) (b : Bool) → bytes_eq e.0 q ≡ b → device_in (e ∷ es) q ≡ cond b (Some e.1) (device_in es q)
cons_entry e es q true is = ap (λ b. option_map (λ (x : Entry). x.1) (cond b (Some e) (find (λ (x : Entry). bytes_eq x.0 q) es))) is
cons_entry e es q false is = ap (λ b. option_map (λ (x : Entry). x.1) (cond b (Some e) (find (λ (x : Entry). bytes_eq x.0 q) es))) is

no_entry : (b : Bool) (d : Option Device) → cond b None (cond b d None) ≡ None
no_entry true d = refl
no_entry false d = refl

pub gone_in : (name : List ℕ) (es : List Entry) (q : List ℕ) → device_in (without_device name es) q ≡ cond (bytes_eq name q) None (device_in es q)
gone_in name [] q = by (bytes_eq name q)
  where
    by : (b : Bool) → ◌≡◌ {A = Option Device} None (cond b None None)
    by true = refl
    by false = refl
gone_in name (e ∷ es) q = by (bytes_eq e.0 name) refl (bytes_eq e.0 q) refl (gone_in name es q)
  where
    by : (b : Bool) → bytes_eq e.0 name ≡ b → (t : Bool) → bytes_eq e.0 q ≡ t → device_in (without_device name es) q ≡ cond (bytes_eq name q) None (device_in es q)
        → device_in (cond (not b) (e ∷ without_device name es) (without_device name es)) q ≡ cond (bytes_eq name q) None (device_in (e ∷ es) q)
    by true is true at rest =
        let named : bytes_eq name q ≡ true = sym (ap (λ n. bytes_eq n q) (bytes_same e.0 name is)) ∙ at in
        rest ∙ ap (λ b. cond b None (device_in es q)) named ∙ sym (ap (λ b. cond b None (device_in (e ∷ es) q)) named)
    by true is false at rest = rest ∙ sym (ap (cond (bytes_eq name q) None) (cons_entry e es q false at))
    by false off true at rest =
        let other : bytes_eq name q ≡ false = apart e.0 name q (bytes_eq name q) refl off at in
        cons_entry e (without_device name es) q true at
        ∙ sym (ap (λ b. cond b None (device_in (e ∷ es) q)) other ∙ cons_entry e es q true at)
    by false off false at rest =
        cons_entry e (without_device name es) q false at
        ∙ rest
        ∙ sym (ap (cond (bytes_eq name q) None) (cons_entry e es q false at))

abbrev both_ways : List ℕ → Bool → List ℕ → Option Device → Option Device
both_ways name on q d = cond (bytes_eq name q) (option_map (with_carrier on) d) d

no_carrier : (name : List ℕ) (on : Bool) (q : List ℕ) (b : Bool) → ◌≡◌ {A = Option Device} None (cond b (option_map (with_carrier on) None) None)
no_carrier name on q true = refl
no_carrier name on q false = refl

set_by : (name : List ℕ) (on : Bool) (e : Entry) (es rest : List Entry) (q : List ℕ) (b : Bool) → bytes_eq e.0 name ≡ b → (t : Bool) → bytes_eq e.0 q ≡ t → device_in rest q ≡ both_ways name on q (device_in es q)
    → device_in (cond b (e.0, with_carrier on e.1) e ∷ rest) q ≡ both_ways name on q (device_in (e ∷ es) q)
set_by name on e es rest q true is true at later =
    let named : bytes_eq name q ≡ true = sym (ap (λ n. bytes_eq n q) (bytes_same e.0 name is)) ∙ at in
    cons_entry (e.0, with_carrier on e.1) rest q true at
    ∙ sym (ap (both_ways name on q) (cons_entry e es q true at) ∙ ap (λ b. cond b (Some (with_carrier on e.1)) (Some e.1)) named)
set_by name on e es rest q true is false at later = cons_entry (e.0, with_carrier on e.1) rest q false at ∙ later ∙ sym (ap (both_ways name on q) (cons_entry e es q false at))
set_by name on e es rest q false off true at later =
    let other : bytes_eq name q ≡ false = apart e.0 name q (bytes_eq name q) refl off at in
    cons_entry e rest q true at
    ∙ sym (ap (both_ways name on q) (cons_entry e es q true at) ∙ ap (λ b. cond b (Some (with_carrier on e.1)) (Some e.1)) other)
set_by name on e es rest q false off false at later = cons_entry e rest q false at ∙ later ∙ sym (ap (both_ways name on q) (cons_entry e es q false at))

pub set_in : (name : List ℕ) (on : Bool) (es : List Entry) (q : List ℕ) → device_in (map (carrier_set name on) es) q ≡ both_ways name on q (device_in es q)
set_in name on [] q = no_carrier name on q (bytes_eq name q)
set_in name on (e ∷ es) q = set_by name on e es (map (carrier_set name on) es) q (bytes_eq e.0 name) refl (bytes_eq e.0 q) refl (set_in name on es q)

-- ---- both

module _ (inputs : Inputs) (s : State) (agrees : AgreesBelow (facts_of inputs) s.known) where
  -- a graph with other names that has the devices of other facts with the same rows and ports
  pub with_devices : (names : List Named) (devices : List Entry) → ((q : List ℕ) → device_among names q ≡ device_in devices q) → AgreesBelow (facts_of (record inputs { devices = devices })) (record s.known { names = names })
  with_devices names devices same = record { rows = agrees.rows; vlans = agrees.vlans; radio = agrees.radio; devices = same }

  module _ (name : List ℕ) (id : ℕ) (place : place_among s.known.names name ≡ Some id) where
    pub comes_below : (carrier : Bool) (mtu : ℕ) (mac : Mac) → AgreesBelow (facts_of (changed inputs (event.Device (device.Add name carrier mtu mac)))) (present_after s id (record { carrier = carrier; mtu = mtu; mac = mac })).known
    comes_below carrier mtu mac =
        let d : Device = record { carrier = carrier; mtu = mtu; mac = mac } in
        with_devices (with_device s.known.names id (Some d)) (without_device name inputs.devices ++ (name, d) ∷ []) (λ q.
        set_device s.known.names name id (Some d) q place
        ∙ ap (cond (bytes_eq name q) (Some d)) (agrees.devices q)
        ∙ sym (come_in name d inputs.devices q))

    pub leaves_below : AgreesBelow (facts_of (changed inputs (event.Device (device.Remove name)))) (absent_after s id).known
    leaves_below =
        with_devices (with_device s.known.names id None) (without_device name inputs.devices) (λ q.
        set_device s.known.names name id None q place
        ∙ ap (cond (bytes_eq name q) None) (agrees.devices q)
        ∙ sym (gone_in name inputs.devices q))

    carried : (on : Bool) (q : List ℕ) (b : Bool) → bytes_eq name q ≡ b → cond b (option_map (with_carrier on) (name_at s.known.names id).device) (device_among s.known.names q)
        ≡ cond b (option_map (with_carrier on) (device_in inputs.devices q)) (device_in inputs.devices q)
    carried on q true is =
        ap (option_map (with_carrier on)) (sym (at_place s.known.names name id place) ∙ agrees.devices name ∙ ap (device_in inputs.devices) (bytes_same name q is))
    carried on q false is = agrees.devices q

    pub carrier_below : (on : Bool) → AgreesBelow (facts_of (changed inputs (event.Device (device.Carrier name on)))) (carrier_after s id on).known
    carrier_below on =
        with_devices (with_device s.known.names id (option_map (with_carrier on) (name_at s.known.names id).device)) (map (carrier_set name on) inputs.devices) (λ q.
        set_device s.known.names name id (option_map (with_carrier on) (name_at s.known.names id).device) q place
        ∙ carried on q (bytes_eq name q) refl
        ∙ sym (set_in name on inputs.devices q))

pub claimed_below : (facts : Facts) (s : State) (id claims : ℕ) → AgreesBelow facts s.known → AgreesBelow facts (claimed_after s id claims).known
claimed_below facts s id claims agrees = record {
  rows = agrees.rows;
  vlans = agrees.vlans;
  radio = agrees.radio;
  devices = λ q. claims_apart s.known.names id claims q ∙ agrees.devices q;
}
