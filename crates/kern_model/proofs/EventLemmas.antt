-- What may happen to a device leads from an allowed set to an allowed one.
use Rattle.std.proofs.Common.{ℕ, ◌≡◌, ◌⊎◌, inl, inr, List, [], ◌∷◌, Option, Some, None, true, false, Bool, cond, Contains, refl, ap, sym, subst, ◌∙◌}
use Rattle.std.specs.Prelude.{not, is_some}
use Rattle.std.specs.Ordering.{nat_cmp, eq_by_cmp}
use Rattle.std.specs.Cmp.Lexicographic.{slice_cmp, nat_list_cmp_total}
use Rattle.std.specs.Option.{option_map_or}
use Rattle.std.specs.FinMap as map
use Rattle.kern_model.specs.declared.object.Device.{Device}
use Rattle.kern_model.specs.declared.object.LinkKind.{LinkKind}
use Rattle.kern_model.specs.declared.object.LinkKind.TheVariants.{Bridge, Vlan}
use Rattle.kern_model.specs.declared.object.Object.{Object}
use Rattle.kern_model.specs.declared.object.Object.TheVariants as object
use Rattle.kern_model.specs.declared.object.DevEvent.{DevEvent}
use Rattle.kern_model.specs.declared.object.DevEvent.TheVariants as event
use Rattle.kern_model.specs.ObjectOrder.{Objects, Has}
use Rattle.kern_model.specs.Standing.{places_of, is_over, stands_on, gone}
use Rattle.kern_model.specs.Kernel.{Devices, is_present, Exists, MayHappen, with_carrier, after_event, objects_after_event}
use Rattle.kern_model.specs.Allowed.{HasSupport, AreAllowed}
use Rattle.kern_model.proofs.MemberLemmas.{here, there, none_in_nil}
use Rattle.kern_model.proofs.SetLemmas.{has_retained, of_retained}
use Rattle.kern_model.proofs.TestLemmas.{not_true, of_not, false_of_not, bytes_same, from_any, of_any}
use Rattle.kern_model.proofs.FindLemmas.{name_test}
use Rattle.kern_model.proofs.StandingLemmas.{over_itself, over_on, over_lower}
use Rattle.kern_model.proofs.GoneLemmas.{over_more}
use Rattle.kern_model.proofs.KeepLemmas.{only_one, place_exists}

-- present devices
present_cases : (b : Bool) (d : Device) (rest : Option Device) → is_some (cond b (Some d) rest) ≡ true → (b ≡ true) ⊎ (is_some rest ≡ true)
present_cases true d rest h = inl refl
present_cases false d rest h = inr h

present_both : (b : Bool) (d : Device) (rest : Option Device) → is_some rest ≡ true → is_some (cond b (Some d) rest) ≡ true
present_both true d rest h = refl
present_both false d rest h = h

absent_if : (b : Bool) (rest : Option Device) → is_some rest ≡ false → is_some (cond b None rest) ≡ false
absent_if true rest h = refl
absent_if false rest h = h

present_unless : (b : Bool) (rest : Option Device) → (b ≡ true → ⊥) → is_some rest ≡ true → is_some (cond b None rest) ≡ true
present_unless true rest other h = absurd (other refl)
present_unless false rest other h = h

module _ (devices : Devices) (name : List ℕ) where
  now_present : (d : Device) (n : List ℕ) → is_present (map.insert devices name d) n ≡ true → (n ≡ name) ⊎ (is_present devices n ≡ true)
  now_present d n h = elim (present_cases (eq_by_cmp (slice_cmp nat_cmp) n name) d (map.get devices n) (ap is_some (sym (map.get-insert nat_list_cmp_total devices name d n)) ∙ h)) as (λ _. (n ≡ name) ⊎ (is_present devices n ≡ true)) [
    | inl same ↦ inl (bytes_same n name (sym (name_test n name) ∙ same))
    | inr before ↦ inr before
  ]

  still_present : (d : Device) (n : List ℕ) → is_present devices n ≡ true → is_present (map.insert devices name d) n ≡ true
  still_present d n h = ap is_some (map.get-insert nat_list_cmp_total devices name d n) ∙ present_both (eq_by_cmp (slice_cmp nat_cmp) n name) d (map.get devices n) h

  still_absent : (n : List ℕ) → is_present devices n ≡ false → is_present (map.remove devices name) n ≡ false
  still_absent n h = ap is_some (map.get-remove nat_list_cmp_total devices name n) ∙ absent_if (eq_by_cmp (slice_cmp nat_cmp) n name) (map.get devices n) h

  left_present : (n : List ℕ) → (n ≡ name → ⊥) → is_present devices n ≡ true → is_present (map.remove devices name) n ≡ true
  left_present n other h = ap is_some (map.get-remove nat_list_cmp_total devices name n) ∙ present_unless (eq_by_cmp (slice_cmp nat_cmp) n name) (map.get devices n) (λ same. other (bytes_same n name (sym (name_test n name) ∙ same))) h

-- where more devices are present, but none of a link's name, the set stays allowed
module _ (devices more : Devices) (objects : Objects) (allowed : AreAllowed devices objects)
    (still : (n : List ℕ) → is_present devices n ≡ true → is_present more n ≡ true)
    (no_link : (n : List ℕ) (kind : LinkKind) → Has objects (object.Link n kind) → is_present devices n ≡ false → is_present more n ≡ false) where
  exists_more : (n : List ℕ) → Exists devices objects n → Exists more objects n
  exists_more n e = elim e as (λ _. Exists more objects n) [ inl present ↦ inl (still n present) | inr link ↦ inr link ]

  more_supported : (x : Object) → Has objects x → HasSupport more objects x
  more_supported (object.Link n (Bridge mac filtering)) h = no_link n (Bridge mac filtering) h (allowed.supported (object.Link n (Bridge mac filtering)) h)
  more_supported (object.Link n (Vlan lower id mac)) h =
      let support = allowed.supported (object.Link n (Vlan lower id mac)) h in
      let v = support.1 in
      (no_link n (Vlan lower id mac) h support.0, record { stands = exists_more lower v.stands; least = v.least; most = v.most; grounded = v.grounded })
  more_supported (object.Mtu n mtu) h = exists_more n (allowed.supported (object.Mtu n mtu) h)
  more_supported (object.Mac n mac) h = still n (allowed.supported (object.Mac n mac) h)
  more_supported (object.Master port bridge) h =
      let support = allowed.supported (object.Master port bridge) h in
      record { stands = exists_more port support.stands; plain = support.plain; made = support.made }
  more_supported (object.Vlan bridge port id pvid untagged) h = allowed.supported (object.Vlan bridge port id pvid untagged) h
  more_supported (object.Up n) h = let support = allowed.supported (object.Up n) h in (exists_more n support.0, support.1)
  more_supported (object.Address dev cidr) h = allowed.supported (object.Address dev cidr) h
  more_supported (object.Route r) h = allowed.supported (object.Route r) h

  more_allowed : AreAllowed more objects
  more_allowed = record { supported = more_supported; apart = allowed.apart }

-- a device leaves
module _ (devices : Devices) (objects : Objects) (allowed : AreAllowed devices objects) (name : List ℕ) where
  was_held : (x : Object) → Has (gone objects name) x → Has objects x
  was_held x h = (of_retained objects (λ o. not (stands_on objects name o)) x h).0

  -- what is left is at no name over the one that left
  off : (x : Object) (place : List ℕ) → Has (gone objects name) x → Contains (places_of x) place → is_over objects name place ≡ true → ⊥
  off x place h at over = not_true (stands_on objects name x) (of_retained objects (λ o. not (stands_on objects name o)) x h).1 (of_any (is_over objects name) (places_of x) place at over)

  left : (x : Object) → Has objects x → ((place : List ℕ) → Contains (places_of x) place → is_over objects name place ≡ true → ⊥) → Has (gone objects name) x
  left x h none = has_retained objects (λ o. not (stands_on objects name o)) x h
      (of_not (stands_on objects name x) (λ stands. let found = from_any (is_over objects name) (places_of x) stands in none found.passing found.member found.passes))

  link_left : (n : List ℕ) (kind : LinkKind) → (is_over objects name n ≡ true → ⊥) → Has objects (object.Link n kind) → Has (gone objects name) (object.Link n kind)
  link_left n (Bridge mac filtering) apart h = left (object.Link n (Bridge mac filtering)) h (λ place at over. none_in_nil place at)
  link_left n (Vlan lower id mac) apart h = left (object.Link n (Vlan lower id mac)) h
      (λ place at over. apart (over_on objects name lower n (subst (λ l. is_over objects name l ≡ true) (sym (only_one lower place at)) over) (over_lower objects n lower id mac h)))

  up_left : (n : List ℕ) → (is_over objects name n ≡ true → ⊥) → Has objects (object.Up n) → Has (gone objects name) (object.Up n)
  up_left n apart h = left (object.Up n) h (λ place at over. apart (subst (λ l. is_over objects name l ≡ true) (sym (only_one n place at)) over))

  other_present : (n : List ℕ) → (is_over objects name n ≡ true → ⊥) → is_present devices n ≡ true → is_present (map.remove devices name) n ≡ true
  other_present n apart h = left_present devices name n (λ same. apart (subst (λ m. is_over objects name m ≡ true) (sym same) (over_itself objects name))) h

  place_left : (x : Object) (place : List ℕ) → Has (gone objects name) x → Contains (places_of x) place → Exists (map.remove devices name) (gone objects name) place
  place_left x place h at =
      let apart = off x place h at in
      elim (place_exists devices objects allowed x place (was_held x h) at) as (λ _. Exists (map.remove devices name) (gone objects name) place) [
        | inl present ↦ inl (other_present place apart present)
        | inr link ↦ inr (link.0, link_left place link.0 apart link.1)
      ]

  left_supported : (x : Object) → Has (gone objects name) x → HasSupport (map.remove devices name) (gone objects name) x
  left_supported (object.Link n (Bridge mac filtering)) h = still_absent devices name n (allowed.supported (object.Link n (Bridge mac filtering)) (was_held (object.Link n (Bridge mac filtering)) h))
  left_supported (object.Link n (Vlan lower id mac)) h =
      let x = object.Link n (Vlan lower id mac) in
      let support = allowed.supported (object.Link n (Vlan lower id mac)) (was_held x h) in
      let v = support.1 in (
        still_absent devices name n support.0,
        record {
          stands = place_left x lower h (here lower []);
          least = v.least;
          most = v.most;
          grounded = λ over. v.grounded (over_more (gone objects name) objects was_held n lower over);
        },
      )
  left_supported (object.Mtu n mtu) h = place_left (object.Mtu n mtu) n h (here n [])
  left_supported (object.Mac n mac) h = let x = object.Mac n mac in other_present n (off x n h (here n [])) (allowed.supported (object.Mac n mac) (was_held x h))
  left_supported (object.Master port bridge) h =
      let x = object.Master port bridge in
      let support = allowed.supported (object.Master port bridge) (was_held x h) in
      let made = support.made in
      record {
        stands = place_left x port h (here port (bridge ∷ []));
        plain = λ b. support.plain (record { mac = b.mac; filtering = b.filtering; held = was_held (object.Link port (Bridge b.mac b.filtering)) b.held });
        made = record { mac = made.mac; filtering = made.filtering; held = link_left bridge (Bridge made.mac made.filtering) (off x bridge h (there port (bridge ∷ []) bridge (here bridge []))) made.held };
      }
  left_supported (object.Vlan bridge port id pvid untagged) h =
      let x = object.Vlan bridge port id pvid untagged in
      let support = allowed.supported (object.Vlan bridge port id pvid untagged) (was_held x h) in
      let made = support.filtering in
      record {
        filtering = record { mac = made.mac; held = link_left bridge (Bridge made.mac true) (off x bridge h (there port (bridge ∷ []) bridge (here bridge []))) made.held };
        joined = elim support.joined as (λ _. (port ≡ bridge) ⊎ Has (gone objects name) (object.Master port bridge)) [
          | inl itself ↦ inl itself
          | inr master ↦ inr (left (object.Master port bridge) master (λ place at over. off x place h at over))
        ];
      }
  left_supported (object.Up n) h =
      let x = object.Up n in
      let support = allowed.supported (object.Up n) (was_held x h) in (
        place_left x n h (here n []),
        λ lower id mac link.
            let v = object.Link n (Vlan lower id mac) in
            up_left lower (off v lower link (here lower [])) (support.1 lower id mac (was_held v link)),
      )
  left_supported (object.Address dev cidr) h =
      let x = object.Address dev cidr in
      up_left dev (off x dev h (here dev [])) (allowed.supported (object.Address dev cidr) (was_held x h))
  left_supported (object.Route r) h =
      let x = object.Route r in
      up_left r.dev (off x r.dev h (here r.dev [])) (allowed.supported (object.Route r) (was_held x h))

  left_allowed : AreAllowed (map.remove devices name) (gone objects name)
  left_allowed = record { supported = left_supported; apart = λ a b h g excluded. allowed.apart a b (was_held a h) (was_held b g) excluded }

-- a device tells of its carrier
carrier_allowed : (devices : Devices) (objects : Objects) (name : List ℕ) (on : Bool) (found : Option Device) → map.get devices name ≡ found → AreAllowed devices objects
    → AreAllowed (option_map_or (λ device. map.insert devices name (with_carrier on device)) found devices) objects
carrier_allowed devices objects name on None got allowed = allowed
carrier_allowed devices objects name on (Some d) got allowed =
    more_allowed devices (map.insert devices name (with_carrier on d)) objects allowed (still_present devices name (with_carrier on d))
    (λ n kind h absent. false_of_not (is_present (map.insert devices name (with_carrier on d)) n) (λ present. elim (now_present devices name (with_carrier on d) n present) as (λ _. ⊥) [
      | inl same ↦ let had : is_present devices n ≡ true = ap (is_present devices) same ∙ ap is_some got in cc (had, absent)
      | inr before ↦ cc (before, absent)
    ]))

pub events_keep : (devices : Devices) (objects : Objects) (e : DevEvent) → AreAllowed devices objects → MayHappen devices objects e → AreAllowed (after_event devices e) (objects_after_event objects e)
events_keep devices objects (event.Add name carrier mtu mac) allowed may =
    let d : Device = record { carrier = carrier; mtu = mtu; mac = mac } in
    more_allowed devices (map.insert devices name d) objects allowed (still_present devices name d)
    (λ n kind h absent. false_of_not (is_present (map.insert devices name d) n) (λ present. elim (now_present devices name d n present) as (λ _. ⊥) [
      | inl same ↦ may (inr (kind, subst (λ m. Has objects (object.Link m kind)) same h))
      | inr before ↦ cc (before, absent)
    ]))
events_keep devices objects (event.Remove name) allowed may = left_allowed devices objects allowed name
events_keep devices objects (event.Carrier name on) allowed may = carrier_allowed devices objects name on (map.get devices name) refl allowed
