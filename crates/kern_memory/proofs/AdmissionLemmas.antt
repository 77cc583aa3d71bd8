-- What a kernel admits depends on no devices but those of two names.
use Rattle.std.proofs.Common.{◌≡◌, ◌↔◌, IsTrue, inl, inr, ℕ, List, [], ◌∷◌, Option, Some, None, true, false, Bool, cond, bytes_eq, is_some, replicate, refl, ap, sym, subst, ◌∙◌}
use Rattle.std.specs.FinMap as map
use Rattle.std.specs.Map.{lookup}
use Rattle.std.specs.Option.{option_map_or}
use Rattle.kern_model.specs.declared.object.Device.{Device}
use Rattle.kern_model.specs.declared.object.LinkKind.TheVariants.{Bridge, Vlan}
use Rattle.kern_model.specs.declared.object.Object.{Object}
use Rattle.kern_model.specs.declared.object.Object.TheVariants as object
use Rattle.kern_model.specs.declared.object.Call.{Call}
use Rattle.kern_model.specs.declared.object.Call.TheVariants.{Put, Take}
use Rattle.kern_model.specs.declared.object.DevEvent.{DevEvent}
use Rattle.kern_model.specs.declared.object.DevEvent.TheVariants as event
use Rattle.kern_model.specs.ObjectOrder.{Objects}
use Rattle.kern_model.specs.Kernel.{Devices, map_of, Exists, MayHappen, name_of, object_of}
use Rattle.kern_model.specs.Admission.{AdmitsPut, Admits}
use Rattle.kern_model.proofs.TestLemmas.{bytes_same, same_bytes}
use Rattle.kern_memory.specs.Tables.{lower_of, name_in}
use Rattle.kern_memory.proofs.DeviceLemmas.{looked}

-- both have the same device of that name
abbrev pub AreAlike : Devices → Devices → List ℕ → Type 0
AreAlike a b name = map.get a name ≡ map.get b name

exists_alike : (a b : Devices) (s : Objects) (name : List ℕ) → AreAlike a b name → Exists a s name → Exists b s name
exists_alike a b s name alike (inl present) = inl (sym (ap is_some alike) ∙ present)
exists_alike a b s name alike (inr held) = inr held

put_alike : (a b : Devices) (s : Objects) (o : Object) → AreAlike a b (name_of o) → AreAlike a b (lower_of o) → AdmitsPut a s o → AdmitsPut b s o
put_alike a b s (object.Link name (Bridge mac filtering)) named lower h = (λ exists. h.0 (exists_alike b a s name (sym named) exists), h.1)
put_alike a b s (object.Link name (Vlan under id mac)) named lower h =
    (λ exists. h.0 (exists_alike b a s name (sym named) exists), record { stands = exists_alike a b s under lower h.1.stands; least = h.1.least; most = h.1.most; free = h.1.free })
put_alike a b s (object.Mtu name mtu) named lower h = exists_alike a b s name named h
put_alike a b s (object.Mac name mac) named lower h = sym (ap is_some named) ∙ h
put_alike a b s (object.Master port bridge) named lower h = record { stands = exists_alike a b s port named h.stands; plain = h.plain; made = h.made; free = h.free }
put_alike a b s (object.Vlan bridge port id pvid untagged) named lower h = h
put_alike a b s (object.Up name) named lower h = (exists_alike a b s name named h.0, h.1)
put_alike a b s (object.Address dev cidr) named lower h = h
put_alike a b s (object.Route r) named lower h = h

pub admits_alike : (a b : Devices) (s : Objects) (call : Call) → AreAlike a b (name_of (object_of call)) → AreAlike a b (lower_of (object_of call)) → Admits a s call → Admits b s call
admits_alike a b s (Put o) named lower h = (h.0, put_alike a b s o named lower h.1)
admits_alike a b s (Take o mtu mac) named lower h =
    (h.0, h.1, record { mtu_own = subst (λ d. mtu ≡ option_map_or (λ device. device.mtu) d 1500) named h.2.mtu_own; mac_own = subst (λ d. mac ≡ option_map_or (λ device. device.mac) d (record { 0 = replicate 6 0 })) named h.2.mac_own })

pub may_alike : (a b : Devices) (s : Objects) (happens : DevEvent) → AreAlike a b (name_in happens) → MayHappen a s happens → MayHappen b s happens
may_alike a b s (event.Add name carrier mtu mac) named h = λ exists. h (exists_alike b a s name (sym named) exists)
may_alike a b s (event.Remove name) named h = sym (ap is_some named) ∙ h
may_alike a b s (event.Carrier name on) named h = sym (ap is_some named) ∙ h

-- lists of the devices of one name or two
itself : (name : List ℕ) (d : Device) (rest : Option Device) → cond (bytes_eq name name) (Some d) rest ≡ Some d
itself name d rest = ap (λ b. cond b (Some d) rest) (same_bytes name name refl)

pub none_found : (devices : Devices) (name : List ℕ) → map.get devices name ≡ None → AreAlike devices (map_of []) name
none_found devices name at = at ∙ sym (looked [] name)

-- what a list of the device of a name says of another name
either_found : (devices : Devices) (name other : List ℕ) (d : Device) (rest : List (List ℕ × Device)) → map.get devices name ≡ Some d → map.get devices other ≡ lookup (bytes_eq other) rest → (b : Bool) → bytes_eq other name ≡ b
    → map.get devices other ≡ cond b (Some d) (lookup (bytes_eq other) rest)
either_found devices name other d rest at after true is = ap (map.get devices) (bytes_same other name is) ∙ at
either_found devices name other d rest at after false is = after

pub other_found : (devices : Devices) (name other : List ℕ) (d : Device) (rest : List (List ℕ × Device)) → map.get devices name ≡ Some d → AreAlike devices (map_of rest) other → AreAlike devices (map_of ((name, d) ∷ rest)) other
other_found devices name other d rest at after = either_found devices name other d rest at (after ∙ looked rest other) (bytes_eq other name) refl ∙ sym (looked ((name, d) ∷ rest) other)

pub first_found : (devices : Devices) (name : List ℕ) (d : Device) (rest : List (List ℕ × Device)) → map.get devices name ≡ Some d → AreAlike devices (map_of ((name, d) ∷ rest)) name
first_found devices name d rest at = at ∙ sym (itself name d (lookup (bytes_eq name) rest)) ∙ sym (looked ((name, d) ∷ rest) name)

-- where a list has what there is of the names that matter, it is judged by it
pub admits_by : (devices few : Devices) (s held : Objects) (call : Call) (o : Object) (name lower : List ℕ) (b : Bool) → o ≡ object_of call → name ≡ name_of o → lower ≡ lower_of o → held ≡ s → AreAlike devices few name
    → AreAlike devices few lower → (IsTrue b ↔ Admits few held call) → IsTrue b ↔ Admits devices s call
admits_by devices few s held call o name lower b of named under is first second judged =
    let at = subst (AreAlike devices few) (named ∙ ap name_of of) first in
    let below = subst (AreAlike devices few) (under ∙ ap lower_of of) second in
    (λ h. subst (λ t. Admits devices t call) is (admits_alike few devices held call (sym at) (sym below) (judged.0 h)), λ h. judged.1 (admits_alike devices few held call at below (subst (λ t. Admits devices t call) (sym is) h)))

pub may_by : (devices few : Devices) (s held : Objects) (happens : DevEvent) (name : List ℕ) (b : Bool) → name ≡ name_in happens → held ≡ s → AreAlike devices few name → (IsTrue b ↔ MayHappen few held happens)
    → IsTrue b ↔ MayHappen devices s happens
may_by devices few s held happens name b named is first judged =
    let at = subst (AreAlike devices few) named first in
    (λ h. subst (λ t. MayHappen devices t happens) is (may_alike few devices held happens (sym at) (judged.0 h)), λ h. judged.1 (may_alike devices few held happens at (subst (λ t. MayHappen devices t happens) (sym is) h)))
