-- A device that was not there comes, and goes again.
use Rattle.std.proofs.Common.{◌≡◌, ℕ, List, [], ◌∷◌, ◌++◌, map, Bool, true, false, cond, Contains, inl, inr, Option, Some, None, refl, sym, ap, subst, ◌∙◌, append-nil, bytes_eq}
use Rattle.std.specs.Prelude.{not}
use Rattle.std.proofs.lemmas.List.{map-append}
use Rattle.std.proofs.lemmas.List.Elements.{filter-append}
use Rattle.plane_words.specs.Distinct.{AreDistinct}
use Rattle.kern_model.specs.declared.object.Device.{Device}
use Rattle.kern_model.specs.declared.object.DevEvent.TheVariants as device
use Rattle.kern_model.specs.declared.object.Mac.{Mac}
use Rattle.kern_model.proofs.MemberLemmas.{first_or_later, none_in_nil}
use Rattle.kern_model.proofs.TestLemmas.{same_bytes}
use Rattle.net_rules.specs.declared.inputs.Inputs.{Inputs}
use Rattle.net_rules.specs.declared.event.Event.TheVariants as event
use Rattle.net_rules.specs.After.{without_device, changed}
use Rattle.net_view.specs.Places.{place_of}
use Rattle.known_inputs.specs.Known.{device_names}
use Rattle.known_inputs.proofs.NameLemmas.{distinct_pushed}
use Rattle.net_reach.proofs.GoneLemmas.{behind, place_cons, all_left}

pub comes_behind : (inputs : Inputs) (name : List ℕ) (carrier : Bool) (mtu : ℕ) (mac : Mac) → place_of (device_names inputs) name ≡ None → changed inputs (event.Device (device.Add name carrier mtu mac))
    ≡ record inputs { devices = inputs.devices ++ (name, record { carrier = carrier; mtu = mtu; mac = mac }) ∷ [] }
comes_behind inputs name carrier mtu mac none = ap (λ (es : List (List ℕ × Device)). record inputs { devices = es ++ (name, record { carrier = carrier; mtu = mtu; mac = mac }) ∷ [] }) (all_left name inputs.devices none)

absent_step : (n : List ℕ) (ns : List (List ℕ)) (name : List ℕ) (b : Bool) (o : Option ℕ) → bytes_eq n name ≡ b → place_of ns name ≡ o → (place_of ns name ≡ None → Contains ns name → ⊥) → behind b o ≡ None → Contains (n ∷ ns) name → ⊥
absent_step n ns name true o same is rest none inside = cc none
absent_step n ns name false (Some k) other is rest none inside = cc none
absent_step n ns name false None other is rest none inside = elim (first_or_later n ns name inside) as (λ _. ⊥) [
  | inl first ↦ let hit = same_bytes n name first in cc (other, hit)
  | inr later ↦ rest is later
]

absent : (ns : List (List ℕ)) (name : List ℕ) → place_of ns name ≡ None → Contains ns name → ⊥
absent [] name none inside = none_in_nil name inside
absent (n ∷ ns) name none inside = absent_step n ns name (bytes_eq n name) (place_of ns name) refl refl (absent ns name) (sym (place_cons n ns name) ∙ none) inside

pub still_once : (inputs : Inputs) (name : List ℕ) (device : Device) → AreDistinct (device_names inputs) → place_of (device_names inputs) name ≡ None → AreDistinct (map (λ (e : List ℕ × Device). e.0) (inputs.devices ++ (name, device) ∷ []))
still_once inputs name device once none =
    subst (λ (names : List (List ℕ)). AreDistinct names) (sym (map-append (λ (e : List ℕ × Device). e.0) inputs.devices ((name, device) ∷ [])))
    (distinct_pushed (device_names inputs) name once (absent (device_names inputs) name none))

pub gone_again : (inputs : Inputs) (name : List ℕ) (device : Device) → place_of (device_names inputs) name ≡ None → record inputs { devices = without_device name (inputs.devices ++ (name, device) ∷ []) } ≡ inputs
gone_again inputs name device none = ap (λ (es : List (List ℕ × Device)). record inputs { devices = es }) all
  where
    last : (b : Bool) → b ≡ true → inputs.devices ++ cond (not b) ((name, device) ∷ []) [] ≡ inputs.devices
    last true h = append-nil inputs.devices
    last false h = cc h

    all : without_device name (inputs.devices ++ (name, device) ∷ []) ≡ inputs.devices
    all =
        filter-append (λ (e : List ℕ × Device). not (bytes_eq e.0 name)) inputs.devices ((name, device) ∷ [])
        ∙ ap (λ (es : List (List ℕ × Device)). es ++ cond (not (bytes_eq name name)) ((name, device) ∷ []) []) (all_left name inputs.devices none)
        ∙ last (bytes_eq name name) (same_bytes name name refl)
