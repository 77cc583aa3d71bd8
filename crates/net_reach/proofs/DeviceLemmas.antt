-- A device that comes behind the present ones.
use Rattle.std.proofs.Common.{◌≡◌, ℕ, List, [], ◌∷◌, ◌++◌, length, map, cond, Option, Some, None, Result, Ok, Err, OnErr, sym, ap, ◌∙◌, bytes_eq}
use Rattle.std.specs.Ordering.{nat_cmp}
use Rattle.std.specs.Cmp.Lexicographic.{slice_cmp}
use Rattle.std.specs.BTreeMap.{BTreeMap, is_at}
use Rattle.std.specs.Map.{lookup}
use Rattle.std.proofs.lemmas.List.{map-append, length-map}
use Rattle.kern_model.specs.declared.object.Device.{Device}
use Rattle.uci_tree.specs.Index.{first_place, HasNoted}
use Rattle.uci_tree.proofs.SectionLemmas.{position-push}
use Rattle.net_rules.specs.declared.inputs.Inputs.{Inputs}
use Rattle.net_view.specs.Places.{place_of, HasPlaces}
use Rattle.net_reach.specs.Reach.{IsReachOf}
use Rattle.net_reach.specs.declared.reach.Reach.{Reach}

-- what follows from a fact at Err holds at Err
pub on_err_then : {X E P Q : Type 0} (r : Result X E) → (P → Q) → OnErr r P → OnErr r Q
on_err_then (Ok x) then p = tt
on_err_then (Err e) then p = then p

places_behind : (old new : BTreeMap (List ℕ) ℕ) (devices : List (List ℕ × Device)) (name : List ℕ) (device : Device) (place : ℕ) → HasPlaces old (map (λ (e : List ℕ × Device). e.0) devices) → place ≡ length devices
    → HasNoted old new name place → HasPlaces new (map (λ (e : List ℕ × Device). e.0) (devices ++ (name, device) ∷ []))
places_behind old new devices name device place has at noted other =
    let names : List (List ℕ) = map (λ (e : List ℕ × Device). e.0) devices in
    noted other
    ∙ ap (λ (z : Option ℕ). first_place z (cond {A = Option ℕ} (bytes_eq name other) (Some place) None)) (has other)
    ∙ ap (λ (z : ℕ). first_place (place_of names other) (cond {A = Option ℕ} (bytes_eq name other) (Some z) None)) (at ∙ sym (length-map devices (λ (e : List ℕ × Device). e.0)))
    ∙ sym (ap (λ (z : List (List ℕ)). place_of z other) (map-append (λ (e : List ℕ × Device). e.0) devices ((name, device) ∷ [])) ∙ position-push (λ title. bytes_eq title other) names name)

pub device_comes : (inputs : Inputs) (reach : Reach) (devices : BTreeMap (List ℕ) ℕ) (name : List ℕ) (device : Device) (place : ℕ) → IsReachOf inputs reach → place ≡ length inputs.devices → HasNoted reach.devices devices name place
    → IsReachOf (record inputs { devices = inputs.devices ++ (name, device) ∷ [] }) (record reach { devices = devices })
device_comes inputs reach devices name device place is at noted = record {
  interfaces = is.interfaces;
  radios = is.radios;
  devices = places_behind reach.devices devices inputs.devices name device place is.devices at noted;
  rows = is.rows;
  names = is.names;
  above = is.above;
  at_device = is.at_device;
  at_l3_device = is.at_l3_device;
  routes = is.routes;
  row_room = is.row_room;
  place_room = is.place_room;
}

pub devices_stay : (inputs : Inputs) (reach : Reach) (devices : BTreeMap (List ℕ) ℕ) → IsReachOf inputs reach → devices.entries ≡ reach.devices.entries → IsReachOf inputs (record reach { devices = devices })
devices_stay inputs reach devices is same = record {
  interfaces = is.interfaces;
  radios = is.radios;
  devices = λ name. ap (λ (z : List (List ℕ × ℕ)). lookup (is_at (slice_cmp nat_cmp name)) z) same ∙ is.devices name;
  rows = is.rows;
  names = is.names;
  above = is.above;
  at_device = is.at_device;
  at_l3_device = is.at_l3_device;
  routes = is.routes;
  row_room = is.row_room;
  place_room = is.place_room;
}
