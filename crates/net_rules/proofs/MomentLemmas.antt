-- What events make of the rows and devices of inputs.
use Rattle.std.proofs.Common.{◌≡◌, ℕ, List, [], ◌∷◌, ◌++◌, map, Bool, true, false, cond, Option, Some, None, refl, ap, sym, ◌∙◌}
use Rattle.std.specs.Prelude.{bytes_eq}
use Rattle.std.specs.List.{find}
use Rattle.std.specs.Option.{option_map, option_map_or}
use Rattle.std.specs.Ordering.{nat_cmp, eq_by_cmp}
use Rattle.std.specs.Cmp.Lexicographic.{slice_cmp, nat_list_cmp_total}
use Rattle.std.specs.FinMap.{IsAntisymmetric, nat_cmp-IsAntisymmetric, slice_cmp-IsAntisymmetric}
use Rattle.std.specs.FinMap as map
use Rattle.kern_model.specs.declared.object.Device.{Device}
use Rattle.kern_model.specs.declared.object.DevEvent.{DevEvent}
use Rattle.kern_model.specs.declared.object.DevEvent.TheVariants as device
use Rattle.kern_model.specs.Kernel.{Devices, map_of, with_carrier, after_event}
use Rattle.kern_model.proofs.FindLemmas.{first_of, name_test}
use Rattle.kern_model.proofs.TestLemmas.{bytes_same}
use Rattle.net_rows.specs.declared.rows.Conf.{Conf}
use Rattle.net_rules.specs.declared.inputs.Inputs.{Inputs}
use Rattle.net_rules.specs.declared.event.Event.{Event}
use Rattle.net_rules.specs.declared.event.Event.TheVariants as event
use Rattle.net_rules.specs.Inputs.{device_in}
use Rattle.net_rules.specs.After.{without_device, carrier_set, devices_after, after}
use Rattle.net_rules.proofs.TableLemmas.{either_way, found_in, first_some, no_value, found_behind, found_without, found_mapped, found_member}

names_apart : IsAntisymmetric (slice_cmp nat_cmp)
names_apart = slice_cmp-IsAntisymmetric nat_cmp-IsAntisymmetric

-- the devices of a list, looked up by name, are those of its map
in_step : (b d : Bool) (e : List ℕ × Device) (o : Option (List ℕ × Device)) (p : Option Device) → b ≡ d → option_map (λ x. x.1) o ≡ p → option_map (λ x. x.1) (cond b (Some e) o) ≡ cond d (Some e.1) p
in_step true true e o p same rest = refl
in_step true false e o p same rest = cc same
in_step false true e o p same rest = cc same
in_step false false e o p same rest = rest

in_first : (es : List (List ℕ × Device)) (name : List ℕ) → device_in es name ≡ first_of name es
in_first [] name = refl
in_first (e ∷ es) name = in_step (bytes_eq e.0 name) (eq_by_cmp (slice_cmp nat_cmp) name e.0) e (find (λ x. bytes_eq x.0 name) es) (first_of name es) (either_way e.0 name ∙ sym (name_test name e.0)) (in_first es name)

pub device_of_map : (es : List (List ℕ × Device)) (name : List ℕ) → device_in es name ≡ map.get (map_of es) name
device_of_map es name = in_first es name ∙ sym (map.get-from_entries nat_list_cmp_total es name)

abbrev entry_key : List ℕ × Device → List ℕ
entry_key e = e.0

-- without a device
none_mapped : (b : Bool) (o : Option (List ℕ × Device)) → option_map (λ x. x.1) (cond b None o) ≡ cond b None (option_map (λ x. x.1) o)
none_mapped true o = refl
none_mapped false o = refl

gone_in : (name : List ℕ) (es : List (List ℕ × Device)) (q : List ℕ) → device_in (without_device name es) q ≡ cond (bytes_eq name q) None (device_in es q)
gone_in name es q = ap (option_map (λ x. x.1)) (found_without entry_key name es q) ∙ none_mapped (bytes_eq name q) (found_in entry_key es q)

-- with one more
more_step : (b : Bool) (o : Option (List ℕ × Device)) (name : List ℕ) (d : Device) → option_map (λ x. x.1) (first_some (cond b None o) (cond b (Some (name, d)) None)) ≡ cond b (Some d) (option_map (λ x. x.1) o)
more_step true o name d = refl
more_step false None name d = refl
more_step false (Some e) name d = refl

pub come_in : (name : List ℕ) (d : Device) (es : List (List ℕ × Device)) (q : List ℕ) → device_in (without_device name es ++ (name, d) ∷ []) q ≡ cond (bytes_eq name q) (Some d) (device_in es q)
come_in name d es q =
    ap (option_map (λ x. x.1)) (found_behind entry_key (without_device name es) ((name, d) ∷ []) q
    ∙ ap (λ o. first_some o (found_in entry_key ((name, d) ∷ []) q)) (found_without entry_key name es q))
    ∙ more_step (bytes_eq name q) (found_in entry_key es q) name d

-- with another carrier
set_keeps : (name : List ℕ) (on : Bool) (e : List ℕ × Device) → (carrier_set name on e).0 ≡ e.0
set_keeps name on e = keeps (bytes_eq e.0 name)
  where
    keeps : (b : Bool) → (cond b (e.0, with_carrier on e.1) e).0 ≡ e.0
    keeps true = refl
    keeps false = refl

set_step : (name q : List ℕ) (on : Bool) (o : Option (List ℕ × Device)) → ((e : List ℕ × Device) → o ≡ Some e → e.0 ≡ q) → option_map (λ x. x.1) (option_map (carrier_set name on) o)
    ≡ cond (bytes_eq name q) (option_map (with_carrier on) (option_map (λ x. x.1) o)) (option_map (λ x. x.1) o)
set_step name q on None at = no_value Device (bytes_eq name q)
set_step name q on (Some e) at = some_set (bytes_eq e.0 name) (bytes_eq name q) (ap (λ k. bytes_eq k name) (at e refl) ∙ either_way q name)
  where
    some_set : (b d : Bool) → b ≡ d → Some (cond b (e.0, with_carrier on e.1) e).1 ≡ cond d (Some (with_carrier on e.1)) (Some e.1)
    some_set true true same = refl
    some_set true false same = cc same
    some_set false true same = cc same
    some_set false false same = refl

set_in : (name : List ℕ) (on : Bool) (es : List (List ℕ × Device)) (q : List ℕ) → device_in (map (carrier_set name on) es) q ≡ cond (bytes_eq name q) (option_map (with_carrier on) (device_in es q)) (device_in es q)
set_in name on es q =
    ap (option_map (λ x. x.1)) (found_mapped entry_key (carrier_set name on) (set_keeps name on) es q)
    ∙ set_step name q on (found_in entry_key es q) (λ e is. (found_member entry_key es q e is).same)

-- by the kernel's words
pub devices_follow : (es : List (List ℕ × Device)) (what : DevEvent) → map_of (devices_after es what) ≡ after_event (map_of es) what
devices_follow es (device.Add name carrier mtu mac) =
    let d : Device = record { carrier = carrier; mtu = mtu; mac = mac } in
    map.same_map nat_list_cmp_total names_apart (map_of (without_device name es ++ (name, d) ∷ [])) (map.insert (map_of es) name d) (λ q.
    sym (device_of_map (without_device name es ++ (name, d) ∷ []) q) ∙ come_in name d es q
    ∙ ap (cond (bytes_eq name q) (Some d)) (device_of_map es q)
    ∙ ap (λ b. cond b (Some d) (map.get (map_of es) q)) (either_way name q ∙ sym (name_test q name))
    ∙ sym (map.get-insert nat_list_cmp_total (map_of es) name d q))
devices_follow es (device.Remove name) =
    map.same_map nat_list_cmp_total names_apart (map_of (without_device name es)) (map.remove (map_of es) name) (λ q.
    sym (device_of_map (without_device name es) q) ∙ gone_in name es q
    ∙ ap (cond (bytes_eq name q) None) (device_of_map es q)
    ∙ ap (λ b. cond b None (map.get (map_of es) q)) (either_way name q ∙ sym (name_test q name))
    ∙ sym (map.get-remove nat_list_cmp_total (map_of es) name q))
devices_follow es (device.Carrier name on) =
    map.same_map nat_list_cmp_total names_apart (map_of (map (carrier_set name on) es)) (after_event (map_of es) (device.Carrier name on)) (λ q.
    sym (device_of_map (map (carrier_set name on) es) q) ∙ set_in name on es q
    ∙ ap (λ o. cond (bytes_eq name q) (option_map (with_carrier on) o) o) (device_of_map es q)
    ∙ set_map (map_of es) name on q)
  where
    set_found : (m : Devices) (name : List ℕ) (on : Bool) (q : List ℕ) (at : Option Device) → map.get m name ≡ at → (b : Bool) → bytes_eq name q ≡ b → cond b (option_map (with_carrier on) (map.get m q)) (map.get m q)
        ≡ map.get (option_map_or (λ d. map.insert m name (with_carrier on d)) at m) q
    set_found m name on q None is true same = let names : name ≡ q = bytes_same name q same in let none : map.get m q ≡ None = ap (map.get m) (sym names) ∙ is in ap (option_map (with_carrier on)) none ∙ sym none
    set_found m name on q None is false same = refl
    set_found m name on q (Some d) is true same =
        let names : name ≡ q = bytes_same name q same in
        let some : map.get m q ≡ Some d = ap (map.get m) (sym names) ∙ is in
        ap (option_map (with_carrier on)) some ∙ sym (map.get-insert nat_list_cmp_total m name (with_carrier on d) q ∙ ap (λ b. cond b (Some (with_carrier on d)) (map.get m q)) (name_test q name ∙ either_way q name ∙ same))
    set_found m name on q (Some d) is false same = sym (map.get-insert nat_list_cmp_total m name (with_carrier on d) q ∙ ap (λ b. cond b (Some (with_carrier on d)) (map.get m q)) (name_test q name ∙ either_way q name ∙ same))

    set_map : (m : Devices) (name : List ℕ) (on : Bool) (q : List ℕ) → cond (bytes_eq name q) (option_map (with_carrier on) (map.get m q)) (map.get m q) ≡ map.get (after_event m (device.Carrier name on)) q
    set_map m name on q = set_found m name on q (map.get m name) refl (bytes_eq name q) refl

-- the fields that the steps of requests leave
abbrev pub conf_after : Inputs → Event → Conf
conf_after inputs (event.Load conf) = conf
conf_after inputs _ = inputs.conf

pub conf_follows : (inputs : Inputs) (event : Event) → (after inputs event).conf ≡ conf_after inputs event
unfolding after
conf_follows inputs (event.Load conf) = refl
conf_follows inputs (event.Device what) = refl
conf_follows inputs (event.Operator interface up) = refl
conf_follows inputs (event.Answer interface number answer) = refl
conf_follows inputs (event.Radio radio number ports) = refl

abbrev pub present_after : Inputs → Event → List (List ℕ × Device)
present_after inputs (event.Device what) = devices_after inputs.devices what
present_after inputs _ = inputs.devices

pub present_follows : (inputs : Inputs) (event : Event) → (after inputs event).devices ≡ present_after inputs event
unfolding after
present_follows inputs (event.Load conf) = refl
present_follows inputs (event.Device what) = refl
present_follows inputs (event.Operator interface up) = refl
present_follows inputs (event.Answer interface number answer) = refl
present_follows inputs (event.Radio radio number ports) = refl
