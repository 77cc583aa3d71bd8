-- What is shown has no fraction, so that its text is exact.
use Rattle.std.proofs.Common.{ℕ, ◌≡◌, List, [], ◌∷◌, ◌++◌, map, filter, Option, Some, None, refl, true, false, Bool, ◌∙◌, ap}
use Rattle.std.specs.Prelude.{◌||◌, if◌then◌else◌, not}
use Rattle.std.specs.Option.{option_map}
use Rattle.serde_json.specs.Data.{Data}
use Rattle.serde_json.specs.View.{items_of}
use Rattle.serde_json.specs.Written.{has_float, items_have_float}
use Rattle.net_addr.specs.declared.address.Addr.{Addr}
use Rattle.net_rows.specs.declared.rows.RowFault.{RowFault}
use Rattle.net_rows.specs.declared.rows.InterfaceRow.{InterfaceRow}
use Rattle.net_rows.specs.declared.rows.RadioRow.{RadioRow}
use Rattle.net_rules.specs.declared.answer.AnswerRoute.{AnswerRoute}
use Rattle.net_rules.specs.declared.inputs.Inputs.{Inputs}
use Rattle.net_rules.specs.declared.inputs.OpenRadio.{OpenRadio}
use Rattle.net_rules.specs.Facts.{Facts}
use Rattle.net_rules.specs.Rows.{row_at, interface_named, radio_named, interfaces_of}
use Rattle.net_rules.specs.Inputs.{facts_of, open_radio}
use Rattle.net_rules.specs.RadioPorts.{device_of}
use Rattle.net_status.specs.declared.given.Family.TheVariants as family
use Rattle.net_status.specs.Values.{text_or_null}
use Rattle.net_status.specs.Given.{address_item, addresses_of, route_item, routes_of, is_of_family}
use Rattle.net_status.specs.Faults.{fault_item, taken_item}
use Rattle.net_status.specs.Interfaces.{interface_shown, interface_status, l3_device_shown, dump}
use Rattle.net_status.specs.Devices.{device_shown, device_faults, vlan_faults, device_status, taken_items, is_taken, is_shown, is_of_value}
use Rattle.net_status.specs.Radios.{port_items, ports_told, shown_with, radio_shown, radio_status}

neither : (a b : Bool) → a ≡ false → b ≡ false → (a || b) ≡ false
neither a b x y = rw (x, y) refl

-- a text or null, and a list of values that have none
text_has_none : (o : Option (List ℕ)) → has_float (text_or_null o) ≡ false
text_has_none None = refl
text_has_none (Some bytes) = refl

items_have_none : {X : Type 0} (f : X → Data) → ((x : X) → has_float (f x) ≡ false) → (xs : List X)
    → items_have_float (items_of (map f xs)) ≡ false
items_have_none f h [] = refl
items_have_none f h (x ∷ xs) = neither _ _ (h x) (items_have_none f h xs)

left_of : (a b : Bool) → (a || b) ≡ false → a ≡ false
left_of false b h = refl
left_of true b h = absurd cc

right_of : (a b : Bool) → (a || b) ≡ false → b ≡ false
right_of false b h = h
right_of true b h = absurd cc

more_items : (xs ys : List Data) → items_have_float (items_of xs) ≡ false
    → items_have_float (items_of ys) ≡ false → items_have_float (items_of (xs ++ ys)) ≡ false
more_items [] ys p q = q
more_items (x ∷ xs) ys p q =
    neither _ _ (left_of (has_float x) (items_have_float (items_of xs)) p)
    (more_items xs ys (right_of (has_float x) (items_have_float (items_of xs)) p) q)

faults_have_none : (faults : List RowFault) → items_have_float (items_of (map fault_item faults)) ≡ false
faults_have_none faults = items_have_none fault_item (λ f. refl) faults

address_has_none : (cidr : Addr × ℕ) → has_float (address_item cidr) ≡ false
address_has_none cidr = refl

route_has_none : (route : AnswerRoute) → has_float (route_item route) ≡ false
route_has_none route = neither _ _ (text_has_none _) refl

pub interface_has_none : (inputs : Inputs) (row : InterfaceRow)
    → has_float (interface_shown inputs row) ≡ false
interface_has_none inputs row =
    let facts = facts_of inputs in
    neither _ _ (text_has_none (device_of facts row))
    (neither _ _ (faults_have_none row.faults)
    (neither _ _ (items_have_none address_item address_has_none
    (filter (λ cidr. is_of_family family.V4 cidr.0) (addresses_of facts row)))
    (neither _ _ (items_have_none address_item address_has_none
    (filter (λ cidr. is_of_family family.V6 cidr.0) (addresses_of facts row)))
    (neither _ _ (text_has_none (l3_device_shown facts row))
    (neither _ _ (items_have_none route_item route_has_none (routes_of facts row)) refl)))))

pub dump_has_none : (inputs : Inputs) → has_float (dump inputs) ≡ false
dump_has_none inputs =
    neither _ _ (items_have_none (interface_shown inputs) (interface_has_none inputs)
    (interfaces_of inputs.conf)) refl

taken_has_none : (b : Bool)
    → items_have_float (items_of (if b then taken_item ∷ [] else [])) ≡ false
taken_has_none true = refl
taken_has_none false = refl

own_have_none : (facts : Facts) (name : List ℕ) (faults : List RowFault)
    → items_have_float (items_of (device_faults facts name faults)) ≡ false
own_have_none facts name faults =
    let of_values = filter (λ (found : RowFault). is_of_value found.name) faults in
    let of_others = filter (λ (found : RowFault). not (is_of_value found.name)) faults in
    more_items (map fault_item of_others) (taken_items facts name ++ map fault_item of_values)
    (faults_have_none of_others)
    (more_items (taken_items facts name) (map fault_item of_values)
    (taken_has_none (is_taken facts name)) (faults_have_none of_values))

pub device_has_none : (facts : Facts) (name : List ℕ) → has_float (device_shown facts name) ≡ false
device_has_none facts name =
    let faults = (row_at facts.conf.names name).faults in
    neither _ _ (more_items (device_faults facts name faults) (map fault_item (vlan_faults facts name))
    (own_have_none facts name faults) (faults_have_none (vlan_faults facts name))) refl

ports_have_none : (o : Option (List (Option (List ℕ)))) → items_have_float (items_of (port_items o)) ≡ false
ports_have_none None = refl
ports_have_none (Some ports) = items_have_none text_or_null text_has_none ports

shown_has_none : (o : Option OpenRadio) (row : RadioRow) → has_float (shown_with o row) ≡ false
shown_has_none o row =
    neither _ _ (faults_have_none row.faults) (neither _ _ (ports_have_none (ports_told o)) refl)

pub radio_has_none : (inputs : Inputs) (row : RadioRow) → has_float (radio_shown inputs row) ≡ false
radio_has_none inputs row = shown_has_none (open_radio inputs.radios row.name) row

-- what is shown, if it is
of_option : {X : Type 0} (f : X → Data) → ((x : X) → has_float (f x) ≡ false) → (o : Option X)
    (d : Data) → Some d ≡ option_map f o → has_float d ≡ false
of_option f h None d is = absurd (cc is)
of_option f h (Some x) d is = let same : d ≡ f x = cc is in ap has_float same ∙ h x

pub interface_status_has_none : (inputs : Inputs) (name : List ℕ) (d : Data)
    → Some d ≡ interface_status inputs name → has_float d ≡ false
interface_status_has_none inputs name =
    of_option (interface_shown inputs) (interface_has_none inputs) (interface_named inputs.conf name)

pub radio_status_has_none : (inputs : Inputs) (name : List ℕ) (d : Data)
    → Some d ≡ radio_status inputs name → has_float d ≡ false
radio_status_has_none inputs name =
    of_option (radio_shown inputs) (radio_has_none inputs) (radio_named inputs.conf name)

if_shown : (b : Bool) (v d : Data) → has_float v ≡ false → Some d ≡ (if b then Some v else None)
    → has_float d ≡ false
if_shown true v d h is = let same : d ≡ v = cc is in ap has_float same ∙ h
if_shown false v d h is = absurd (cc is)

pub device_status_has_none : (inputs : Inputs) (name : List ℕ) (d : Data)
    → Some d ≡ device_status inputs name → has_float d ≡ false
device_status_has_none inputs name d is =
    if_shown (is_shown (facts_of inputs) name) (device_shown (facts_of inputs) name) d
    (device_has_none (facts_of inputs) name) is
