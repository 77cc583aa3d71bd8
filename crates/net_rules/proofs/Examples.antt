-- Rows of usual routers, and what they want, as the checker computes it.
use Rattle.std.proofs.Common.{◌≡◌, ℕ, List, [], ◌∷◌, inr, Bool, true, false, Some, None, codes, refl}
use Rattle.std.specs.Prelude.{◌+◌, map, filter, replicate}
use Rattle.std.specs.FinSet as set
use Rattle.net_addr.specs.declared.address.Addr.{Addr}
use Rattle.net_addr.specs.declared.address.Addr.TheVariants.{V4}
use Rattle.kern_model.specs.declared.object.Device.{Device}
use Rattle.kern_model.specs.declared.object.DevEvent.TheVariants as device
use Rattle.kern_model.specs.declared.object.LinkKind.TheVariants as kind
use Rattle.kern_model.specs.declared.object.Object.{Object}
use Rattle.kern_model.specs.declared.object.Object.TheVariants as object
use Rattle.kern_model.specs.ObjectOrder.{set_of}
use Rattle.kern_model.proofs.MemberLemmas.{here}
use Rattle.kern_model.proofs.SetLemmas.{set_of_member}
use Rattle.uci_tree.specs.declared.package.Value.TheVariants.{One}
use Rattle.net_rows.specs.declared.rows.Conf.{Conf}
use Rattle.net_rows.specs.declared.rows.NameRow.{NameRow}
use Rattle.net_rows.specs.declared.rows.NameKind.{NameKind}
use Rattle.net_rows.specs.declared.rows.NameKind.TheVariants.{Plain, Bridge, Vlan}
use Rattle.net_rows.specs.declared.rows.InterfaceRow.{InterfaceRow}
use Rattle.net_rules.specs.declared.inputs.Inputs.{Inputs}
use Rattle.net_rules.specs.declared.event.Event.{Event}
use Rattle.net_rules.specs.declared.event.Event.TheVariants as event
use Rattle.net_rules.specs.declared.event.Notice.TheVariants as notice
use Rattle.net_rules.specs.Levels.{by_levels}
use Rattle.net_rules.specs.Inputs.{facts_of, no_inputs}
use Rattle.net_rules.specs.Available.{available, link}
use Rattle.net_rules.specs.Used.{used, users}
use Rattle.net_rules.specs.Want.{wanted_list}
use Rattle.net_rules.specs.Down.{leads_down}
use Rattle.net_rules.specs.Footprint.{is_of}
use Rattle.net_rules.specs.After.{after}
use Rattle.net_rules.specs.declared.refusal.Refusal.TheVariants as refused
use Rattle.net_rules.specs.Moment.{Moment}
use Rattle.net_rules.specs.Refusal.{is_known, refusal}
use Rattle.net_rules.specs.Notices.{notices}
use Rattle.net_rules.proofs.RefusalLemmas.{known}

abbrev name_row : List ℕ → NameKind → ℕ → NameRow
name_row name kind level = record { name = name; kind = kind; level = level; broken = false; mtu = None; mac = None; faults = [] }

abbrev interface_row : List ℕ → List ℕ → List ℕ → Bool → List (Addr × ℕ) → InterfaceRow
interface_row name proto dev force_link addresses = record {
  name = name;
  anonymous = false;
  proto = proto;
  device = Some dev;
  autostart = true;
  disabled = false;
  force_link = force_link;
  metric = 0;
  addresses = addresses;
  gateways = [];
  options = [];
  faults = [];
}

abbrev v4 : ℕ → ℕ → ℕ → ℕ → Addr
v4 a b c d = V4 (record { 0 = a ∷ b ∷ c ∷ d ∷ [] })

abbrev present : Bool → Device
present carrier = record { carrier = carrier; mtu = 1500; mac = record { 0 = replicate 6 0 } }

abbrev come : List ℕ → Event
come name = event.Device (device.Add name true 1500 (record { 0 = replicate 6 0 }))

abbrev lan1 : List ℕ
lan1 = codes "lan1"

abbrev lan2 : List ℕ
lan2 = codes "lan2"

abbrev br-lan : List ℕ
br-lan = codes "br-lan"

abbrev wan : List ℕ
wan = codes "wan"

-- `br-lan` with two ports, `lan` static on it, `wan` by DHCP
abbrev router : Conf
router = record {
  interfaces =
      interface_row (codes "lan") (codes "static") br-lan true ((v4 192 168 1 1, 24) ∷ [])
      ∷ interface_row wan (codes "dhcp") wan false [] ∷ [];
  devices = [];
  routes = [];
  radios = [];
  names = name_row br-lan (Bridge false (lan1 ∷ lan2 ∷ [])) 2 ∷ name_row lan1 Plain 1 ∷ name_row lan2 Plain 1 ∷ name_row wan Plain 1 ∷ [];
  vlans = [];
}

abbrev router_with : List (List ℕ × Device) → Inputs
router_with devices = record { conf = router; devices = devices; operator_states = []; interfaces = []; radios = []; next = 1 }

-- the first port and the second device come, the latter without carrier: nobody is asked
two_devices : wanted_list (facts_of (router_with ((lan1, present true) ∷ (wan, present false) ∷ []))) ≡
    object.Up br-lan ∷ object.Link br-lan (kind.Bridge None false) ∷ object.Master lan1 br-lan ∷ object.Up lan1 ∷ object.Up wan
    ∷ object.Address br-lan (v4 192 168 1 1, 24) ∷ []
unfolding available link used by_levels
two_devices = refl

abbrev loaded : Inputs
loaded = after no_inputs (event.Load router)

abbrev asked : Inputs
asked = after loaded (come wan)

-- `wan` comes with carrier, and its handler is asked
first_request : notices loaded (come wan) ≡ notice.Interface 1 1 (Some wan) ∷ []
unfolding after available link by_levels
first_request = refl

-- it goes, and the request with it; it comes again, and the request has the next number
dropped : notices asked (event.Device (device.Remove wan)) ≡ notice.Dropped 1 ∷ []
unfolding after available link by_levels
dropped = refl

asked_again : notices (after asked (event.Device (device.Remove wan))) (come wan) ≡ notice.Interface 2 1 (Some wan) ∷ []
unfolding after available link by_levels
asked_again = refl

abbrev address_given : ℕ → Event
address_given number = event.Answer wan number (record { up = true; device = None; addresses = (v4 192 0 2 5, 24) ∷ []; routes = [] })

-- an answer to the open request gives an address; one to another number changes nothing
given_address : wanted_list (facts_of (after asked (address_given 1))) ≡ object.Up wan ∷ object.Address wan (v4 192 0 2 5, 24) ∷ []
unfolding after available link used by_levels
given_address = refl

stale_answer : after asked (address_given 2) ≡ asked
unfolding after available link by_levels
stale_answer = refl

-- a filtering bridge with two ports, and an interface on its VLAN 10
abbrev br0 : List ℕ
br0 = codes "br0"

abbrev br0-10 : List ℕ
br0-10 = codes "br0.10"

abbrev filtering : Conf
filtering = record {
  interfaces = interface_row (codes "x") (codes "static") br0-10 true ((v4 10 0 10 1, 24) ∷ []) ∷ [];
  devices = [];
  routes = [];
  radios = [];
  names = name_row br0 (Bridge false (lan1 ∷ lan2 ∷ [])) 2 ∷ name_row lan1 Plain 1 ∷ name_row lan2 Plain 1 ∷ name_row br0-10 (Vlan (Some br0) 10) 3 ∷ [];
  vlans = record {
    bridge = Some br0;
    id = 10;
    local = true;
    passed_over = false;
    entries = record { port = lan1; pvid = true; untagged = true } ∷ record { port = lan2; pvid = false; untagged = false } ∷ [];
    faults = [];
  } ∷ [];
}

one_port : wanted_list (facts_of (record { conf = filtering; devices = (lan1, present true) ∷ []; operator_states = []; interfaces = []; radios = []; next = 1 })) ≡
    object.Up br0 ∷ object.Link br0 (kind.Bridge None true) ∷ object.Master lan1 br0 ∷ object.Vlan br0 lan1 10 true true ∷ object.Vlan br0 br0 10 false false
    ∷ object.Up lan1 ∷ object.Up br0-10 ∷ object.Link br0-10 (kind.Vlan br0 10 None) ∷ object.Address br0-10 (v4 10 0 10 1, 24) ∷ []
unfolding available link used by_levels
one_port = refl

-- a radio whose port joins the bridge of its interface
abbrev phy : List ℕ
phy = codes "phy0-ap0"

abbrev wireless : Conf
wireless = record router {
  radios = record {
    name = codes "radio0";
    disabled = false;
    options = record { name = codes "channel"; value = One (codes "36") } ∷ [];
    rows = record { network = Some (codes "lan"); disabled = false; options = record { name = codes "network"; value = One (codes "lan") } ∷ [] } ∷ [];
    faults = [];
  } ∷ [];
}

abbrev wireless_loaded : Inputs
wireless_loaded = after no_inputs (event.Load wireless)

asked_radio : notices no_inputs (event.Load wireless) ≡ notice.Radio 1 0 ∷ []
unfolding after available link by_levels
asked_radio = refl

abbrev port_told : Inputs
port_told = after wireless_loaded (event.Radio (codes "radio0") 1 (Some phy ∷ []))

port_joins : wanted_list (facts_of (after port_told (come phy))) ≡
    object.Up br-lan ∷ object.Link br-lan (kind.Bridge None false) ∷ object.Master phy br-lan ∷ object.Up phy ∷ object.Address br-lan (v4 192 168 1 1, 24) ∷ []
unfolding after available link used by_levels
port_joins = refl

-- a name that has users: the bridge has the interface, each port has the bridge
counted : (users (facts_of (router_with ((lan1, present true) ∷ []))) br-lan ≡ 1) × (users (facts_of (router_with ((lan1, present true) ∷ []))) lan1 ≡ 1) × (users (facts_of (router_with ((lan1, present true) ∷ []))) lan2 ≡ 0)
unfolding available link used by_levels
counted = (refl, refl, refl)

-- an answer to a number that is not open, a device that is there, and a name that stands for a VLAN
abbrev asked_moment : Moment
asked_moment = record { inputs = asked; held = set.empty }

refusals : (refusal asked_moment (address_given 2) ≡ Some (refused.Stale 2 1)) × (refusal asked_moment (come wan) ≡ Some refused.Known) × (refusal asked_moment (come (codes "wan.7")) ≡ Some refused.Known)
unfolding after available link by_levels
refusals = (refl, refl, refl)

-- a name that the rows do not have, and that is still held as a link
abbrev old_bridge : Object
old_bridge = object.Link (codes "br-old") (kind.Bridge None false)

abbrev still_held : Moment
still_held = record { inputs = asked; held = set_of (old_bridge ∷ []) }

held_name : is_known still_held (codes "br-old") ≡ true
held_name = known still_held (codes "br-old") (inr (kind.Bridge None false, set_of_member (old_bridge ∷ []) old_bridge (here old_bridge [])))

abbrev with_names : List NameRow → List InterfaceRow → List (List ℕ × Device) → Inputs
with_names names interfaces devices = record {
  conf = record { interfaces = interfaces; devices = []; routes = []; radios = []; names = names; vlans = [] };
  devices = devices;
  operator_states = [];
  interfaces = [];
  radios = [];
  next = 1;
}

abbrev broken_row : List ℕ → NameKind → ℕ → NameRow
broken_row name kind level = record (name_row name kind level) { broken = true }

-- a bridge is not available without ports, unless it says that it needs none; nor where a device has its name
bridges :
    (available (facts_of (with_names (name_row br0 (Bridge false []) 2 ∷ []) [] [])) br0 ≡ false)
    × (available (facts_of (with_names (name_row br0 (Bridge true []) 2 ∷ []) [] [])) br0 ≡ true)
    × (available (facts_of (with_names (name_row br0 (Bridge true []) 2 ∷ []) [] ((br0, present true) ∷ []))) br0 ≡ false)
unfolding available by_levels
bridges = (refl, refl, refl)

-- a plain name with a fault is not available, and has link where it is present with carrier
faulty_plain : (available (facts_of (with_names (broken_row wan Plain 1 ∷ []) [] ((wan, present true) ∷ []))) wan ≡ false) × (link (facts_of (with_names (broken_row wan Plain 1 ∷ []) [] ((wan, present true) ∷ []))) wan ≡ true)
unfolding available link by_levels
faulty_plain = (refl, refl)

-- a name of the form X.N without a row is never there
without_row : (available (facts_of (with_names [] [] ((br0-10, present true) ∷ []))) br0-10 ≡ false) × (link (facts_of (with_names [] [] ((br0-10, present true) ∷ []))) br0-10 ≡ false)
unfolding available link by_levels
without_row = (refl, refl)

-- an interface on VLAN 2 over a device: the lower name is used too
abbrev eth0 : List ℕ
eth0 = codes "eth0"

abbrev eth0-2 : List ℕ
eth0-2 = codes "eth0.2"

over_device : wanted_list (facts_of (with_names (name_row eth0 Plain 1 ∷ name_row eth0-2 (Vlan (Some eth0) 2) 2 ∷ []) (interface_row (codes "v") (codes "static") eth0-2 true ((v4 10 0 2 1, 24) ∷ []) ∷ []) ((eth0, present true) ∷ []))) ≡
    object.Up eth0 ∷ object.Up eth0-2 ∷ object.Link eth0-2 (kind.Vlan eth0 2 None) ∷ object.Address eth0-2 (v4 10 0 2 1, 24) ∷ []
unfolding available link used by_levels
over_device = refl

-- the layer-3 device that an answer names serves where it is plain; a bridge that is not the own device does not
abbrev l3_device_given : List ℕ → Event
l3_device_given l3_device = event.Answer wan 1 (record { up = true; device = Some l3_device; addresses = (v4 192 0 2 5, 24) ∷ []; routes = [] })

abbrev with_l3_device : Inputs
with_l3_device = after (after asked (come lan1)) (come (codes "tun0"))

plain_l3_device : wanted_list (facts_of (after with_l3_device (l3_device_given (codes "tun0")))) ≡
    object.Up br-lan ∷ object.Link br-lan (kind.Bridge None false) ∷ object.Master lan1 br-lan ∷ object.Up lan1 ∷ object.Up wan ∷ object.Up (codes "tun0")
    ∷ object.Address br-lan (v4 192 168 1 1, 24) ∷ object.Address (codes "tun0") (v4 192 0 2 5, 24) ∷ []
unfolding after available link used by_levels
plain_l3_device = refl

bridge_l3_device : wanted_list (facts_of (after with_l3_device (l3_device_given br-lan))) ≡
    object.Up br-lan ∷ object.Link br-lan (kind.Bridge None false) ∷ object.Master lan1 br-lan ∷ object.Up lan1 ∷ object.Up wan
    ∷ object.Address br-lan (v4 192 168 1 1, 24) ∷ []
unfolding after available link used by_levels
bridge_l3_device = refl

-- rows whose options changed: the request goes with its answer, and a new one gets a number
abbrev with_options : InterfaceRow → InterfaceRow
with_options row = record row { options = record { name = codes "hostname"; value = One (codes "r") } ∷ [] }

abbrev router_with_options : Conf
router_with_options = record router { interfaces = interface_row (codes "lan") (codes "static") br-lan true ((v4 192 168 1 1, 24) ∷ []) ∷ with_options (interface_row wan (codes "dhcp") wan false []) ∷ [] }

other_options : notices (after asked (address_given 1)) (event.Load router_with_options) ≡ notice.Dropped 1 ∷ notice.Interface 2 1 (Some wan) ∷ []
unfolding after available link by_levels
other_options = refl

-- the same rows: the request stays with its answer
same_rows : after (after asked (address_given 1)) (event.Load router) ≡ after asked (address_given 1)
unfolding after available link by_levels
same_rows = refl

-- an operator state is forgotten when its interface is gone
forgotten : (after (after (after loaded (event.Operator wan false)) (event.Load (record router { interfaces = [] }))) (event.Load router)).operator_states ≡ []
unfolding after available link by_levels
forgotten = refl

-- interfaces get their numbers before radios
numbers : notices (after no_inputs (come wan)) (event.Load wireless) ≡ notice.Interface 1 1 (Some wan) ∷ notice.Radio 2 0 ∷ []
unfolding after available link by_levels
numbers = refl

-- What the footprint of an interface has, in the order of what is wanted.
abbrev footprint_list : Inputs → InterfaceRow → List Object
footprint_list inputs row = filter (is_of (facts_of inputs) row) (wanted_list (facts_of inputs))

abbrev on_eth0 : InterfaceRow
on_eth0 = interface_row (codes "b") (codes "none") eth0 false []

abbrev v1 : List ℕ
v1 = codes "v1"

abbrev v2 : List ℕ
v2 = codes "v2"

abbrev on_v1 : InterfaceRow
on_v1 = interface_row (codes "a") (codes "static") v1 true ((v4 10 0 2 1, 24) ∷ [])

abbrev on_v2 : InterfaceRow
on_v2 = interface_row (codes "a") (codes "static") v2 true ((v4 10 0 2 1, 24) ∷ [])

-- a VLAN without a number that reads is broken: the device below it is of the footprint, where another interface uses it
bad_number : footprint_list (with_names (broken_row v1 (Vlan (Some eth0) 0) 2 ∷ name_row eth0 Plain 1 ∷ []) (on_v1 ∷ on_eth0 ∷ []) ((eth0, present true) ∷ [])) on_v1 ≡
    object.Up eth0 ∷ []
unfolding available link used by_levels leads_down
bad_number = refl

-- so it is where the VLAN has the lower and the number of an earlier one
same_vlan : footprint_list (with_names (name_row v1 (Vlan (Some eth0) 7) 2 ∷ name_row eth0 Plain 1 ∷ broken_row v2 (Vlan (Some eth0) 7) 2 ∷ []) (on_v2 ∷ on_eth0 ∷ []) ((eth0, present true) ∷ [])) on_v2 ≡
    object.Up eth0 ∷ []
unfolding available link used by_levels leads_down
same_vlan = refl

-- and where an answer names a device of the form X.N that has no row
abbrev two_rows : Conf
two_rows = record router { interfaces = interface_row wan (codes "dhcp") wan false [] ∷ on_eth0 ∷ []; names = name_row wan Plain 1 ∷ name_row eth0 Plain 1 ∷ [] }

abbrev eth0-9_told : Inputs
eth0-9_told = after (after (after (after no_inputs (event.Load two_rows)) (come eth0)) (come wan)) (l3_device_given (codes "eth0.9"))

without_a_row : footprint_list eth0-9_told (interface_row wan (codes "dhcp") wan false []) ≡ object.Up wan ∷ object.Up eth0 ∷ []
unfolding after available link used by_levels leads_down
without_a_row = refl

-- a layer-3 device that is not the own one: both are of the footprint
own_and_l3_device : footprint_list (after with_l3_device (l3_device_given (codes "tun0"))) (interface_row wan (codes "dhcp") wan false []) ≡
    object.Up wan ∷ object.Up (codes "tun0") ∷ object.Address (codes "tun0") (v4 192 0 2 5, 24) ∷ []
unfolding after available link used by_levels leads_down
own_and_l3_device = refl

-- a bridge below a VLAN is of the footprint, with the VLAN that is set on the bridge itself, but not its ports
over_bridge : footprint_list (record { conf = filtering; devices = (lan1, present true) ∷ []; operator_states = []; interfaces = []; radios = []; next = 1 }) (interface_row (codes "x") (codes "static") br0-10 true ((v4 10 0 10 1, 24) ∷ []))
    ≡
    object.Up br0 ∷ object.Link br0 (kind.Bridge None true) ∷ object.Vlan br0 br0 10 false false
    ∷ object.Up br0-10 ∷ object.Link br0-10 (kind.Vlan br0 10 None) ∷ object.Address br0-10 (v4 10 0 10 1, 24) ∷ []
unfolding available link used by_levels leads_down
over_bridge = refl

-- names without rows lead down dot by dot; a row without a lower ends the way; a ring leads to all that are on it, and nowhere else
ways_down :
    (leads_down [] (codes "eth0.9.3") eth0 ≡ true)
    × (leads_down (broken_row eth0-2 (Vlan None 0) 1 ∷ []) eth0-2 eth0 ≡ false)
    × (leads_down (broken_row v1 (Vlan (Some v2) 1) 9 ∷ broken_row v2 (Vlan (Some v1) 1) 9 ∷ []) v1 v2 ≡ true)
    × (leads_down (broken_row v1 (Vlan (Some v2) 1) 9 ∷ broken_row v2 (Vlan (Some v1) 1) 9 ∷ []) v1 eth0 ≡ false)
    × (leads_down (name_row br0 (Bridge false (lan1 ∷ [])) 2 ∷ name_row lan1 Plain 1 ∷ []) br0 lan1 ≡ false)
unfolding leads_down
ways_down = (refl, refl, refl, refl, refl)

-- a chain that is too high leads down to its end all the same
abbrev digit_name : ℕ → List ℕ
digit_name n = (48 + n) ∷ []

abbrev chain : List NameRow
chain = map (λ n. broken_row (digit_name (n + 1)) (Vlan (Some (digit_name n)) 1) 9) (0 ∷ 1 ∷ 2 ∷ 3 ∷ 4 ∷ 5 ∷ 6 ∷ 7 ∷ 8 ∷ [])

too_high : leads_down chain (digit_name 9) (digit_name 0) ≡ true
unfolding leads_down
too_high = refl

-- a VLAN goes with its lower, and is not made where a device has its name
abbrev vlan_with : List (List ℕ × Device) → Inputs
vlan_with devices = with_names (name_row eth0 Plain 1 ∷ name_row eth0-2 (Vlan (Some eth0) 2) 2 ∷ []) (interface_row (codes "v") (codes "static") eth0-2 true ((v4 10 0 2 1, 24) ∷ []) ∷ []) devices

lower_gone : wanted_list (facts_of (after (vlan_with ((eth0, present true) ∷ [])) (event.Device (device.Remove eth0)))) ≡ []
unfolding after available link used by_levels
lower_gone = refl

name_taken : wanted_list (facts_of (vlan_with ((eth0, present true) ∷ (eth0-2, present true) ∷ []))) ≡ []
unfolding available link used by_levels
name_taken = refl
