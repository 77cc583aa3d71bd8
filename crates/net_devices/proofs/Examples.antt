-- What the checker computes of small configurations: names, kinds, levels and faults.
use Rattle.std.proofs.Common.{◌≡◌, ℕ, List, [], ◌∷◌, map, true, false, Some, None, codes, refl}
use Rattle.uci_tree.specs.declared.package.Value.TheVariants.{One, Many}
use Rattle.uci_tree.specs.declared.package.Opt.{Opt}
use Rattle.uci_tree.specs.declared.package.Section.{Section}
use Rattle.net_rows.specs.declared.fault_name.FaultName.TheVariants as fault
use Rattle.net_rows.specs.declared.rows.NameKind.{NameKind}
use Rattle.net_rows.specs.declared.rows.NameKind.TheVariants as is
use Rattle.net_rows.specs.declared.rows.NameRow.{NameRow}
use Rattle.net_devices.specs.Counted.{all_said}
use Rattle.net_devices.specs.Devices.{all_names, device_conf}
use Rattle.net_devices.specs.Entries.{entry_of}
use Rattle.net_devices.specs.Faults.{bare, about}
use Rattle.net_devices.specs.Kinds.{kind_of}
use Rattle.net_devices.specs.Levels.{level}

abbrev text : List ℕ → List ℕ → Opt
text name value = record { name = name; value = One value }

abbrev list : List ℕ → List (List ℕ) → Opt
list name items = record { name = name; value = Many items }

abbrev section : List ℕ → List Opt → Section
section kind options = record { name = codes "s"; anonymous = false; kind = kind; options = options }

-- a bridge, a VLAN of this identifier over a name, and an interface on a device
abbrev bridge : List ℕ → List ℕ → Section
bridge name ports = section (codes "device") (text (codes "name") name ∷ text (codes "type") (codes "bridge") ∷ text (codes "ports") ports ∷ [])

abbrev vlan : List ℕ → List ℕ → List ℕ → Section
vlan name lower id = section (codes "device") (text (codes "name") name ∷ text (codes "type") (codes "8021q") ∷ text (codes "ifname") lower ∷ text (codes "vid") id ∷ [])

abbrev interface : List ℕ → Section
interface device = section (codes "interface") (text (codes "device") device ∷ [])

abbrev bridge_vlan : List ℕ → List ℕ → List ℕ → Section
bridge_vlan device id ports = section (codes "bridge-vlan") (text (codes "device") device ∷ text (codes "vlan") id ∷ text (codes "ports") ports ∷ [])

-- a row without faults and without options
abbrev sound : List ℕ → NameKind → ℕ → NameRow
sound name kind level = record { name = name; kind = kind; level = level; broken = false; mtu = None; mac = None; faults = [] }

-- ---- a bridge with two ports and a VLAN of its own

abbrev filtered : List Section
filtered = bridge (codes "br0") (codes "lan1 lan2") ∷ bridge_vlan (codes "br0") (codes "10") (codes "lan1:u* lan2:t") ∷ interface (codes "br0.10") ∷ []

filtered_rows : device_conf filtered ≡ record {
  devices = record { name = Some (codes "br0"); faults = [] } ∷ [];
  names = sound (codes "br0") (is.Bridge false (codes "lan1" ∷ codes "lan2" ∷ [])) 2
      ∷ sound (codes "lan1") is.Plain 1
      ∷ sound (codes "lan2") is.Plain 1
      ∷ sound (codes "br0.10") (is.Vlan (Some (codes "br0")) 10) 3
      ∷ [];
  vlans = record {
    bridge = Some (codes "br0");
    id = 10;
    local = true;
    passed_over = false;
    entries = record { port = codes "lan1"; pvid = true; untagged = true } ∷ record { port = codes "lan2"; pvid = false; untagged = false } ∷ [];
    faults = [];
  } ∷ [];
}
filtered_rows = refl

-- ---- which names there are

-- the lowers of a VLAN stand behind it, one under another; a name that the sections give stands first
lowers_behind : all_names (interface (codes "eth0.5.7") ∷ bridge (codes "br1") (codes "eth1.2") ∷ []) ≡ codes "br1" ∷ codes "eth0.5.7" ∷ codes "eth0.5" ∷ codes "eth0" ∷ codes "eth1.2" ∷ codes "eth1" ∷ []
lowers_behind = refl

-- a zero in front, the identifier 4095 and no name in front of the dot make no VLAN
no_vlans : all_names (interface (codes "a.07") ∷ interface (codes "a.4095") ∷ interface (codes ".5") ∷ []) ≡ codes "a.07" ∷ codes "a.4095" ∷ codes ".5" ∷ []
no_vlans = refl

-- the last of two sections of a name counts, and the earlier one mentions nothing
last_counts : all_names (bridge (codes "br0") (codes "p") ∷ bridge (codes "br0") (codes "q") ∷ []) ≡ codes "br0" ∷ codes "q" ∷ []
last_counts = refl

-- ---- which names stand on which

-- a ring of two VLANs, and a VLAN over it
abbrev ring : List Section
ring = vlan (codes "a") (codes "b") (codes "1") ∷ vlan (codes "b") (codes "a") (codes "2") ∷ interface (codes "a.3") ∷ []

abbrev high : List ℕ → NameKind → NameRow
high name kind = record { name = name; kind = kind; level = 9; broken = true; mtu = None; mac = None; faults = bare fault.TooHigh ∷ [] }

ring_is_too_high : (device_conf ring).names ≡ high (codes "a") (is.Vlan (Some (codes "b")) 1) ∷ high (codes "b") (is.Vlan (Some (codes "a")) 2) ∷ high (codes "a.3") (is.Vlan (Some (codes "a")) 3) ∷ []
ring_is_too_high = refl

-- a bridge over its own VLAN
over_itself : map (λ row. row.level) (device_conf (bridge (codes "br0") (codes "br0.1 p") ∷ [])).names ≡ 9 ∷ 9 ∷ 1 ∷ []
over_itself = refl

-- eight levels are as high as a name may be
eight_levels : map (λ row. row.level) (device_conf (interface (codes "x.1.1.1.1.1.1.1") ∷ [])).names ≡ 8 ∷ 7 ∷ 6 ∷ 5 ∷ 4 ∷ 3 ∷ 2 ∷ 1 ∷ []
eight_levels = refl

-- a bridge stands one above the highest of its ports
bridge_over_vlan : level (all_said (bridge (codes "br0") (codes "p q.1 q.1.2") ∷ [])) (codes "br0") ≡ 4
bridge_over_vlan = refl

-- ---- ports

abbrev two_bridges : List Section
two_bridges = bridge (codes "b1") (codes "p b2 p a/b") ∷ bridge (codes "b2") (codes "p r") ∷ []

-- a port belongs to the first bridge that names it, and a bridge is no port
own_ports_of_first : kind_of (all_said two_bridges) (codes "b1") ≡ is.Bridge false (codes "p" ∷ [])
own_ports_of_first = refl

own_ports_of_second : kind_of (all_said two_bridges) (codes "b2") ≡ is.Bridge false (codes "r" ∷ [])
own_ports_of_second = refl

-- nor does a bridge stand on the bridge that it names as a port
faults_of_ports : (device_conf two_bridges).devices ≡ record { name = Some (codes "b1"); faults = about fault.BadPort (codes "a/b") ∷ about fault.BridgePort (codes "b2") ∷ [] } ∷ record { name = Some (codes "b2"); faults = [] } ∷ []
faults_of_ports = refl

levels_of_bridges : map (λ row. row.level) (device_conf two_bridges).names ≡ 2 ∷ 2 ∷ 1 ∷ 1 ∷ []
levels_of_bridges = refl

-- ---- faults of sections and of names

-- a section without a name, with a list for one, and with a wrong type; an option that does not read is passed over
abbrev faulty : List Section
faulty = section (codes "device") []
    ∷ section (codes "device") (list (codes "name") (codes "a" ∷ []) ∷ [])
    ∷ section (codes "device") (text (codes "name") (codes "w") ∷ text (codes "type") (codes "macvlan") ∷ [])
    ∷ section (codes "device") (text (codes "name") (codes "p") ∷ text (codes "mtu") (codes "67") ∷ text (codes "macaddr") (codes "00:00") ∷ [])
    ∷ []

faulty_devices : (device_conf faulty).devices ≡ record { name = None; faults = bare fault.NoName ∷ [] }
    ∷ record { name = None; faults = bare fault.BadName ∷ [] }
    ∷ record { name = Some (codes "w"); faults = bare fault.WrongType ∷ [] }
    ∷ record { name = Some (codes "p"); faults = bare fault.BadMtu ∷ bare fault.BadMac ∷ [] }
    ∷ []
faulty_devices = refl

faulty_names : (device_conf faulty).names ≡ record { name = codes "w"; kind = is.Plain; level = 1; broken = true; mtu = None; mac = None; faults = bare fault.WrongType ∷ [] }
    ∷ record { name = codes "p"; kind = is.Plain; level = 1; broken = false; mtu = None; mac = None; faults = bare fault.BadMtu ∷ bare fault.BadMac ∷ [] }
    ∷ []
faulty_names = refl

-- the later of two names for one VLAN has the fault, and VLANs that tell no identifier are not compared
same_vlans : map (λ row. row.faults) (device_conf (vlan (codes "x") (codes "r") (codes "007") ∷ vlan (codes "y") (codes "r") [] ∷ vlan (codes "z") (codes "r") [] ∷ interface (codes "r.7") ∷ [])).names
    ≡ [] ∷ (bare fault.BadVid ∷ []) ∷ (bare fault.BadVid ∷ []) ∷ [] ∷ (bare fault.SameVlan ∷ []) ∷ []
same_vlans = refl

-- ---- VLANs of bridges

tagged_with_pvid : entry_of (codes "e:t*") ≡ Some (record { port = codes "e"; pvid = true; untagged = false })
tagged_with_pvid = refl

without_a_suffix : entry_of (codes "e") ≡ Some (record { port = codes "e"; pvid = true; untagged = true })
without_a_suffix = refl

empty_suffix : entry_of (codes "e:") ≡ None
empty_suffix = refl

abbrev bridged : List Section → List Section
bridged sections = bridge (codes "br0") [] ∷ sections

-- the first entry of a port counts
double_port : (device_conf (bridged (bridge_vlan (codes "br0") (codes "1") (codes "p q:t p:t p") ∷ []))).vlans ≡ record {
  bridge = Some (codes "br0");
  id = 1;
  local = true;
  passed_over = false;
  entries = record { port = codes "p"; pvid = true; untagged = true } ∷ record { port = codes "q"; pvid = false; untagged = false } ∷ [];
  faults = about fault.DoublePort (codes "p") ∷ [];
} ∷ []
double_port = refl

-- A second row of a VLAN is passed over, and gives no PVID: `q` gets its PVID in the third row. The PVID of `p` is that of the
-- first.
pvids : map (λ row. row.faults) (device_conf (bridged (bridge_vlan (codes "br0") (codes "1") (codes "p") ∷ bridge_vlan (codes "br0") (codes "1") (codes "q") ∷ bridge_vlan (codes "br0") (codes "2") (codes "p q") ∷ []))).vlans
    ≡ [] ∷ (bare fault.SameVlan ∷ []) ∷ (about fault.SecondPvid (codes "p") ∷ []) ∷ []
pvids = refl

entries_of_second : map (λ row. row.entries) (device_conf (bridged (bridge_vlan (codes "br0") (codes "1") (codes "p") ∷ bridge_vlan (codes "br0") (codes "2") (codes "p q") ∷ []))).vlans
    ≡ (record { port = codes "p"; pvid = true; untagged = true } ∷ [])
    ∷ (record { port = codes "p"; pvid = false; untagged = true } ∷ record { port = codes "q"; pvid = true; untagged = true } ∷ [])
    ∷ []
entries_of_second = refl

-- a row of a name that is no bridge, with an identifier that does not read
no_bridge : (device_conf (bridge_vlan (codes "p") (codes "0") (codes "lan1 a/b") ∷ [])).vlans ≡ record {
  bridge = Some (codes "p");
  id = 0;
  local = true;
  passed_over = true;
  entries = record { port = codes "lan1"; pvid = true; untagged = true } ∷ [];
  faults = bare fault.NoBridge ∷ bare fault.BadVid ∷ about fault.BadPort (codes "a/b") ∷ [];
} ∷ []
no_bridge = refl
