-- Addresses, and the rows of small configurations, that the checker computes.
use Rattle.std.proofs.Common.{◌≡◌, ℕ, List, [], ◌∷◌, true, false, Some, None, codes, refl, replicate}
use Rattle.std.specs.Net.Reader.{read_ipv4, read_ipv6, read_octet, read_segment, read_segments, read_number}
use Rattle.uci_tree.specs.declared.package.Value.TheVariants.{One}
use Rattle.uci_tree.specs.declared.package.Opt.{Opt}
use Rattle.uci_tree.specs.declared.package.Section.{Section}
use Rattle.net_rows.specs.declared.fault_name.FaultName.TheVariants as fault
use Rattle.net_interfaces.specs.declared.address.Family.TheVariants.{V4, V6}
use Rattle.net_interfaces.specs.Address.{v4, v6, v4_of, v6_of, addr_of}
use Rattle.net_interfaces.specs.Mask.{length_within, mask_of}
use Rattle.net_interfaces.specs.Prefix.{prefix_of}
use Rattle.net_interfaces.specs.Given.{bare}
use Rattle.net_interfaces.specs.Interfaces.{interface_row, interface_rows}
use Rattle.net_interfaces.specs.Network.{network}
use Rattle.net_interfaces.specs.Routes.{route_rows}
use Rattle.net_interfaces.specs.Radios.{radio_rows}

-- ---- addresses, masks and prefixes

dotted : addr_of V4 (codes "192.168.1.1") ≡ Some (v4 (192 ∷ 168 ∷ 1 ∷ 1 ∷ []))
unfolding v4_of read_ipv4 read_octet read_number
dotted = refl

leading_zero : addr_of V4 (codes "192.168.01.1") ≡ None
unfolding v4_of read_ipv4 read_octet read_number
leading_zero = refl

other_family : addr_of V4 (codes "::1") ≡ None
unfolding v4_of read_ipv4 read_octet read_number
other_family = refl

loopback : addr_of V6 (codes "::1") ≡ Some (v6 (0 ∷ 0 ∷ 0 ∷ 0 ∷ 0 ∷ 0 ∷ 0 ∷ 0 ∷ 0 ∷ 0 ∷ 0 ∷ 0 ∷ 0 ∷ 0 ∷ 0 ∷ 1 ∷ []))
unfolding v6_of read_ipv6 read_segments read_segment read_ipv4 read_octet read_number
loopback = refl

usual_mask : mask_of (codes "255.255.255.0") ≡ Some 24
unfolding v4_of read_ipv4 read_octet read_number length_within
usual_mask = refl

mask_with_a_hole : mask_of (codes "255.0.255.0") ≡ None
unfolding v4_of read_ipv4 read_octet read_number length_within
mask_with_a_hole = refl

own_length : prefix_of V4 32 (codes "10.0.0.2/24") ≡ Some (v4 (10 ∷ 0 ∷ 0 ∷ 2 ∷ []), 24)
unfolding v4_of read_ipv4 read_octet read_number
own_length = refl

alone : prefix_of V4 16 (codes "10.0.0.2") ≡ Some (v4 (10 ∷ 0 ∷ 0 ∷ 2 ∷ []), 16)
unfolding v4_of read_ipv4 read_octet read_number
alone = refl

too_long : prefix_of V4 32 (codes "10.0.0.2/33") ≡ None
unfolding v4_of read_ipv4 read_octet read_number
too_long = refl

host_bits : network (v4 (10 ∷ 1 ∷ 255 ∷ 3 ∷ []), 20) ≡ (v4 (10 ∷ 1 ∷ 240 ∷ 0 ∷ []), 20)
host_bits = refl

-- ---- interfaces

abbrev pub one : List ℕ → List ℕ → Opt
one name text = record { name = name; value = One text }

abbrev pub section : List ℕ → List ℕ → List Opt → Section
section kind name options = record { name = name; anonymous = false; kind = kind; options = options }

abbrev pub static_section : Section
static_section = section (codes "interface") (codes "a") (
    one (codes "proto") (codes "static") ∷ one (codes "device") (codes "eth0") ∷ one (codes "ipaddr") (codes "10.0.0.2 10.0.1.2/25")
    ∷ one (codes "netmask") (codes "255.255.255.0") ∷ one (codes "gateway") (codes "10.0.0.1") ∷ one (codes "metric") (codes "5") ∷ [])

static_row : interface_row static_section ≡ record {
  name = codes "a";
  anonymous = false;
  proto = codes "static";
  device = Some (codes "eth0");
  autostart = true;
  disabled = false;
  force_link = true;
  metric = 5;
  addresses = (v4 (10 ∷ 0 ∷ 0 ∷ 2 ∷ []), 24) ∷ (v4 (10 ∷ 0 ∷ 1 ∷ 2 ∷ []), 25) ∷ [];
  gateways = v4 (10 ∷ 0 ∷ 0 ∷ 1 ∷ []) ∷ [];
  options = one (codes "ipaddr") (codes "10.0.0.2 10.0.1.2/25") ∷ one (codes "netmask") (codes "255.255.255.0")
      ∷ one (codes "gateway") (codes "10.0.0.1") ∷ one (codes "metric") (codes "5") ∷ [];
  faults = [];
}
unfolding v4_of read_ipv4 read_octet read_number length_within
static_row = refl

-- options of the static protocol are not judged for another one
other_protocol : interface_row (section (codes "interface") (codes "wan") (
    one (codes "proto") (codes "dhcp") ∷ one (codes "ipaddr") (codes "here") ∷ one (codes "gateway") (codes "there") ∷ [])) ≡ record {
      name = codes "wan";
      anonymous = false;
      proto = codes "dhcp";
      device = None;
      autostart = true;
      disabled = false;
      force_link = false;
      metric = 0;
      addresses = [];
      gateways = [];
      options = one (codes "ipaddr") (codes "here") ∷ one (codes "gateway") (codes "there") ∷ [];
      faults = [];
    }
other_protocol = refl

abbrev pub faulty_section : Section
faulty_section = section (codes "interface") (codes "b") (
    one (codes "proto") (codes "static") ∷ one (codes "device") (codes "@a/b") ∷ one (codes "ipaddr") (codes "10.0.0")
    ∷ one (codes "netmask") (codes "24") ∷ one (codes "ip6gw") (codes "10.0.0.1") ∷ one (codes "metric") (codes "4294967296")
    ∷ one (codes "type") (codes "bridge") ∷ [])

-- each fault once, in this order
all_faults : (interface_row faulty_section).faults ≡ bare fault.BadDevice ∷ bare fault.Alias ∷ bare fault.BadAddress ∷ bare fault.BadMask
    ∷ bare fault.BadGateway ∷ bare fault.BadMetric ∷ bare fault.OldSyntax ∷ []
unfolding v4_of v6_of read_ipv4 read_ipv6 read_segments read_segment read_octet read_number length_within
all_faults = refl

-- ---- routes

route_on_a : route_rows (interface_rows (static_section ∷ [])) (section (codes "route") (codes "r") (
    one (codes "interface") (codes "a") ∷ one (codes "target") (codes "10.9.3.0") ∷ one (codes "netmask") (codes "255.255.0.0")
    ∷ one (codes "gateway") (codes "10.0.0.3") ∷ one (codes "table") (codes "main") ∷ []) ∷ []) ≡ record {
      interface = Some 0;
      target = (v4 (10 ∷ 9 ∷ 0 ∷ 0 ∷ []), 16);
      via = Some (v4 (10 ∷ 0 ∷ 0 ∷ 3 ∷ []));
      metric = 0;
      table = 254;
      disabled = false;
      faults = [];
    } ∷ []
unfolding v4_of read_ipv4 read_octet read_number length_within
route_on_a = refl

route_to_all : route_rows [] (section (codes "route6") (codes "r") (one (codes "type") (codes "blackhole") ∷ []) ∷ []) ≡ record {
  interface = None;
  target = (v6 (replicate 16 0), 0);
  via = None;
  metric = 0;
  table = 254;
  disabled = false;
  faults = bare fault.NoInterface ∷ bare fault.WrongType ∷ [];
} ∷ []
route_to_all = refl

-- ---- radios

abbrev pub radio : List ℕ → Section
radio name = section (codes "wifi-device") name []

abbrev pub wifi_options : List ℕ → List Opt
wifi_options device = one (codes "device") device ∷ one (codes "network") (codes " lan guest") ∷ []

abbrev pub wifi : List ℕ → Section
wifi device = section (codes "wifi-iface") (codes "ap") (wifi_options device)

-- the first radio of a name has the interfaces; one that names no radio has no row
radios_with_rows : radio_rows (wifi (codes "r1") ∷ radio (codes "r0") ∷ radio (codes "r1") ∷ radio (codes "r1") ∷ wifi (codes "r2") ∷ []) ≡
    record { name = codes "r0"; disabled = false; options = []; rows = []; faults = [] }
    ∷ record {
      name = codes "r1";
      disabled = false;
      options = [];
      rows = record { network = Some (codes "lan"); disabled = false; options = wifi_options (codes "r1") } ∷ [];
      faults = [];
    }
    ∷ record { name = codes "r1"; disabled = false; options = []; rows = []; faults = [] }
    ∷ []
radios_with_rows = refl
