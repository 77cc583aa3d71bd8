-- The lines of calls, as `ip -batch` of iproute2 takes them (ip-link(8), ip-address(8),
-- ip-route(8)). A name with `#`, `\` or a quote in it is printed as it is, though `ip -batch` reads
-- these bytes in a way of its own.
use Rattle.std.specs.Prelude.{◌≡◌, ◌<◌, ◌^◌, ◌/◌, ◌%◌, ◌==◌, if◌then◌else◌, List, [], ◌∷◌, ◌++◌, codes, decimal, ℕ}
use Rattle.std.specs.Prelude.{true, Bool, bytes_eq, ⊤, Option, Some, None}
use Rattle.std.specs.List.{join_by}
use Rattle.std.specs.Char.{digit_char}
use Rattle.net_addr.specs.declared.address.Addr.{Addr}
use Rattle.net_addr.specs.Octets.{AreOctets, IsAddr}
use Rattle.net_addr.specs.Printed.{addr_text, cidr_text}
use Rattle.net_addr.specs.Width.{IsCidr}
use Rattle.kern_model.specs.Name.{is_name}
use Rattle.kern_model.specs.declared.object.Mac.{Mac}
use Rattle.kern_model.specs.declared.object.LinkKind.TheVariants.{Bridge, Vlan}
use Rattle.kern_model.specs.declared.object.RouteObject.{RouteObject}
use Rattle.kern_model.specs.declared.object.Object.{Object}
use Rattle.kern_model.specs.declared.object.Object.TheVariants as object
use Rattle.kern_model.specs.declared.object.Call.{Call}
use Rattle.kern_model.specs.declared.object.Call.TheVariants.{Put, Take}

-- a byte as two lower-case hexadecimal digits
abbrev pub hex_pair : ℕ → List ℕ
hex_pair b = digit_char (b / 16) ∷ digit_char (b % 16) ∷ []

-- bytes as such pairs, with `:` between
abbrev pub pairs_text : List ℕ → List ℕ
pairs_text bytes = join_by hex_pair (codes ":") bytes

abbrev pub mac_text : Mac → List ℕ
mac_text mac = pairs_text mac.0

-- parts of lines that may be absent: the hardware address of a link's own, a gateway, and a number
-- that is not the usual one, after its word
abbrev pub own_address : Option Mac → List ℕ
own_address None = []
own_address (Some mac) = codes " address " ++ mac_text mac

-- a word where it holds
abbrev pub flag : List ℕ → Bool → List ℕ
flag word holds = if holds then word else []

-- a bridge that filters has no VLAN of its own at first
abbrev pub filter_words : Bool → List ℕ
filter_words filtering = flag (codes " vlan_filtering 1 vlan_default_pvid 0") filtering

abbrev pub gateway : Option Addr → List ℕ
gateway None = []
gateway (Some via) = codes " via " ++ addr_text via

abbrev pub unusual : List ℕ → ℕ → ℕ → List ℕ
unusual word usual number = if number == usual then [] else word ++ decimal number

-- a route after the words that add or delete it; table 254 is the main one
abbrev pub route_line : List ℕ → RouteObject → List ℕ
route_line words r =
    words ++ cidr_text r.target ++ gateway r.via ++ codes " dev " ++ r.dev
    ++ unusual (codes " metric ") 0 r.metric ++ unusual (codes " table ") 254 r.table

-- a VLAN of a port, after the words that add or delete it
abbrev pub vlan_line : List ℕ → List ℕ → ℕ → List ℕ
vlan_line words port id = words ++ port ++ codes " vid " ++ decimal id

-- the line that puts an object
abbrev pub put_line : Object → List ℕ
put_line (object.Link name (Bridge mac filtering)) =
    codes "link add name " ++ name ++ own_address mac ++ codes " type bridge"
    ++ filter_words filtering
put_line (object.Link name (Vlan lower id mac)) =
    codes "link add link " ++ lower ++ codes " name " ++ name ++ own_address mac
    ++ codes " type vlan id " ++ decimal id
put_line (object.Mtu name mtu) = codes "link set dev " ++ name ++ codes " mtu " ++ decimal mtu
put_line (object.Mac name mac) = codes "link set dev " ++ name ++ codes " address " ++ mac_text mac
put_line (object.Master port bridge) = codes "link set dev " ++ port ++ codes " master " ++ bridge
put_line (object.Vlan bridge port id pvid untagged) =
    vlan_line (codes "bridge vlan add dev ") port id ++ flag (codes " pvid") pvid
    ++ flag (codes " untagged") untagged ++ flag (codes " self") (bytes_eq port bridge)
put_line (object.Up name) = codes "link set dev " ++ name ++ codes " up"
put_line (object.Address dev cidr) = codes "addr add " ++ cidr_text cidr ++ codes " dev " ++ dev
put_line (object.Route r) = route_line (codes "route add ") r

-- the line that takes an object, after which a device has this MTU and this hardware address of its
-- own again
abbrev pub take_line : Object → ℕ → Mac → List ℕ
take_line (object.Link name kind) own_mtu own_mac = codes "link del dev " ++ name
take_line (object.Mtu name mtu) own_mtu own_mac =
    codes "link set dev " ++ name ++ codes " mtu " ++ decimal own_mtu
take_line (object.Mac name mac) own_mtu own_mac =
    codes "link set dev " ++ name ++ codes " address " ++ mac_text own_mac
take_line (object.Master port bridge) own_mtu own_mac =
    codes "link set dev " ++ port ++ codes " nomaster"
take_line (object.Vlan bridge port id pvid untagged) own_mtu own_mac =
    vlan_line (codes "bridge vlan del dev ") port id ++ flag (codes " self") (bytes_eq port bridge)
take_line (object.Up name) own_mtu own_mac = codes "link set dev " ++ name ++ codes " down"
take_line (object.Address dev cidr) own_mtu own_mac =
    codes "addr del " ++ cidr_text cidr ++ codes " dev " ++ dev
take_line (object.Route r) own_mtu own_mac = route_line (codes "route del ") r

-- the line of a call, without its newline
abbrev pub line_of : Call → List ℕ
line_of (Put o) = put_line o
line_of (Take o mtu mac) = take_line o mtu mac

-- six bytes
abbrev pub IsMac : Mac → Type 0
IsMac mac = AreOctets 6 mac.0

abbrev pub IsOwnAddress : Option Mac → Type 0
IsOwnAddress None = ⊤
IsOwnAddress (Some mac) = IsMac mac

abbrev pub IsGateway : Option Addr → Type 0
IsGateway None = ⊤
IsGateway (Some via) = IsAddr via

pub record IsRoute (r : RouteObject) : Type 0 where
  pub target : IsCidr r.target
  pub via : IsGateway r.via
  pub named : is_name r.dev ≡ true
  pub metric : r.metric < 2 ^ 32
  pub table : r.table < 2 ^ 32

-- the names, addresses and numbers of an object are of their form, as those of the program are
abbrev pub IsPrintable : Object → Type 0
IsPrintable (object.Link name (Bridge mac filtering)) = (is_name name ≡ true) × IsOwnAddress mac
IsPrintable (object.Link name (Vlan lower id mac)) =
    (is_name name ≡ true) × (is_name lower ≡ true) × (id < 2 ^ 16) × IsOwnAddress mac
IsPrintable (object.Mtu name mtu) = (is_name name ≡ true) × (mtu < 2 ^ 32)
IsPrintable (object.Mac name mac) = (is_name name ≡ true) × IsMac mac
IsPrintable (object.Master port bridge) = (is_name port ≡ true) × (is_name bridge ≡ true)
IsPrintable (object.Vlan bridge port id pvid untagged) =
    (is_name bridge ≡ true) × (is_name port ≡ true) × (id < 2 ^ 16)
IsPrintable (object.Up name) = is_name name ≡ true
IsPrintable (object.Address dev cidr) = (is_name dev ≡ true) × IsCidr cidr
IsPrintable (object.Route r) = IsRoute r

-- both VLANs of bridges, of one port and one id, of which the line that puts one tells no bridge
abbrev pub HaveOneVlan : Object → Object → Type 0
HaveOneVlan (object.Vlan bridge port id pvid untagged)
    (object.Vlan other other_port other_id other_pvid other_untagged) =
    (port ≡ other_port) × (id ≡ other_id)
HaveOneVlan _ _ = ⊥

-- of one kind, of which the line that takes one tells its name alone: a link, an MTU, a hardware
-- address or a master; and of one name, which is that of the port for a master. Of a VLAN of a
-- bridge it tells the port and the id.
abbrev pub HaveOneName : Object → Object → Type 0
HaveOneName (object.Link name kind) (object.Link other other_kind) = name ≡ other
HaveOneName (object.Mtu name mtu) (object.Mtu other other_mtu) = name ≡ other
HaveOneName (object.Mac name mac) (object.Mac other other_mac) = name ≡ other
HaveOneName (object.Master port bridge) (object.Master other other_bridge) = port ≡ other
HaveOneName a b = HaveOneVlan a b
