-- Old network files, rewritten: what the checker computes.
use Rattle.std.proofs.Common.{◌≡◌, ℕ, ◌-◌, ◌^◌, List, [], ◌∷◌, true, false, codes, refl}
use Rattle.std.specs.Fmt.{digits}
use Rattle.uci_tree.specs.declared.package.Value.TheVariants.{One, Many}
use Rattle.uci_tree.specs.declared.package.Opt.{Opt}
use Rattle.uci_tree.specs.declared.package.Section.{Section}
use Rattle.uci_tree.specs.declared.package.Package.{Package}
use Rattle.net_modern.specs.Rewriting.{modern}

abbrev text : List ℕ → List ℕ → Opt
text name value = record { name = name; value = One value }

abbrev list : List ℕ → List (List ℕ) → Opt
list name items = record { name = name; value = Many items }

abbrev interface : List ℕ → List Opt → Section
interface name options = record { name = name; anonymous = false; kind = codes "interface"; options = options }

abbrev device : List ℕ → List Opt → Section
device name options = record { name = name; anonymous = true; kind = codes "device"; options = options }

abbrev network : ℕ → List Section → Package
network made sections = record { name = codes "network"; sections = sections; made = made }

-- the words of `ifname` are the ports of a bridge, also within the items of a list
ports_of_text : modern (network 1 (device (codes "d") (text (codes "type") (codes "bridge") ∷ text (codes "ifname") (codes " eth0  eth1") ∷ text (codes "mtu") (codes "1400") ∷ []) ∷ []))
    ≡ network 1 (device (codes "d") (text (codes "type") (codes "bridge") ∷ text (codes "mtu") (codes "1400") ∷ list (codes "ports") (codes "eth0" ∷ codes "eth1" ∷ []) ∷ []) ∷ [])
ports_of_text = refl

ports_of_list : modern (network 1 (device (codes "d") (text (codes "type") (codes "bridge") ∷ list (codes "ifname") (codes "a b" ∷ [] ∷ codes "c" ∷ []) ∷ []) ∷ []))
    ≡ network 1 (device (codes "d") (text (codes "type") (codes "bridge") ∷ list (codes "ports") (codes "a" ∷ codes "b" ∷ codes "c" ∷ []) ∷ []) ∷ [])
ports_of_list = refl

-- `ports` that are there stay, and no word is no port
ports_stay : modern (network 1 (device (codes "d") (text (codes "type") (codes "bridge") ∷ text (codes "ports") (codes "lan1") ∷ text (codes "ifname") (codes "eth0") ∷ []) ∷ []))
    ≡ network 1 (device (codes "d") (text (codes "type") (codes "bridge") ∷ text (codes "ports") (codes "lan1") ∷ []) ∷ [])
ports_stay = refl

no_ports : modern (network 1 (device (codes "d") (text (codes "type") (codes "bridge") ∷ text (codes "ifname") (codes "  ") ∷ []) ∷ []))
    ≡ network 1 (device (codes "d") (text (codes "type") (codes "bridge") ∷ []) ∷ [])
no_ports = refl

-- the `ifname` of a VLAN stays
vlan : Package
vlan = network 1 (device (codes "d") (text (codes "type") (codes "8021q") ∷ text (codes "ifname") (codes "eth0") ∷ []) ∷ [])

vlan_stays : modern vlan ≡ vlan
unfolding vlan
vlan_stays = refl

-- an interface goes over a bridge, which is added at the end, as the second section that was ever added
over_a_bridge : modern (network 1 (interface (codes "lan") (text (codes "type") (codes "bridge") ∷ text (codes "ifname") (codes "eth0 eth1") ∷ text (codes "macaddr") (codes "02:00:00:00:00:01") ∷ text (codes "proto") (codes "static")
    ∷ text (codes "mtu") (codes "1400") ∷ []) ∷ []))
    ≡ network 2 (
    interface (codes "lan") (text (codes "proto") (codes "static") ∷ text (codes "device") (codes "br-lan") ∷ [])
    ∷ device (codes "cfg020f15") (text (codes "name") (codes "br-lan") ∷ text (codes "type") (codes "bridge") ∷ list (codes "ports") (codes "eth0" ∷ codes "eth1" ∷ []) ∷ text (codes "mtu") (codes "1400")
    ∷ text (codes "macaddr") (codes "02:00:00:00:00:01") ∷ []) ∷ [])
unfolding digits
over_a_bridge = refl

-- a bridge of the name that is there, before or behind, is not added again
bridged : Package
bridged = network 2 (interface (codes "lan") (text (codes "type") (codes "bridge") ∷ []) ∷ device (codes "d") (text (codes "name") (codes "br-lan") ∷ []) ∷ [])

bridged_stays : modern bridged ≡ bridged
unfolding bridged
bridged_stays = refl

-- nor one that was added for an earlier section: the second section of the name stays as it is
one_bridge : modern (network 2 (interface (codes "a") (text (codes "type") (codes "bridge") ∷ []) ∷ interface (codes "a") (text (codes "type") (codes "bridge") ∷ []) ∷ []))
    ≡ network 3 (
    interface (codes "a") (text (codes "device") (codes "br-a") ∷ [])
    ∷ interface (codes "a") (text (codes "type") (codes "bridge") ∷ [])
    ∷ device (codes "cfg030f15") (text (codes "name") (codes "br-a") ∷ text (codes "type") (codes "bridge") ∷ []) ∷ [])
unfolding digits
one_bridge = refl

-- two bridges, in the order of their interfaces
two_bridges : modern (network 2 (interface (codes "a") (text (codes "type") (codes "bridge") ∷ []) ∷ interface (codes "b") (text (codes "type") (codes "bridge") ∷ []) ∷ []))
    ≡ network 4 (
    interface (codes "a") (text (codes "device") (codes "br-a") ∷ [])
    ∷ interface (codes "b") (text (codes "device") (codes "br-b") ∷ [])
    ∷ device (codes "cfg030f15") (text (codes "name") (codes "br-a") ∷ text (codes "type") (codes "bridge") ∷ [])
    ∷ device (codes "cfg040f15") (text (codes "name") (codes "br-b") ∷ text (codes "type") (codes "bridge") ∷ []) ∷ [])
unfolding digits
two_bridges = refl

-- one word is the device, and two are left as they are
on_a_device : modern (network 1 (interface (codes "wan") (text (codes "ifname") (codes " eth2 ") ∷ text (codes "proto") (codes "dhcp") ∷ []) ∷ []))
    ≡ network 1 (interface (codes "wan") (text (codes "proto") (codes "dhcp") ∷ text (codes "device") (codes "eth2") ∷ []) ∷ [])
on_a_device = refl

two_words : Package
two_words = network 1 (interface (codes "x") (text (codes "ifname") (codes "eth0 eth1") ∷ []) ∷ [])

two_words_stay : modern two_words ≡ two_words
unfolding two_words
two_words_stay = refl

-- `ifname` beside `device` goes
both_given : modern (network 1 (interface (codes "x") (text (codes "ifname") (codes "eth0 eth1") ∷ text (codes "device") (codes "eth2") ∷ []) ∷ []))
    ≡ network 1 (interface (codes "x") (text (codes "device") (codes "eth2") ∷ []) ∷ [])
both_given = refl

-- an anonymous interface stays
anonymous : Package
anonymous = network 1 (record { name = codes "cfg01"; anonymous = true; kind = codes "interface"; options = text (codes "ifname") (codes "eth0") ∷ [] } ∷ [])

anonymous_stays : modern anonymous ≡ anonymous
unfolding anonymous
anonymous_stays = refl

-- An added section may have the name of another: the smallest case. A valid package may have two sections of one name.
same_name : modern (network 1 (interface (codes "cfg020f15") (text (codes "type") (codes "bridge") ∷ []) ∷ []))
    ≡ network 2 (
    interface (codes "cfg020f15") (text (codes "device") (codes "br-cfg020f15") ∷ [])
    ∷ device (codes "cfg020f15") (text (codes "name") (codes "br-cfg020f15") ∷ text (codes "type") (codes "bridge") ∷ []) ∷ [])
unfolding digits
same_name = refl

-- the count stands still at the end of its 64 bits
at_the_end : modern (network (2 ^ 64 - 1) (interface (codes "a") (text (codes "type") (codes "bridge") ∷ []) ∷ []))
    ≡ network (2 ^ 64 - 1) (
    interface (codes "a") (text (codes "device") (codes "br-a") ∷ [])
    ∷ device (codes "cfgffffffffffffffff0f15") (text (codes "name") (codes "br-a") ∷ text (codes "type") (codes "bridge") ∷ []) ∷ [])
unfolding digits
at_the_end = refl
