-- Gateways of interfaces (OpenWrt's static protocol).
use Rattle.std.specs.Prelude.{ℕ, Bool, ◌||◌, List, [], ◌++◌, codes, if◌then◌else◌}
use Rattle.net_addr.specs.declared.address.Addr.{Addr}
use Rattle.uci_tree.specs.declared.package.Opt.{Opt}
use Rattle.net_rows.specs.declared.stated.Stated.{Stated}
use Rattle.net_rows.specs.Options.{value_of}
use Rattle.net_rows.specs.Stated.{stated}
use Rattle.net_interfaces.specs.declared.address.Family.{Family}
use Rattle.net_interfaces.specs.declared.address.Family.TheVariants.{V4, V6}
use Rattle.net_interfaces.specs.Address.{addr_of}
use Rattle.net_interfaces.specs.Given.{is_unread, read_list}
use Rattle.net_interfaces.specs.Addresses.{is_static}

-- the address of a family that an option gives
abbrev pub stated_addr : Family → List ℕ → List Opt → Stated Addr
stated_addr family name options = stated (addr_of family) (value_of name options)

-- `gateway`, then `ip6gw`
abbrev pub static_gateways : List Opt → List Addr
static_gateways options =
    read_list (stated_addr V4 (codes "gateway") options) ++ read_list (stated_addr V6 (codes "ip6gw") options)

abbrev pub has_bad_gateway : List Opt → Bool
has_bad_gateway options =
    is_unread (stated_addr V4 (codes "gateway") options) || is_unread (stated_addr V6 (codes "ip6gw") options)

-- the gateways of an interface, which are none where its protocol is another
abbrev pub gateways : List Opt → List Addr
gateways options = if is_static options then static_gateways options else []
