-- Addresses of interfaces (OpenWrt's static protocol).
use Rattle.std.specs.Prelude.{ℕ, Bool, ◌||◌, is_none, List, [], ◌++◌, codes, bytes_eq, filter_map, if◌then◌else◌}
use Rattle.std.specs.Option.{unwrap_or}
use Rattle.std.specs.List.{list_any}
use Rattle.net_addr.specs.declared.address.Addr.{Addr}
use Rattle.uci_tree.specs.declared.package.Opt.{Opt}
use Rattle.net_rows.specs.declared.stated.Stated.{Stated}
use Rattle.net_rows.specs.Options.{value_of, text_of}
use Rattle.net_rows.specs.Stated.{stated}
use Rattle.net_interfaces.specs.declared.kinds.TheConstants.{STATIC, NONE}
use Rattle.net_interfaces.specs.declared.address.Family.{Family}
use Rattle.net_interfaces.specs.declared.address.Family.TheVariants.{V4, V6}
use Rattle.net_interfaces.specs.Address.{bits_of}
use Rattle.net_interfaces.specs.Mask.{mask_of}
use Rattle.net_interfaces.specs.Prefix.{prefix_of}
use Rattle.net_interfaces.specs.Given.{read_or, option_words}

-- the protocol, `none` where no text gives one
abbrev pub proto_of : List Opt → List ℕ
proto_of options = unwrap_or (text_of (codes "proto") options) NONE.now

abbrev pub is_static : List Opt → Bool
is_static options = bytes_eq (proto_of options) STATIC.now

-- `netmask`
abbrev pub stated_mask : List Opt → Stated ℕ
stated_mask options = stated mask_of (value_of (codes "netmask") options)

-- the length that an IPv4 address without one has: that of `netmask`, and else that of a host
abbrev pub alone_v4 : List Opt → ℕ
alone_v4 options = read_or (bits_of V4) (stated_mask options)

-- the prefixes among words
abbrev pub prefixes : Family → ℕ → List (List ℕ) → List (Addr × ℕ)
prefixes family alone words = filter_map (prefix_of family alone) words

-- some word is no prefix
abbrev pub has_bad_prefix : Family → ℕ → List (List ℕ) → Bool
has_bad_prefix family alone words = list_any (λ word. is_none (prefix_of family alone word)) words

-- those of `ipaddr`, then those of `ip6addr`
abbrev pub static_addresses : List Opt → List (Addr × ℕ)
static_addresses options =
    prefixes V4 (alone_v4 options) (option_words (codes "ipaddr") options)
    ++ prefixes V6 (bits_of V6) (option_words (codes "ip6addr") options)

abbrev pub has_bad_address : List Opt → Bool
has_bad_address options =
    has_bad_prefix V4 (alone_v4 options) (option_words (codes "ipaddr") options)
    || has_bad_prefix V6 (bits_of V6) (option_words (codes "ip6addr") options)

-- the addresses of an interface, which are none where its protocol is another
abbrev pub addresses : List Opt → List (Addr × ℕ)
addresses options = if is_static options then static_addresses options else []
