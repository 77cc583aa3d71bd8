-- Which rule rewrites a section of an old network file, and what it makes of the section (OpenWrt's network
-- configuration, the change of its syntax in release 21.02).
use Rattle.std.specs.Prelude.{ℕ, Bool, true, not, ◌&&◌, ◌==◌, length, List, ◌++◌, if◌then◌else◌, codes, bytes_eq}
use Rattle.std.specs.List.{list_any}
use Rattle.uci_tree.specs.declared.package.Opt.{Opt}
use Rattle.uci_tree.specs.declared.package.Section.{Section}
use Rattle.uci_tree.specs.Anonymous.{anonymous_name}
use Rattle.net_rows.specs.Options.{is_given}
use Rattle.net_modern.specs.Options.{without, has_text, ifname_words, with_ports, on_device, on_bridge, of_bridge}

abbrev pub is_device : Section → Bool
is_device section = bytes_eq section.kind (codes "device")

abbrev pub is_named_interface : Section → Bool
is_named_interface section = not section.anonymous && bytes_eq section.kind (codes "interface")

-- the type of the link is `bridge`
abbrev pub is_bridge : Section → Bool
is_bridge section = has_text (codes "type") (codes "bridge") section.options

abbrev pub has : List ℕ → Section → Bool
has name section = is_given name section.options

-- First: a `device` section of type `bridge` with `ifname`, whose words are its ports.
abbrev pub is_old_bridge : Section → Bool
is_old_bridge section = is_device section && is_bridge section && has (codes "ifname") section

-- Second: a named `interface` of type `bridge` without `device`, where no `device` section has the name of its bridge.
abbrev pub is_bridged : Section → Bool
is_bridged section = is_named_interface section && is_bridge section && not (has (codes "device") section)

-- the bridge of an interface
abbrev pub bridge_name : Section → List ℕ
bridge_name section = codes "br-" ++ section.name

abbrev pub is_device_named : List ℕ → Section → Bool
is_device_named name section = is_device section && has_text (codes "name") name section.options

-- a `device` section has the name
abbrev pub has_device : List Section → List ℕ → Bool
has_device sections name = list_any (is_device_named name) sections

-- a named `interface` without `type`
abbrev pub is_untyped : Section → Bool
is_untyped section = is_named_interface section && not (has (codes "type") section)

-- Third: such an interface without `device`, whose `ifname` is one word: this is its device.
abbrev pub is_on_one_device : Section → Bool
is_on_one_device section = is_untyped section && not (has (codes "device") section)
    && (length (ifname_words section.options) == 1)

-- Fourth: such an interface with `ifname` and `device`: `ifname` goes.
abbrev pub has_both : Section → Bool
has_both section = is_untyped section && has (codes "ifname") section && has (codes "device") section

abbrev pub with_options : Section → List Opt → Section
with_options section options = record section { options = options }

-- a section by the rules that look at it alone: the first, the third and the fourth
abbrev pub rewritten : Section → Section
rewritten section =
    if is_old_bridge section then with_options section (with_ports section.options)
    else (if is_on_one_device section then with_options section (on_device section.options)
    else (if has_both section then with_options section (without (codes "ifname") section.options)
    else section))

-- an interface over its bridge, and the anonymous `device` section of the bridge, which is added as this one of the
-- package's
abbrev pub over_bridge : Section → Section
over_bridge section = with_options section (on_bridge (bridge_name section) section.options)

abbrev pub bridge_section : ℕ → Section → Section
bridge_section ordinal section = record {
  name = anonymous_name ordinal (codes "device");
  anonymous = true;
  kind = codes "device";
  options = of_bridge (bridge_name section) section.options;
}
