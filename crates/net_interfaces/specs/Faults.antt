-- What is wrong with `interface` sections, in the order in which a row tells it (OpenWrt's network configuration; the
-- names of the faults are our own).
use Rattle.std.specs.Prelude.{ℕ, Bool, false, ◌||◌, ◌==◌, List, [], ◌∷◌, ◌++◌, Option, Some, None, codes, if◌then◌else◌}
use Rattle.uci_tree.specs.declared.package.Opt.{Opt}
use Rattle.net_rows.specs.declared.stated.Stated.{Stated}
use Rattle.net_rows.specs.Options.{value_of, text_of, is_given}
use Rattle.net_rows.specs.Stated.{stated, name_of}
use Rattle.net_rows.specs.Number.{decimal_of}
use Rattle.net_rows.specs.declared.fault_name.FaultName.TheVariants as fault
use Rattle.net_rows.specs.declared.rows.RowFault.{RowFault}
use Rattle.net_interfaces.specs.Given.{is_unread, if_so}
use Rattle.net_interfaces.specs.Addresses.{is_static, stated_mask, has_bad_address}
use Rattle.net_interfaces.specs.Gateways.{has_bad_gateway}

-- `device`
abbrev pub stated_device : List Opt → Stated (List ℕ)
stated_device options = stated name_of (value_of (codes "device") options)

-- `metric`
abbrev pub stated_metric : List Opt → Stated ℕ
stated_metric options = stated decimal_of (value_of (codes "metric") options)

-- the byte `@`
abbrev pub at_sign : ℕ
at_sign = 64

abbrev pub begins_with_at : List ℕ → Bool
begins_with_at [] = false
begins_with_at (byte ∷ bytes) = byte == at_sign

-- a text that names another interface, as `@lan`
abbrev pub names_interface : Option (List ℕ) → Bool
names_interface None = false
names_interface (Some text) = begins_with_at text

abbrev pub is_alias : List Opt → Bool
is_alias options = names_interface (text_of (codes "device") options)

-- it has an option of the syntax before release 21.02
abbrev pub is_old : List Opt → Bool
is_old options = is_given (codes "type") options || is_given (codes "ifname") options

-- faults of the options that the static protocol alone has
abbrev pub static_faults : List Opt → List RowFault
static_faults options =
    if_so (has_bad_address options) fault.BadAddress ++ if_so (is_unread (stated_mask options)) fault.BadMask
    ++ if_so (has_bad_gateway options) fault.BadGateway

abbrev pub protocol_faults : List Opt → List RowFault
protocol_faults options = if is_static options then static_faults options else []

-- the faults of an interface
abbrev pub faults : List Opt → List RowFault
faults options =
    if_so (is_unread (stated_device options)) fault.BadDevice ++ if_so (is_alias options) fault.Alias
    ++ protocol_faults options ++ if_so (is_unread (stated_metric options)) fault.BadMetric
    ++ if_so (is_old options) fault.OldSyntax
