-- What is shown of devices.
use Rattle.std.specs.Prelude.{ℕ, List, [], ◌∷◌, ◌++◌, map, filter, codes, Bool, true, false, not, ◌&&◌, ◌||◌, Option}
use Rattle.std.specs.Prelude.{Some, None, is_some, if◌then◌else◌, bytes_eq}
use Rattle.std.specs.List.{find, flat_map}
use Rattle.serde_json.specs.Data.{Data, boolean, object, member, no_members}
use Rattle.net_rows.specs.declared.fault_name.FaultName.{FaultName}
use Rattle.net_rows.specs.declared.fault_name.FaultName.TheVariants as fault
use Rattle.net_rows.specs.declared.rows.RowFault.{RowFault}
use Rattle.net_rows.specs.declared.rows.NameRow.{NameRow}
use Rattle.net_rows.specs.declared.rows.VlanRow.{VlanRow}
use Rattle.net_rows.specs.declared.rows.NameKind.{NameKind}
use Rattle.net_rows.specs.declared.rows.NameKind.TheVariants.{Plain, Bridge, Vlan}
use Rattle.net_rules.specs.declared.inputs.Inputs.{Inputs}
use Rattle.net_rules.specs.Facts.{Facts}
use Rattle.net_rules.specs.Rows.{row_at, kind_at, is_plain, is_name}
use Rattle.net_rules.specs.Available.{is_present, available, link}
use Rattle.net_rules.specs.Used.{used, users}
use Rattle.net_rules.specs.Inputs.{facts_of}
use Rattle.net_status.specs.Values.{text, list, whole}
use Rattle.net_status.specs.Faults.{fault_item, taken_item}

abbrev pub kind_word : NameKind → List ℕ
kind_word Plain = codes "Network device"
kind_word (Bridge empty ports) = codes "bridge"
kind_word (Vlan lower id) = codes "8021q"

-- the fault is of an option that is passed over, which does not make the device unavailable
abbrev pub is_of_value : FaultName → Bool
is_of_value fault.BadMtu = true
is_of_value fault.BadMac = true
is_of_value other = false

-- a made name that is present is taken
abbrev pub is_taken : Facts → List ℕ → Bool
is_taken facts name = not (is_plain facts.conf name) && is_present facts name

abbrev pub taken_items : Facts → List ℕ → List Data
taken_items facts name = if is_taken facts name then taken_item ∷ [] else []

-- The faults of the name's row; that it is taken stands in front of faults of options that are
-- passed over.
abbrev pub device_faults : Facts → List ℕ → List RowFault → List Data
device_faults facts name faults =
    map fault_item (filter (λ found. not (is_of_value found.name)) faults)
    ++ (taken_items facts name
    ++ map fault_item (filter (λ found. is_of_value found.name) faults))

-- the name has a row
abbrev pub has_row : List NameRow → List ℕ → Bool
has_row rows name = is_some (find (λ row. bytes_eq row.name name) rows)

-- the faults of a row of `bridge-vlan` that names this device
abbrev pub faults_on : List ℕ → VlanRow → List RowFault
faults_on name row = if is_name row.bridge name then row.faults else []

-- The faults of the `bridge-vlan` rows that name it, in file order, where the name has a row.
abbrev pub vlan_faults : Facts → List ℕ → List RowFault
vlan_faults facts name =
    if has_row facts.conf.names name then flat_map (faults_on name) facts.conf.vlans else []

-- its own faults, and behind them those of its VLAN rows
abbrev pub device_errors : Facts → List ℕ → List Data
device_errors facts name =
    device_faults facts name (row_at facts.conf.names name).faults
    ++ map fault_item (vlan_faults facts name)

-- `carrier` is whether it has link, and `up` whether it is used
abbrev pub device_shown : Facts → List ℕ → Data
device_shown facts name =
    object (member (codes "available") (boolean (available facts name))
    (member (codes "carrier") (boolean (link facts name))
    (member (codes "errors")
    (list (device_errors facts name))
    (member (codes "name") (text name)
    (member (codes "type") (text (kind_word (kind_at facts.conf name)))
    (member (codes "up") (boolean (used facts name))
    (member (codes "users") (whole (users facts name)) no_members)))))))

-- a name that is present or has a row
abbrev pub is_shown : Facts → List ℕ → Bool
is_shown facts name =
    is_present facts name || has_row facts.conf.names name

-- the device of a name
abbrev pub device_status : Inputs → List ℕ → Option Data
device_status inputs name =
    if is_shown (facts_of inputs) name then Some (device_shown (facts_of inputs) name) else None
