-- VLANs of bridges (`bridge-vlan` sections of OpenWrt's network configuration).
use Rattle.std.specs.Prelude.{ℕ, ◌==◌, Bool, true, false, not, ◌&&◌, sum_by, length, List, [], ◌∷◌, ◌++◌, map, filter}
use Rattle.std.specs.Prelude.{Option, Some, None, if◌then◌else◌, codes, bytes_eq, fold}
use Rattle.std.specs.List.{list_any}
use Rattle.uci_tree.specs.declared.package.Opt.{Opt}
use Rattle.uci_tree.specs.declared.package.Section.{Section}
use Rattle.kern_model.specs.declared.vlan_name.TheConstants.{LEAST_VLAN_ID, MOST_VLAN_ID}
use Rattle.net_rows.specs.declared.stated.Stated.{Stated}
use Rattle.net_rows.specs.declared.stated.Stated.TheVariants.{Absent, Unread, Read}
use Rattle.net_rows.specs.Number.{number_within}
use Rattle.net_rows.specs.Options.{value_of, text_of}
use Rattle.net_rows.specs.Stated.{stated, name_of}
use Rattle.net_rows.specs.Truth.{truth}
use Rattle.net_rows.specs.declared.fault_name.FaultName.TheVariants as fault
use Rattle.net_rows.specs.declared.rows.RowFault.{RowFault}
use Rattle.net_rows.specs.declared.rows.VlanEntry.{VlanEntry}
use Rattle.net_rows.specs.declared.rows.VlanRow.{VlanRow}
use Rattle.net_devices.specs.declared.said.Said.{Said}
use Rattle.net_devices.specs.declared.bridge_vlans.VlanSaid.{VlanSaid}
use Rattle.net_devices.specs.Said.{port_words}
use Rattle.net_devices.specs.Entries.{entries_of, bad_words, first_entries, repeated_ports}
use Rattle.net_devices.specs.Levels.{is_bridge}
use Rattle.net_devices.specs.Kinds.{if_read, id_or_zero, is_name}
use Rattle.net_devices.specs.Faults.{about, if_so, is_read}

-- the bridge of a row that counts
abbrev pub counted_bridge : VlanRow → Option (List ℕ)
counted_bridge row = if row.passed_over then None else row.bridge

abbrev pub is_vlan : List ℕ → ℕ → VlanRow → Bool
is_vlan bridge id row = is_name bridge (counted_bridge row) && (row.id == id)

-- an earlier row that counts is the same VLAN of the same bridge
abbrev pub is_repeated : List VlanRow → Option (List ℕ) → ℕ → Bool
is_repeated earlier None id = false
is_repeated earlier (Some bridge) id = list_any (is_vlan bridge id) earlier

abbrev pub gives_pvid : List ℕ → VlanEntry → Bool
gives_pvid port entry = entry.pvid && bytes_eq entry.port port

abbrev pub row_gives_pvid : List ℕ → List ℕ → VlanRow → Bool
row_gives_pvid bridge port row = is_name bridge (counted_bridge row) && list_any (gives_pvid port) row.entries

-- an earlier row that counts gave this port of this bridge its PVID
abbrev pub has_pvid : List VlanRow → Option (List ℕ) → List ℕ → Bool
has_pvid earlier None port = false
has_pvid earlier (Some bridge) port = list_any (row_gives_pvid bridge port) earlier

-- a second PVID of a port does not count, but its entry does
abbrev pub is_second : List VlanRow → Option (List ℕ) → VlanEntry → Bool
is_second earlier bridge entry = entry.pvid && has_pvid earlier bridge entry.port

abbrev pub with_one_pvid : List VlanRow → Option (List ℕ) → VlanEntry → VlanEntry
with_one_pvid earlier bridge entry = if is_second earlier bridge entry then record entry { pvid = false } else entry

-- the name is given, and is a bridge
abbrev pub is_stated_bridge : List Said → Stated (List ℕ) → Bool
is_stated_bridge said Absent = false
is_stated_bridge said Unread = false
is_stated_bridge said (Read name) = is_bridge said name

-- what a `bridge-vlan` section with these options says; `local` is true unless it is given
abbrev pub vlan_said : List Opt → VlanSaid
vlan_said options = record {
  bridge = stated name_of (value_of (codes "device") options);
  id = stated (number_within LEAST_VLAN_ID MOST_VLAN_ID) (value_of (codes "vlan") options);
  local = truth true (text_of (codes "local") options);
  words = port_words options;
}

-- the faults that pass a row over
abbrev pub passing_faults : List Said → List VlanRow → VlanSaid → List RowFault
passing_faults said earlier vlan =
    if_so (not (is_stated_bridge said vlan.bridge)) fault.NoBridge
    ++ if_so (not (is_read vlan.id)) fault.BadVid
    ++ if_so (is_repeated earlier (if_read vlan.bridge) (id_or_zero vlan.id)) fault.SameVlan

-- the faults of entries, told also where the row is passed over
abbrev pub entry_faults : List VlanRow → VlanSaid → List RowFault
entry_faults earlier vlan =
    map (about fault.BadPort) (bad_words vlan.words)
    ++ map (about fault.DoublePort) (repeated_ports (entries_of vlan.words))
    ++ map (λ entry. about fault.SecondPvid entry.port)
    (filter (is_second earlier (if_read vlan.bridge)) (first_entries (entries_of vlan.words)))

-- the row of a `bridge-vlan` section behind these
abbrev pub vlan_row : List Said → List VlanRow → VlanSaid → VlanRow
vlan_row said earlier vlan = record {
  bridge = if_read vlan.bridge;
  id = id_or_zero vlan.id;
  local = vlan.local;
  passed_over = not (length (passing_faults said earlier vlan) == 0);
  entries = map (with_one_pvid earlier (if_read vlan.bridge)) (first_entries (entries_of vlan.words));
  faults = passing_faults said earlier vlan ++ entry_faults earlier vlan;
}

abbrev pub is_vlan_section : Section → Bool
is_vlan_section section = bytes_eq section.kind (codes "bridge-vlan")

-- the rows with one more, of a section
abbrev pub with_vlan : List Said → List VlanRow → Section → List VlanRow
with_vlan said earlier section = if is_vlan_section section then earlier
    ++ vlan_row said earlier (vlan_said section.options) ∷ [] else earlier

-- the rows of the `bridge-vlan` sections, in file order
abbrev pub vlan_rows : List Said → List Section → List VlanRow
vlan_rows said sections = fold (with_vlan said) [] sections

-- how many entries the rows have
abbrev pub entry_count : List VlanRow → ℕ
entry_count rows = sum_by (λ row. length row.entries) rows
