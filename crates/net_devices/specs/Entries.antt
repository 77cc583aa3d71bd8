-- The words of `ports` in `bridge-vlan` sections (OpenWrt's network configuration). How the suffixes read is a rule of
-- our own.
use Rattle.std.specs.Prelude.{ℕ, Bool, true, false, not, List, [], ◌∷◌, ◌++◌, filter, Option, Some, None, is_some}
use Rattle.std.specs.Prelude.{if◌then◌else◌, codes, bytes_eq}
use Rattle.std.specs.List.{filter_map}
use Rattle.net_addr.specs.Byte.{colon}
use Rattle.net_rows.specs.Cut.{first_cut}
use Rattle.net_rows.specs.Stated.{name_of}
use Rattle.net_rows.specs.declared.rows.VlanEntry.{VlanEntry}
use Rattle.net_devices.specs.EachOnce.{has, each_once}

abbrev pub entry : List ℕ → Bool → Bool → Option VlanEntry
entry port pvid untagged = Some (record { port = port; pvid = pvid; untagged = untagged })

-- a port behind whose name stands this suffix: `u*` is untagged and PVID, `u` untagged, `t` tagged, `t*` tagged and
-- PVID
abbrev pub with_suffix : List ℕ → List ℕ → Option VlanEntry
with_suffix port suffix =
    if bytes_eq suffix (codes "u*") then entry port true true
    else (if bytes_eq suffix (codes "u") then entry port false true
    else (if bytes_eq suffix (codes "t") then entry port false false
    else (if bytes_eq suffix (codes "t*") then entry port true false else None)))

abbrev pub entry_at : Option (List ℕ) → List ℕ → Option VlanEntry
entry_at None suffix = None
entry_at (Some port) suffix = with_suffix port suffix

abbrev pub entry_named : List ℕ → List ℕ → Option VlanEntry
entry_named name suffix = entry_at (name_of name) suffix

-- a port without a suffix is untagged and PVID
abbrev pub entry_cut : List ℕ → Option (List ℕ × List ℕ) → Option VlanEntry
entry_cut word None = entry_named word (codes "u*")
entry_cut word (Some cut) = entry_named cut.0 cut.1

-- the port that a word is: a device name, and perhaps `:` and a suffix
abbrev pub entry_of : List ℕ → Option VlanEntry
entry_of word = entry_cut word (first_cut colon word)

abbrev pub is_entry : List ℕ → Bool
is_entry word = is_some (entry_of word)

-- the words that are ports, and those that are none
abbrev pub entries_of : List (List ℕ) → List VlanEntry
entries_of words = filter_map entry_of words

abbrev pub bad_words : List (List ℕ) → List (List ℕ)
bad_words words = each_once (filter (λ word. not (is_entry word)) words)

-- the entries of ports that are none of these, the first one of each port
abbrev pub first_behind : List (List ℕ) → List VlanEntry → List VlanEntry
first_behind ports [] = []
first_behind ports (entry ∷ entries) = if has ports entry.port then first_behind ports entries else entry
    ∷ first_behind (ports ++ entry.port ∷ []) entries

-- of several entries of one port only the first counts
abbrev pub first_entries : List VlanEntry → List VlanEntry
first_entries entries = first_behind [] entries

-- the ports of entries that are among these ports or have an earlier entry
abbrev pub repeated_behind : List (List ℕ) → List VlanEntry → List (List ℕ)
repeated_behind ports [] = []
repeated_behind ports (entry ∷ entries) = if has ports entry.port then entry.port ∷ repeated_behind ports entries
    else repeated_behind (ports ++ entry.port ∷ []) entries

-- the ports that have several entries
abbrev pub repeated_ports : List VlanEntry → List (List ℕ)
repeated_ports entries = each_once (repeated_behind [] entries)
