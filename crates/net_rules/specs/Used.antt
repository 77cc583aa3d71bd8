-- Which names are used, and by how many.
use Rattle.std.specs.Prelude.{ℕ, ◌+◌, List, filter, length, Bool, ◌&&◌, ◌||◌, if◌then◌else◌}
use Rattle.std.specs.List.{list_any}
use Rattle.net_rows.specs.declared.rows.InterfaceRow.{InterfaceRow}
use Rattle.net_rules.specs.Levels.{by_levels}
use Rattle.net_rules.specs.Facts.{Facts}
use Rattle.net_rules.specs.Rows.{is_name, names_of, interfaces_of}
use Rattle.net_rules.specs.RadioPorts.{device_of}
use Rattle.net_rules.specs.Standing.{stands}
use Rattle.net_rules.specs.Available.{available}
use Rattle.net_rules.specs.Interfaces.{is_claimed, is_up, l3_device_of}

-- an interface uses its device where it claims it, and its layer-3 device where it is up
abbrev pub uses : Facts → List ℕ → InterfaceRow → Bool
uses facts name row =
    (is_claimed facts row && is_name (device_of facts row) name)
    || (is_up facts row && is_name (l3_device_of facts row) name)

-- By what is above, whether a name is used: it is available, and an interface uses it, or it is an
-- own port of a used bridge or the lower of a used VLAN.
abbrev pub serves_at : Facts → (List ℕ → Bool) → List ℕ → Bool
serves_at facts above name =
    available facts name
    && (list_any (uses facts name) (interfaces_of facts.conf)
    || list_any (λ upper. stands facts name upper && above upper) (names_of facts.conf))

-- a name is used; the answer looks eight levels up
unfoldable pub used : Facts → List ℕ → Bool
used facts name = by_levels 8 (serves_at facts) name

-- the number of those that use a name: interfaces, each once, bridges and VLANs
abbrev pub users : Facts → List ℕ → ℕ
users facts name =
    if available facts name
    then length (filter (uses facts name) (interfaces_of facts.conf))
    + length (filter (λ upper. stands facts name upper && used facts upper) (names_of facts.conf))
    else 0
