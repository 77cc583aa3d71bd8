-- What may be wanted, with ids in place of names.
use Rattle.std.specs.Prelude.{ℕ, List, [], ◌++◌, map, false}
use Rattle.kern_model.specs.declared.object.Object.{Object}
use Rattle.net_rows.specs.declared.rows.NameRow.{NameRow}
use Rattle.net_rows.specs.declared.rows.VlanRow.{VlanRow}
use Rattle.net_rules.specs.Standing.{Alone, Over, Ports, standing_of_row}
use Rattle.net_rules.specs.Want.{mtu_of}
use Rattle.graph_rules.specs.declared.ids.RadioPort.{RadioPort}
use Rattle.graph_rules.specs.State.{Named, Known, names_in}
use Rattle.graph_rules.specs.Answers.{given_ports, port_of}
use Rattle.graph_counts.specs.Counted.{id_of}
use Rattle.graph_objects.specs.declared.slot.Wish.{Wish}
use Rattle.graph_wishes.specs.Wishes.{May, may_alone, mays_by, is_used_may}

abbrev pub known : List NameRow → List VlanRow → List Named → List RadioPort → Known
known rows vlans names radio =
    record { rows = rows; vlans = vlans; names = names; radio = radio }

-- an object with the names that decide it
abbrev pub may_by : Object → List ℕ → List ℕ → May
may_by o first second = record { object = o; first = first; second = second }

-- what may be wanted and is not yet
abbrev pub wish_at : List (List ℕ) → May → Wish
wish_at names m =
    record {
      object = m.object;
      first = id_of names m.first;
      second = id_of names m.second;
      wanted = false;
    }

abbrev pub wishes_at : List (List ℕ) → List May → List Wish
wishes_at names ms = map (wish_at names) ms

-- what may be wanted, and is where both names are used
abbrev pub wish_in : Known → May → Wish
wish_in s m = record (wish_at (names_in s) m) { wanted = is_used_may s m }

-- rows of VLANs without any names
abbrev pub with_vlans : List VlanRow → Known
with_vlans vlans = known [] vlans [] []

-- what a plain name, a bridge with all its ports, and a VLAN may want beside the MTU
abbrev pub plain_mays : NameRow → List May
plain_mays row = mays_by (with_vlans []) row.name row.mac (Alone false)

abbrev pub bridge_mays : List VlanRow → NameRow → List (List ℕ) → List May
bridge_mays vlans row ports = mays_by (with_vlans vlans) row.name row.mac (Ports false ports)

abbrev pub over_mays : NameRow → List ℕ → ℕ → List May
over_mays row lower id = mays_by (with_vlans []) row.name row.mac (Over lower id)

-- what the row of a name may want, beside its MTU and with it
abbrev pub standing_mays : List VlanRow → List RadioPort → NameRow → List May
standing_mays vlans radio row =
    mays_by (with_vlans vlans) row.name row.mac
    (standing_of_row row (given_ports (map port_of radio) row.name))

abbrev pub row_mays : List VlanRow → List RadioPort → NameRow → List May
row_mays vlans radio row =
    map (may_alone row.name) (mtu_of row.name row.mtu) ++ standing_mays vlans radio row
