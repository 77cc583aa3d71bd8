use Rattle.std.proofs.Common.{◌≡◌, ◌++◌, filter, take}
use Rattle.std.specs.List.{flat_map}
use Rattle.net_rules.specs.Rows.{is_vlan_of}
use Rattle.graph_rules.specs.State.{name_list}
use Rattle.graph_wishes.specs.Wishes.{vlan_mays}
use Rattle.graph_tables.specs.Wished.{wishes_at}
use Rattle.graph_tables.proofs.bridges.add_vlans.Given as goal

-- the VLANs of the rows so far
abbrev pub invariant-loop-row : goal.invariant-loop-row
invariant-loop-row l = l.wishes.items ≡ l.fn.wishes.items ++ wishes_at (name_list l.names) (flat_map (vlan_mays l.bridge l.ports) (filter (is_vlan_of l.bridge) (take l.row-index l.vlans)))
