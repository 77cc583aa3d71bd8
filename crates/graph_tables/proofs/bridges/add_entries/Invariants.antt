use Rattle.std.proofs.Common.{◌≡◌, ◌++◌, map, filter, take}
use Rattle.graph_rules.specs.State.{name_list}
use Rattle.graph_wishes.specs.Wishes.{may_entry, is_own_entry}
use Rattle.graph_tables.specs.Wished.{wishes_at}
use Rattle.graph_tables.proofs.bridges.add_entries.Given as goal

-- the VLANs of the entries so far
abbrev pub invariant-loop-entry : goal.invariant-loop-entry
invariant-loop-entry l = l.wishes.items ≡ l.fn.wishes.items ++ wishes_at (name_list l.names) (map (may_entry l.bridge l.row.id) (filter (is_own_entry l.ports) (take l.entry-index l.entries)))
