use Rattle.std.proofs.Common.{◌≡◌, take}
use Rattle.std.specs.List.{flat_map}
use Rattle.graph_rules.specs.State.{name_list}
use Rattle.graph_wishes.specs.Wishes.{mays_of}
use Rattle.graph_tables.specs.Wished.{known, wishes_at}
use Rattle.graph_tables.proofs.wishes.wishes_of.Given as goal

-- what the names so far may want
abbrev pub invariant-loop-id : goal.invariant-loop-id
invariant-loop-id l = l.wishes.items ≡ wishes_at (name_list l.names) (flat_map (mays_of (known l.rows l.vlans l.names l.radio)) (take l.id (name_list l.names)))
