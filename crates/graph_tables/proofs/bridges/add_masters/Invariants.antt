use Rattle.std.proofs.Common.{◌≡◌, ◌++◌, map, take}
use Rattle.graph_rules.specs.State.{name_list}
use Rattle.graph_wishes.specs.Wishes.{may_master}
use Rattle.graph_tables.specs.Wished.{wishes_at}
use Rattle.graph_tables.proofs.bridges.add_masters.Given as goal

-- the masters so far
abbrev pub invariant-loop-port : goal.invariant-loop-port
invariant-loop-port l = l.wishes.items ≡ l.fn.wishes.items ++ wishes_at (name_list l.names) (map (may_master l.bridge) (take l.port-index l.ports))
