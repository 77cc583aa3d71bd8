-- How names are kept.
use Rattle.std.specs.Prelude.{List, map}
use Rattle.graph_rules.specs.State.{Named}
use Rattle.graph_names.specs.declared.names.Names.TheInside.{Inside}
use Rattle.graph_names.specs.Table.{named}

-- the names in the order of their ids
abbrev pub names_view : Inside → List Named
names_view n = map (λ e. named e.0 e.1) n.told.entries
