-- A list of names with one more.
use Rattle.std.specs.Prelude.{ℕ, List, [], ◌∷◌, ◌++◌}
use Rattle.graph_rules.specs.State.{Named}
use Rattle.graph_names.specs.declared.names.Told.{Told}

-- a name with what is told of it
abbrev pub named : List ℕ → Told → Named
named name told = record { name = name; device = told.device; claims = told.claims }

-- a name at the end
abbrev pub with_told : List Named → List ℕ → Told → List Named
with_told names name told = names ++ named name told ∷ []
