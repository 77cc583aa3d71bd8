-- How a graph is kept.
use Rattle.std.specs.Prelude.{◌≡◌, ◌≤◌, [], map, length, Option, Some, None}
use Rattle.graph_rules.specs.State.{Known, State, nothing_known}
use Rattle.graph_objects.specs.Marks.{held_of}
use Rattle.graph_tables.specs.Wishes.{mays}
use Rattle.dev_graph.specs.declared.graph.Graph.TheInside.{Inside}
use Rattle.graph_tables.specs.Wished.{wish_in}
use Rattle.graph_tables.specs.Lists.{AreUsed, HaveSame}
use Rattle.graph_tables.specs.Whole.{IsWhole}

-- what is known of the names; before the first load nothing
abbrev pub known_in : Option Known → Known
known_in None = nothing_known
known_in (Some s) = s

abbrev pub state_of : Inside → State
state_of g = record { known = known_in g.names; held = held_of g.objects; loads = g.loads }

-- What is known is sound. There is a mark for each id, which says whether its name is used. There is room
-- for all ids whose use may change, and between calls none is noted. What may be wanted is what the names
-- may want, each wanted where both of its names are used.
pub record IsTied (g : Inside) : Type 0 where
  pub whole : (s : Known) → g.names ≡ Some s → IsWhole s
  pub used : length g.used.items ≡ length (known_in g.names).names
  pub looked : AreUsed (known_in g.names) g.used.items
  pub room : length (known_in g.names).names ≤ g.uses.room
  pub none : g.uses.ids ≡ []
  pub wishes : HaveSame g.objects.wishes (map (wish_in (known_in g.names)) (mays (known_in g.names)))
