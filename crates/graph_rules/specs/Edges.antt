-- The edges of a graph, and those at names of which an answer changed.
use Rattle.std.specs.Prelude.{ℕ, List, map, filter, length, Bool, true, false, not, ◌||◌}
use Rattle.std.specs.List.{flat_map}
use Rattle.net_rules.specs.Standing.{lowers_of}
use Rattle.graph_rules.specs.State.{Known}
use Rattle.graph_rules.specs.Answers.{standing_in, row_names, available_in, link_in, used_in}

-- a bridge and a port that it owns, or a VLAN and its lower
pub record Edge : Type 0 where
  pub upper : List ℕ
  pub lower : List ℕ

abbrev pub edges_of : Known → List ℕ → List Edge
edges_of s upper =
    map (λ lower. record { upper = upper; lower = lower }) (lowers_of (standing_in s upper))

abbrev pub edges_in : Known → List Edge
edges_in s = flat_map (edges_of s) (row_names s)

-- exactly one of two is true
abbrev pub differs : Bool → Bool → Bool
differs true b = not b
differs false b = b

-- an answer of a name differs between two graphs
abbrev pub has_changed : Known → Known → List ℕ → Bool
has_changed before after name =
    (differs (available_in before name) (available_in after name)
    || differs (link_in before name) (link_in after name))
    || differs (used_in before name) (used_in after name)

-- the edges with an end at a name of which an answer differs
unfoldable pub changed_edges : Known → Known → ℕ
changed_edges before after =
    length (filter (λ e. has_changed before after e.lower || has_changed before after e.upper)
    (edges_in before))
