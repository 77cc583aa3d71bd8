-- What a graph keeps of its nodes and edges.
use Rattle.std.specs.Prelude.{◌≡◌, ◌≤◌, ℕ, length, map, take, drop, vec_len}
use Rattle.use_counts.specs.declared.graph.Graph.TheInside.{Inside}
use Rattle.use_counts.specs.NodeRule.{rank_at, rank_of}
use Rattle.use_counts.specs.Held.{IsCalm, member_of}
use Rattle.use_counts.specs.Network.{Network, HasLevels}

abbrev pub network_of : Inside → Network
network_of g =
    record {
      members = map member_of g.nodes;
      fixed = take g.fixed g.topology.edges.items;
      ports = drop g.fixed g.topology.edges.items;
    }

-- all is computed, and the order of ranks is that of the edges
pub record IsSound (g : Inside) : Type 0 where
  pub rest : IsCalm g.topology.edges.items g.nodes
  pub size : length g.nodes ≡ vec_len g.topology.uppers
  pub ranks : (k : ℕ) → rank_at g.nodes k ≡ rank_of g.topology.ranks.items k
  pub parts : g.fixed ≤ length g.topology.edges.items
  pub levels : HasLevels (network_of g)
