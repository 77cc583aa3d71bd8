use Rattle.std.proofs.Common.{All, take, map}
use Rattle.use_counts.specs.Held.{member_of}
use Rattle.use_counts.specs.Network.{Rises}
use Rattle.use_counts.proofs.nodes.Nodes.all_rise.Given as goal

abbrev pub invariant-loop-edge : goal.invariant-loop-edge
invariant-loop-edge l = record { rise : All (Rises (map member_of l.self)) (take l.edge-index l.edges) }
