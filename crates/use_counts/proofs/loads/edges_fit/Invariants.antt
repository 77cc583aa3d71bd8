use Rattle.std.proofs.Common.{All, take, map}
use Rattle.use_counts.specs.Network.{Rises, loaded}
use Rattle.use_counts.proofs.loads.edges_fit.Given as goal

abbrev pub invariant-loop-edge : goal.invariant-loop-edge
invariant-loop-edge l = record { fit : All (Rises (map loaded l.rows)) (take l.edge-index l.edges) }
