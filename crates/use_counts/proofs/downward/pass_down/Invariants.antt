use Rattle.std.proofs.Common.{◌≤◌, length}
use Rattle.use_counts.specs.NodeRule.{rank_of}
use Rattle.use_counts.specs.Held.{DownTo}
use Rattle.use_counts.specs.Uses.{AreMarked}
use Rattle.use_counts.proofs.downward.pass_down.Given as goal

abbrev pub invariant-loop-turn : goal.invariant-loop-turn
invariant-loop-turn g l =
    record {
      within : l.turn ≤ length l.topology.order.items;
      down : DownTo l.topology.edges.items (rank_of l.topology.ranks.items) l.turn l.fn.nodes l.nodes l.fn.steps l.steps;
      uses : AreMarked l.fn.nodes l.nodes l.fn.uses l.uses;
    }

abbrev pub decreases-loop-turn : goal.decreases-loop-turn
decreases-loop-turn g l = l.turn
