use Rattle.std.proofs.Common.{arith, subst, All, List, map, refl}
use Rattle.std.proofs.lemmas.List.{take_all}
use Rattle.std.proofs.lemmas.List.Elements.{All-more}
use Rattle.use_counts.specs.declared.node.Edge.{Edge}
use Rattle.use_counts.specs.Held.{member_of}
use Rattle.use_counts.specs.Network.{Rises}
use Rattle.use_counts.proofs.nodes.Nodes.all_rise.Goals as goal

pub loop-edge-preserved : goal.loop-edge-preserved
loop-edge-preserved c = record {
  rise = All-more (Rises (map member_of c.args.self.now)) c.args.edges.now c.loop-edge.edge-index (record { lower = 0; upper = 0 }) c.loop-edge-test.true c.loop-edge.invariant.rise
      (c.rises.ensures.0 c.if-not-rises.false);
}

pub returns : goal.returns
returns c = (λ _. subst (λ (es : List Edge). All (Rises (map member_of c.args.self.now)) es) (take_all c.loop-edge.edge-index c.args.edges.now (omega (arith, c.loop-edge-test.false))) c.loop-edge.invariant.rise, λ _. refl)
