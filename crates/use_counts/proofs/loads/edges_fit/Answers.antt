use Rattle.std.proofs.Common.{arith, subst, All, List, map, refl}
use Rattle.std.proofs.lemmas.List.{take_all}
use Rattle.std.proofs.lemmas.List.Elements.{All-more}
use Rattle.use_counts.specs.declared.node.Edge.{Edge}
use Rattle.use_counts.specs.Network.{Rises, loaded}
use Rattle.use_counts.proofs.loads.edges_fit.Goals as goal

pub loop-edge-preserved : goal.loop-edge-preserved
loop-edge-preserved c = record {
  fit = All-more (Rises (map loaded c.args.rows.now)) c.args.edges.now c.loop-edge.edge-index (record { lower = 0; upper = 0 }) c.loop-edge-test.true c.loop-edge.invariant.fit
      (c.edge_fits.ensures.0 c.if-not-edge_fits.false);
}

pub returns : goal.returns
returns c = (λ _. subst (λ (es : List Edge). All (Rises (map loaded c.args.rows.now)) es) (take_all c.loop-edge.edge-index c.args.edges.now (omega (arith, c.loop-edge-test.false))) c.loop-edge.invariant.fit, λ _. refl)
