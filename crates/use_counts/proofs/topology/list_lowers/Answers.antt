use Rattle.std.proofs.Common.{arith}
use Rattle.use_counts.specs.Edges.{lower_end, upper_end, far_ends}
use Rattle.use_counts.proofs.EndsLemmas.{listed}
use Rattle.use_counts.proofs.topology.list_lowers.Goals as goal

pub loop-edge-init : goal.loop-edge-init
unfolding far_ends
loop-edge-init c = record { size = c.in_ok-lists.ensures.0; lists = λ k _. c.in_ok-lists.ensures.1 k }

pub loop-edge-preserved : goal.loop-edge-preserved
loop-edge-preserved c =
    let size = c.loop-edge.invariant.size in
    record {
      size = size;
      lists = λ k h. listed lower_end upper_end c.args.edges.now c.loop-edge.edge-index k _ c.loop-edge.lists.items c.index_mut.result.now c.push.new.self c.loop-edge-test.true
          (omega (arith, c.requires c.loop-edge.edge-index (record { lower = 0; upper = 0 }) c.loop-edge-test.true, size, c.loop-edge.lists.ok.0)) c.index_mut.ensures.value c.in_ok-push.ensures.items (c.loop-edge.invariant.lists k h);
    }
