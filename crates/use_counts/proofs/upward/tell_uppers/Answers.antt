use Rattle.std.proofs.Common.{arith, ◌<◌, length, slice_index_or, length-set, ap, ◌∙◌}
use Rattle.use_counts.specs.declared.node.Node.{Node}
use Rattle.use_counts.specs.NodeRule.{node_at, after_lower}
use Rattle.use_counts.proofs.VisitLemmas.{told_next, occurs_now, left_before, fits_before}
use Rattle.use_counts.proofs.upward.tell_uppers.Goals as goal

pub node-requires : goal.node-requires
node-requires g c = omega (arith, c.requires.inside c.loop-upper.upper-index 0 c.loop-upper-test.true, c.loop-upper.invariant.size)

pub after_lower-node-requires-clause-ready_before : goal.after_lower-node-requires-clause-ready_before
after_lower-node-requires-clause-ready_before g c =
    let u = slice_index_or c.args.uppers.now c.loop-upper.upper-index 0 in
    let now = occurs_now c.args.uppers.now c.loop-upper.upper-index 0 c.loop-upper-test.true in
    let is = ap (λ (n : Node). n.open_lowers) (c.node.ensures ∙ c.loop-upper.invariant.after_lower u) in
    let fact = left_before c.args.change.was_available c.args.change.now_available _ _ _ (c.requires.ready_before u) now in
    omega (arith, is, fact)

pub after_lower-node-requires-clause-linked_before : goal.after_lower-node-requires-clause-linked_before
after_lower-node-requires-clause-linked_before g c =
    let u = slice_index_or c.args.uppers.now c.loop-upper.upper-index 0 in
    let now = occurs_now c.args.uppers.now c.loop-upper.upper-index 0 c.loop-upper-test.true in
    let is = ap (λ (n : Node). n.linked_lowers) (c.node.ensures ∙ c.loop-upper.invariant.after_lower u) in
    let fact = left_before c.args.change.had_link c.args.change.has_link _ _ _ (c.requires.linked_before u) now in
    omega (arith, is, fact)

pub after_lower-node-requires-clause-ready_fits : goal.after_lower-node-requires-clause-ready_fits
after_lower-node-requires-clause-ready_fits g c =
    let u = slice_index_or c.args.uppers.now c.loop-upper.upper-index 0 in
    let now = occurs_now c.args.uppers.now c.loop-upper.upper-index 0 c.loop-upper-test.true in
    let is = ap (λ (n : Node). n.open_lowers) (c.node.ensures ∙ c.loop-upper.invariant.after_lower u) in
    let fact = fits_before c.args.change.was_available c.args.change.now_available _ _ _ (c.requires.ready_before u) (c.requires.ready_fits u) now in
    omega (arith, is, fact)

pub after_lower-node-requires-clause-linked_fits : goal.after_lower-node-requires-clause-linked_fits
after_lower-node-requires-clause-linked_fits g c =
    let u = slice_index_or c.args.uppers.now c.loop-upper.upper-index 0 in
    let now = occurs_now c.args.uppers.now c.loop-upper.upper-index 0 c.loop-upper-test.true in
    let is = ap (λ (n : Node). n.linked_lowers) (c.node.ensures ∙ c.loop-upper.invariant.after_lower u) in
    let fact = fits_before c.args.change.had_link c.args.change.has_link _ _ _ (c.requires.linked_before u) (c.requires.linked_fits u) now in
    omega (arith, is, fact)

pub put-requires-clause-within : goal.put-requires-clause-within
put-requires-clause-within g c = omega (arith, c.requires.inside c.loop-upper.upper-index 0 c.loop-upper-test.true, c.loop-upper.invariant.size)

pub loop-upper-preserved : goal.loop-upper-preserved
loop-upper-preserved g c =
    let i = c.loop-upper.upper-index in
    let u = slice_index_or c.args.uppers.now i 0 in
    let within : u < length c.loop-upper.nodes = omega (arith, c.requires.inside i 0 c.loop-upper-test.true, c.loop-upper.invariant.size) in
    record {
      size = ap length c.put.ensures ∙ length-set c.loop-upper.nodes u c.after_lower-node.result ∙ c.loop-upper.invariant.size;
      after_lower = λ k. ap (λ ns. node_at ns k) c.put.ensures
          ∙ told_next c.args.change c.args.uppers.now i c.args.nodes.now c.loop-upper.nodes c.after_lower-node.result c.loop-upper-test.true within c.requires.ready_before c.requires.linked_before c.loop-upper.invariant.after_lower
          (c.after_lower-node.ensures ∙ ap (λ n. after_lower c.args.change n 1) c.node.ensures) k;
      cost = omega (arith, c.loop-upper.invariant.cost, c.tick.ensures);
    }
