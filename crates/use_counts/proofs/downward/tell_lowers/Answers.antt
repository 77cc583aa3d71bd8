use Rattle.std.proofs.Common.{arith, ◌<◌, length, slice_index_or, nat_lt, length-set, ap, ◌∙◌}
use Rattle.use_counts.specs.declared.node.Node.{Node}
use Rattle.use_counts.specs.NodeRule.{node_at, after_upper, rank_of}
use Rattle.use_counts.proofs.UseLemmas.{marked_more, noted_put}
use Rattle.use_counts.proofs.VisitLemmas.{called_next, occurs_now, left_before, fits_before}
use Rattle.use_counts.proofs.downward.tell_lowers.Goals as goal

pub node-old-requires : goal.node-old-requires
node-old-requires g c = omega (arith, c.requires.inside c.loop-lower.lower-index 0 c.loop-lower-test.true, c.loop-lower.invariant.size)

pub after_upper-node-requires-clause-before : goal.after_upper-node-requires-clause-before
after_upper-node-requires-clause-before g c =
    let u = slice_index_or c.args.lowers.now c.loop-lower.lower-index 0 in
    let now = occurs_now c.args.lowers.now c.loop-lower.lower-index 0 c.loop-lower-test.true in
    let is = ap (λ (n : Node). n.demand) (c.node-old.ensures ∙ c.loop-lower.invariant.after_upper u) in
    let fact = left_before c.args.was c.args.now _ _ _ (c.requires.before u) now in
    omega (arith, is, fact)

pub after_upper-node-requires-clause-fits : goal.after_upper-node-requires-clause-fits
after_upper-node-requires-clause-fits g c =
    let u = slice_index_or c.args.lowers.now c.loop-lower.lower-index 0 in
    let now = occurs_now c.args.lowers.now c.loop-lower.lower-index 0 c.loop-lower-test.true in
    let is = ap (λ (n : Node). n.demand) (c.node-old.ensures ∙ c.loop-lower.invariant.after_upper u) in
    let fact = fits_before c.args.was c.args.now _ _ _ (c.requires.before u) (c.requires.fits u) now in
    omega (arith, is, fact)

pub put-requires-clause-within : goal.put-requires-clause-within
put-requires-clause-within g c = omega (arith, c.requires.inside c.loop-lower.lower-index 0 c.loop-lower-test.true, c.loop-lower.invariant.size)

pub loop-lower-preserved : goal.loop-lower-preserved
loop-lower-preserved g c =
    let i = c.loop-lower.lower-index in
    let u = slice_index_or c.args.lowers.now i 0 in
    let within : u < length c.loop-lower.nodes = omega (arith, c.requires.inside i 0 c.loop-lower-test.true, c.loop-lower.invariant.size) in
    record {
      size = ap length c.put.ensures ∙ length-set c.loop-lower.nodes u c.after_upper-node.result ∙ c.loop-lower.invariant.size;
      after_upper = λ k. ap (λ ns. node_at ns k) c.put.ensures
          ∙ called_next c.args.was c.args.now (rank_of c.args.ranks.now) c.args.lowers.now i c.args.nodes.now c.loop-lower.nodes c.after_upper-node.result c.loop-lower-test.true within c.requires.before c.loop-lower.invariant.after_upper
          (c.after_upper-node.ensures ∙ ap (λ n. after_upper c.args.was c.args.now (nat_lt 0 (rank_of c.args.ranks.now u)) n 1) c.node-old.ensures) k;
      uses = marked_more c.args.nodes.now c.loop-lower.nodes c.put.new.self c.args.uses.now c.loop-lower.uses c.note.new.self c.loop-lower.invariant.uses
          (noted_put c.loop-lower.nodes c.put.new.self u c.node-old.result c.after_upper-node.result c.loop-lower.uses c.note.new.self within c.put.ensures c.node-old.ensures c.note.ensures.here c.note.ensures.only c.note.ensures.stay);
      cost = omega (arith, c.loop-lower.invariant.cost, c.tick.ensures);
    }
