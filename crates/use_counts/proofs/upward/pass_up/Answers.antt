use Rattle.std.proofs.Common.{arith, subst, sym, length, ℕ, List, ◌<◌, vec_len, ◌+◌, ◌∙◌}
use Rattle.std.proofs.lemmas.List.Elements.{recursion_from_All}
use Rattle.use_counts.specs.declared.node.Node.{Node}
use Rattle.use_counts.specs.NodeRule.{rank_of}
use Rattle.use_counts.specs.Held.{UpTo, RunsUp, AllRunUp}
use Rattle.use_counts.specs.Uses.{AreMarked}
use Rattle.use_counts.proofs.UpLemmas.{UpToBut, rising_more, but_start, but_next, skip_up, next_within, rank_within}
use Rattle.use_counts.proofs.UseLemmas.{marked_more}
use Rattle.use_counts.proofs.upward.pass_up.Goals as goal

pub loop-turn-init : goal.loop-turn-init
loop-turn-init g c =
    let topology = c.args.topology.now in
    let edges = topology.edges.items in
    let rank = rank_of topology.ranks.items in
    let size = vec_len topology.uppers in
    let stand : AllRunUp rank size edges = recursion_from_All (λ e. RunsUp rank size e.lower e.upper) edges topology.stand in
    record {
      within = omega (arith, c.rank-turn.ensures, rank_within topology.order.items rank size c.args.start topology.ordered);
      up = subst (λ (q : ℕ). UpTo edges rank q c.args.nodes.now c.settle_node.new.nodes c.args.steps.now c.settle_node.new.steps) (sym c.rank-turn.ensures)
          (rising_more rank size edges _ c.args.start c.args.nodes.now c.args.nodes.now c.settle_node.new.nodes c.args.steps.now c.args.steps.now c.settle_node.new.steps stand c.settle_node.ensures.size
          (but_start edges rank c.args.start c.args.nodes.now c.args.steps.now c.requires.kept c.requires.ranks c.requires.marks c.requires.use_marks) c.settle_node.ensures.spreads c.settle_node.ensures.cost);
      uses = c.settle_node.ensures.uses;
    }

pub made_at-requires : goal.made_at-requires
made_at-requires g c =
    let topology = c.args.topology.now in
    next_within topology.edges.items topology.order.items (rank_of topology.ranks.items) (vec_len topology.uppers) c.loop-turn.turn c.in-Some.next c.args.nodes.now c.loop-turn.nodes c.args.steps.now c.loop-turn.steps topology.ordered
    c.in-Some.ensures.found c.loop-turn.invariant.up

pub loop-turn-preserved : goal.loop-turn-preserved
loop-turn-preserved g c =
    let topology = c.args.topology.now in
    let edges = topology.edges.items in
    let order = topology.order.items in
    let rank = rank_of topology.ranks.items in
    let size = vec_len topology.uppers in
    let stand : AllRunUp rank size edges = recursion_from_All (λ e. RunsUp rank size e.lower e.upper) edges topology.stand in
    let before = c.args.nodes.now in
    let started = c.args.steps.now in
    let nodes = c.loop-turn.nodes in
    let steps = c.loop-turn.steps in
    let seen = c.first_stale.new.self in
    let next = c.in-Some.next in
    let up = c.loop-turn.invariant.up in
    let found = c.in-Some.ensures.found in
    let within : next < length order = next_within edges order rank size c.loop-turn.turn next before nodes started steps topology.ordered found up in
    let here = subst (λ (ns : List Node). UpTo edges rank next before ns started steps) (sym c.first_stale.ensures.same) (skip_up edges rank c.loop-turn.turn next before nodes started steps found up) in
    let but = subst (λ (p : ℕ). UpToBut edges rank (next + 1) p before seen started steps) (sym c.made_at.ensures) (but_next edges order rank size next before seen started steps topology.ordered within here) in
    let step = c.settle_node-in-loop-turn in
    record {
      within = omega (arith, within);
      up = rising_more rank size edges (next + 1) c.made_at.result before seen step.new.nodes started steps step.new.steps stand (step.ensures.size ∙ here.size) but step.ensures.spreads step.ensures.cost;
      uses = marked_more before seen step.new.nodes c.args.uses.now c.loop-turn.uses step.new.uses
          (subst (λ (ns : List Node). AreMarked before ns c.args.uses.now c.loop-turn.uses) (sym c.first_stale.ensures.same) c.loop-turn.invariant.uses) step.ensures.uses;
    }
