use Rattle.std.proofs.Common.{arith, vec_len, subst, sym, List, ◌+◌, ◌==◌, ◌≡◌, ◌∙◌, ℕ}
use Rattle.std.proofs.lemmas.List.Elements.{recursion_from_All}
use Rattle.use_counts.specs.declared.node.Node.{Node}
use Rattle.use_counts.specs.NodeRule.{times, rank_of}
use Rattle.use_counts.specs.Edges.{upper_end, edges_at}
use Rattle.use_counts.specs.Held.{RunsUp, AllRunUp, UseSettledAt, DownTo, differs, used_at}
use Rattle.use_counts.specs.Uses.{AreMarked}
use Rattle.use_counts.proofs.DownLemmas.{falling_more, skip_down, next_below}
use Rattle.use_counts.proofs.HeldDown.{lowers_of}
use Rattle.use_counts.proofs.UseLemmas.{marked_more}
use Rattle.use_counts.proofs.downward.pass_down.Goals as goal

pub loop-turn-preserved : goal.loop-turn-preserved
loop-turn-preserved g c =
    let topology = c.args.topology.now in
    let edges = topology.edges.items in
    let order = topology.order.items in
    let rank = rank_of topology.ranks.items in
    let size = vec_len topology.uppers in
    let stand : AllRunUp rank size edges = recursion_from_All (λ e. RunsUp rank size e.lower e.upper) edges topology.stand in
    let before = c.args.nodes.now in
    let started = c.args.steps.now in
    let nodes = c.loop-turn.nodes in
    let steps = c.loop-turn.steps in
    let seen = c.last_use_stale.new.self in
    let next = c.in-Some.next in
    let down = c.loop-turn.invariant.down in
    let found = c.in-Some.ensures.found in
    let within = next_below edges order rank size c.loop-turn.turn next before nodes started steps topology.ordered found down in
    let here = subst (λ (ns : List Node). DownTo edges rank (next + 1) before ns started steps) (sym c.last_use_stale.ensures.same) (skip_down edges rank c.loop-turn.turn next before nodes started steps found down) in
    let new = c.settle_use.new.nodes in
    let settled = subst (λ (p : ℕ). UseSettledAt rank (lowers_of edges p) p seen new) c.made_at.ensures c.settle_use.ensures.use_marks in
    let cost = subst (λ (p : ℕ). c.settle_use.new.steps ≡ steps + times (differs (used_at seen p) (used_at new p)) (edges_at upper_end (λ k. k == p) edges)) c.made_at.ensures c.settle_use.ensures.cost in
    record {
      within = omega (arith, within.0);
      down = falling_more order rank size edges next before seen new started steps c.settle_use.new.steps topology.ordered within.0 stand (c.settle_use.ensures.size ∙ here.size) here settled cost;
      uses = marked_more before seen new c.args.uses.now c.loop-turn.uses c.settle_use.new.uses
          (subst (λ (ns : List Node). AreMarked before ns c.args.uses.now c.loop-turn.uses) (sym c.last_use_stale.ensures.same) c.loop-turn.invariant.uses) c.settle_use.ensures.uses;
    }
