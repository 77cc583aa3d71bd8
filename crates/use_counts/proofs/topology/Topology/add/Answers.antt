use Rattle.std.proofs.Common.{arith, ℕ, List, All, Vec, Global, length, vec_len, sym, ap, subst, ◌∙◌}
use Rattle.use_counts.specs.NodeRule.{rank_of}
use Rattle.use_counts.specs.Edges.{lower_end, upper_end}
use Rattle.use_counts.specs.Held.{IsOrder, RunsUp, items_at}
use Rattle.use_counts.proofs.AddLemmas.{lists_more, lowers_within, order_more, stand_more, uppers_within}
use Rattle.use_counts.proofs.topology.Topology.add.Goals as goal

pub invariant_of-self-clause-stand : goal.invariant_of-self-clause-stand
invariant_of-self-clause-stand c =
    let t = c.args.self.now in
    subst (λ (ranks : List ℕ). All (λ e. RunsUp (rank_of ranks) (vec_len c.push_reserved-2.new.self) e.lower e.upper) t.edges.items) (sym c.push_reserved.ensures.items)
    (stand_more t.ranks.items (vec_len t.uppers) (vec_len c.push_reserved-2.new.self) t.edges.items c.push_reserved-2.ensures.len t.stand)

pub invariant_of-self-clause-ordered : goal.invariant_of-self-clause-ordered
invariant_of-self-clause-ordered c =
    let t = c.args.self.now in
    subst (λ (ranks : List ℕ). IsOrder t.order.items (rank_of ranks) (vec_len c.push_reserved-2.new.self)) (sym c.push_reserved.ensures.items)
    (order_more t.order.items t.ranks.items (vec_len t.uppers) (vec_len c.push_reserved-2.new.self) c.push_reserved-2.ensures.len t.ordered)

pub invariant_of-self-clause-uppers_are : goal.invariant_of-self-clause-uppers_are
invariant_of-self-clause-uppers_are c k h =
    let t = c.args.self.now in
    ap (λ (lists : List (Vec ℕ Global)). items_at lists k) c.push_reserved-2.ensures.items
    ∙ lists_more upper_end lower_end t.uppers.items c.new.result t.edges.items c.new.ensures.items (lowers_within t.ranks.items (vec_len t.uppers) (length t.uppers.items) t.edges.items (omega (arith, t.uppers.ok.0)) t.stand)
    (λ j i. t.uppers_are j (omega (arith, i, t.uppers.ok.0))) k (omega (arith, h, c.push_reserved-2.ensures.len, t.uppers.ok.0))

pub invariant_of-self-clause-lowers_are : goal.invariant_of-self-clause-lowers_are
invariant_of-self-clause-lowers_are c k h =
    let t = c.args.self.now in
    ap (λ (lists : List (Vec ℕ Global)). items_at lists k) c.push_reserved-3.ensures.items
    ∙ lists_more lower_end upper_end t.lowers.items c.new-2.result t.edges.items c.new-2.ensures.items (uppers_within t.ranks.items (vec_len t.uppers) (length t.lowers.items) t.edges.items (omega (arith, t.lowers.ok.0, t.sizes)) t.stand)
    (λ j i. t.lowers_are j (omega (arith, i, t.lowers.ok.0))) k (omega (arith, h, c.push_reserved-3.ensures.len, t.lowers.ok.0))
