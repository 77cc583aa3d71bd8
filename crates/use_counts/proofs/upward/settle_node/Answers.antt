use Rattle.std.proofs.Common.{◌≡◌, nat_lt, arith, subst, ◌∙◌, ◌<◌, ℕ, List, length, slice_set, vec_len, length-set, ◌==◌, All, sym, ap}
use Rattle.std.proofs.lemmas.List.Elements.{recursion_from_All}
use Rattle.use_counts.specs.declared.node.Node.{Node}
use Rattle.use_counts.specs.NodeRule.{node_at, occurs, times, after_lower, rank_of}
use Rattle.use_counts.specs.Edges.{lower_end, upper_end, edges_at}
use Rattle.use_counts.specs.Held.{settled, RunsUp, AllRunUp, moved, change_of}
use Rattle.use_counts.proofs.EdgeLemmas.{length_ends}
use Rattle.use_counts.proofs.HeldUp.{none_itself, uppers_of}
use Rattle.use_counts.proofs.SettledUp.{written, uppers_inside, ready_allows, linked_allows, ready_fits, linked_fits, spreads_moved}
use Rattle.use_counts.proofs.UseLemmas.{same_uses, marked_more, noted_put}
use Rattle.use_counts.proofs.upward.settle_node.Goals as goal

pub tell_uppers-requires-clause-inside : goal.tell_uppers-requires-clause-inside
tell_uppers-requires-clause-inside g c =
    let topology = c.args.topology.now in
    let edges = topology.edges.items in
    let rank = rank_of topology.ranks.items in
    let stand : AllRunUp rank (vec_len topology.uppers) edges = recursion_from_All (λ e. RunsUp rank (vec_len topology.uppers) e.lower e.upper) edges topology.stand in
    let long : vec_len topology.uppers ≡ length c.put.new.self = omega (arith, c.requires.size, ap length c.put.ensures, length-set c.args.nodes.now c.args.place c.settled-now.result) in
    subst (λ (xs : List ℕ). All (λ u. u < length c.put.new.self) xs) (sym c.uppers.ensures)
    (subst (λ (n : ℕ). All (λ u. u < n) (uppers_of edges c.args.place)) long (uppers_inside rank (vec_len topology.uppers) edges c.args.place stand))

pub tell_uppers-requires-clause-ready_before : goal.tell_uppers-requires-clause-ready_before
tell_uppers-requires-clause-ready_before g c = λ k.
    let edges = c.args.topology.now.edges.items in
    let nodes = c.args.nodes.now in
    let was = ap (λ (n : Node). times n.available (occurs k c.uppers.result.now)) c.node-was.ensures in
    let same = ap (λ xs. times (node_at nodes c.args.place).available (occurs k xs)) c.uppers.ensures in
    let put = ap (λ ns. (node_at ns k).open_lowers) c.put.ensures in
    let kept = written (λ n. n.open_lowers) nodes c.args.place c.settled-now.result c.requires.within (ap (λ (n : Node). n.open_lowers) c.settled-now.ensures ∙ ap (λ (n : Node). n.open_lowers) c.node-was.ensures) k in
    omega (arith, was, same, put, kept, ready_allows edges nodes c.args.place k c.requires.kept)

pub tell_uppers-requires-clause-ready_fits : goal.tell_uppers-requires-clause-ready_fits
tell_uppers-requires-clause-ready_fits g c = λ k.
    let edges = c.args.topology.now.edges.items in
    let nodes = c.args.nodes.now in
    let same = ap (λ xs. occurs k xs) c.uppers.ensures in
    let put = ap (λ ns. (node_at ns k).open_lowers) c.put.ensures in
    let kept = written (λ n. n.open_lowers) nodes c.args.place c.settled-now.result c.requires.within (ap (λ (n : Node). n.open_lowers) c.settled-now.ensures ∙ ap (λ (n : Node). n.open_lowers) c.node-was.ensures) k in
    omega (arith, same, put, kept, ready_fits edges nodes c.args.place k c.requires.kept c.args.topology.now.few)

pub tell_uppers-requires-clause-linked_before : goal.tell_uppers-requires-clause-linked_before
tell_uppers-requires-clause-linked_before g c = λ k.
    let edges = c.args.topology.now.edges.items in
    let nodes = c.args.nodes.now in
    let was = ap (λ (n : Node). times n.link (occurs k c.uppers.result.now)) c.node-was.ensures in
    let same = ap (λ xs. times (node_at nodes c.args.place).link (occurs k xs)) c.uppers.ensures in
    let put = ap (λ ns. (node_at ns k).linked_lowers) c.put.ensures in
    let kept = written (λ n. n.linked_lowers) nodes c.args.place c.settled-now.result c.requires.within (ap (λ (n : Node). n.linked_lowers) c.settled-now.ensures ∙ ap (λ (n : Node). n.linked_lowers) c.node-was.ensures) k in
    omega (arith, was, same, put, kept, linked_allows edges nodes c.args.place k c.requires.kept)

pub tell_uppers-requires-clause-linked_fits : goal.tell_uppers-requires-clause-linked_fits
tell_uppers-requires-clause-linked_fits g c = λ k.
    let edges = c.args.topology.now.edges.items in
    let nodes = c.args.nodes.now in
    let same = ap (λ xs. occurs k xs) c.uppers.ensures in
    let put = ap (λ ns. (node_at ns k).linked_lowers) c.put.ensures in
    let kept = written (λ n. n.linked_lowers) nodes c.args.place c.settled-now.result c.requires.within (ap (λ (n : Node). n.linked_lowers) c.settled-now.ensures ∙ ap (λ (n : Node). n.linked_lowers) c.node-was.ensures) k in
    omega (arith, same, put, kept, linked_fits edges nodes c.args.place k c.requires.kept c.args.topology.now.few)

pub returns-then-has_moved-clause-spreads : goal.returns-then-has_moved-clause-spreads
returns-then-has_moved-clause-spreads g c =
    let topology = c.args.topology.now in
    let edges = topology.edges.items in
    let rank = rank_of topology.ranks.items in
    let nodes = c.args.nodes.now in
    let place = c.args.place in
    let now = c.settled-now.result in
    let stand : AllRunUp rank (vec_len topology.uppers) edges = recursion_from_All (λ e. RunsUp rank (vec_len topology.uppers) e.lower e.upper) edges topology.stand in
    let went = sym (ap (λ n. moved n now) c.node-was.ensures) ∙ sym c.has_moved.ensures ∙ c.if-has_moved.true in
    let is = c.settled-now.ensures ∙ ap (λ r. settled (nat_lt 0 r) c.node-was.result) c.rank.ensures ∙ ap (settled (nat_lt 0 (rank place))) c.node-was.ensures in
    let all = λ (k : ℕ). c.tell_uppers.ensures.after_lower k
    ∙ ap (λ ns. after_lower (change_of c.node-was.result now) (node_at ns k) (occurs k c.uppers.result.now)) c.put.ensures
    ∙ ap (λ xs. after_lower (change_of c.node-was.result now) (node_at (slice_set nodes place now) k) (occurs k xs)) c.uppers.ensures
    ∙ ap (λ n. after_lower (change_of n now) (node_at (slice_set nodes place now) k) (occurs k (uppers_of edges place))) c.node-was.ensures in
    spreads_moved rank (uppers_of edges place) place nodes c.tell_uppers.new.nodes now c.requires.within (none_itself rank (vec_len topology.uppers) edges place stand) is went all

pub returns-then-has_moved-clause-cost : goal.returns-then-has_moved-clause-cost
returns-then-has_moved-clause-cost g c =
    let edges = c.args.topology.now.edges.items in
    let rank = rank_of c.args.topology.now.ranks.items in
    let now = c.settled-now.result in
    let went = sym (ap (λ n. moved n now) c.node-was.ensures) ∙ sym c.has_moved.ensures ∙ c.if-has_moved.true in
    let is = c.settled-now.ensures ∙ ap (λ r. settled (nat_lt 0 r) c.node-was.result) c.rank.ensures ∙ ap (settled (nat_lt 0 (rank c.args.place))) c.node-was.ensures in
    let here = (returns-then-has_moved-clause-spreads g c).here ∙ sym is in
    let moves = ap (λ n. times (moved (node_at c.args.nodes.now c.args.place) n) (edges_at lower_end (λ k. k == c.args.place) edges)) here ∙ ap (λ b. times b (edges_at lower_end (λ k. k == c.args.place) edges)) went in
    omega (arith, moves, c.tell_uppers.ensures.cost, ap length c.uppers.ensures, length_ends upper_end lower_end edges c.args.place)

pub returns-then-has_moved-clause-uses : goal.returns-then-has_moved-clause-uses
returns-then-has_moved-clause-uses g c =
    marked_more c.args.nodes.now c.put.new.self c.tell_uppers.new.nodes c.args.uses.now c.note.new.self c.note.new.self
    (noted_put c.args.nodes.now c.put.new.self c.args.place c.node-was.result c.settled-now.result c.args.uses.now c.note.new.self c.requires.within c.put.ensures c.node-was.ensures c.note.ensures.here c.note.ensures.only
    c.note.ensures.stay)
    (same_uses c.put.new.self c.tell_uppers.new.nodes c.note.new.self c.tell_uppers.ensures.size (λ k. ap (λ (n : Node). n.used) (c.tell_uppers.ensures.after_lower k)))

pub returns-else-has_moved-clause-uses : goal.returns-else-has_moved-clause-uses
returns-else-has_moved-clause-uses g c = noted_put c.args.nodes.now c.put.new.self c.args.place c.node-was.result c.settled-now.result c.args.uses.now c.note.new.self c.requires.within c.put.ensures c.node-was.ensures c.note.ensures.here
    c.note.ensures.only c.note.ensures.stay
