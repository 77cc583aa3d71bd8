use Rattle.std.proofs.Common.{arith, subst, ◌≡◌, ◌∙◌, ◌<◌, ◌==◌, ℕ, List, length, nat_lt, slice_set, vec_len, length-set, All, sym, ap}
use Rattle.std.proofs.lemmas.List.Elements.{recursion_from_All}
use Rattle.use_counts.specs.declared.node.Node.{Node}
use Rattle.use_counts.specs.NodeRule.{node_at, occurs, times, after_upper, rank_of}
use Rattle.use_counts.specs.Edges.{lower_end, upper_end, edges_at}
use Rattle.use_counts.specs.Held.{RunsUp, AllRunUp, differs, used_at, use_settled}
use Rattle.use_counts.proofs.EdgeLemmas.{length_ends}
use Rattle.use_counts.proofs.HeldDown.{none_below_itself, lowers_of}
use Rattle.use_counts.proofs.SettledUp.{written}
use Rattle.use_counts.proofs.SettledDown.{lowers_inside, demand_allows, demand_fits, calls_changed, differs_true}
use Rattle.use_counts.proofs.UseLemmas.{marked_more, noted_put}
use Rattle.use_counts.proofs.downward.settle_use.Goals as goal

pub tell_lowers-requires-clause-inside : goal.tell_lowers-requires-clause-inside
tell_lowers-requires-clause-inside g c =
    let topology = c.args.topology.now in
    let edges = topology.edges.items in
    let rank = rank_of topology.ranks.items in
    let stand : AllRunUp rank (vec_len topology.uppers) edges = recursion_from_All (λ e. RunsUp rank (vec_len topology.uppers) e.lower e.upper) edges topology.stand in
    let long : vec_len topology.uppers ≡ length c.put.new.self = omega (arith, c.requires.size, ap length c.put.ensures, length-set c.args.nodes.now c.args.place c.use_settled-now.result) in
    subst (λ (xs : List ℕ). All (λ l. l < length c.put.new.self) xs) (sym c.lowers.ensures)
    (subst (λ (n : ℕ). All (λ l. l < n) (lowers_of edges c.args.place)) long (lowers_inside rank (vec_len topology.uppers) edges c.args.place stand))

pub tell_lowers-requires-clause-before : goal.tell_lowers-requires-clause-before
tell_lowers-requires-clause-before g c = λ k.
    let edges = c.args.topology.now.edges.items in
    let nodes = c.args.nodes.now in
    let was = ap (λ (n : Node). times n.used (occurs k c.lowers.result.now)) c.node-was.ensures in
    let same = ap (λ xs. times (node_at nodes c.args.place).used (occurs k xs)) c.lowers.ensures in
    let put = ap (λ ns. (node_at ns k).demand) c.put.ensures in
    let kept = written (λ n. n.demand) nodes c.args.place c.use_settled-now.result c.requires.within (ap (λ (n : Node). n.demand) c.use_settled-now.ensures ∙ ap (λ (n : Node). n.demand) c.node-was.ensures) k in
    omega (arith, was, same, put, kept, demand_allows edges nodes c.args.place k c.requires.kept)

pub tell_lowers-requires-clause-fits : goal.tell_lowers-requires-clause-fits
tell_lowers-requires-clause-fits g c = λ k.
    let edges = c.args.topology.now.edges.items in
    let nodes = c.args.nodes.now in
    let same = ap (λ xs. occurs k xs) c.lowers.ensures in
    let put = ap (λ ns. (node_at ns k).demand) c.put.ensures in
    let kept = written (λ n. n.demand) nodes c.args.place c.use_settled-now.result c.requires.within (ap (λ (n : Node). n.demand) c.use_settled-now.ensures ∙ ap (λ (n : Node). n.demand) c.node-was.ensures) k in
    omega (arith, same, put, kept, demand_fits edges nodes c.args.place k c.requires.kept (c.requires.claims k) c.args.topology.now.few)

pub returns-then-was-now-clause-use_marks : goal.returns-then-was-now-clause-use_marks
returns-then-was-now-clause-use_marks g c =
    let topology = c.args.topology.now in
    let edges = topology.edges.items in
    let rank = rank_of topology.ranks.items in
    let nodes = c.args.nodes.now in
    let place = c.args.place in
    let now = c.use_settled-now.result in
    let stand : AllRunUp rank (vec_len topology.uppers) edges = recursion_from_All (λ e. RunsUp rank (vec_len topology.uppers) e.lower e.upper) edges topology.stand in
    let is = c.use_settled-now.ensures ∙ ap use_settled c.node-was.ensures in
    let went = sym (ap (λ (n : Node). differs n.used now.used) c.node-was.ensures) ∙ differs_true _ _ c.if-was-now.true in
    let all = λ (k : ℕ). c.tell_lowers.ensures.after_upper k
    ∙ ap (λ rs. after_upper c.node-was.result.used now.used (nat_lt 0 (rank_of rs k)) (node_at c.put.new.self k) (occurs k c.lowers.result.now)) c.deref.ensures.value
    ∙ ap (λ ns. after_upper c.node-was.result.used now.used (nat_lt 0 (rank k)) (node_at ns k) (occurs k c.lowers.result.now)) c.put.ensures
    ∙ ap (λ xs. after_upper c.node-was.result.used now.used (nat_lt 0 (rank k)) (node_at (slice_set nodes place now) k) (occurs k xs)) c.lowers.ensures
    ∙ ap (λ (n : Node). after_upper n.used now.used (nat_lt 0 (rank k)) (node_at (slice_set nodes place now) k) (occurs k (lowers_of edges place))) c.node-was.ensures in
    calls_changed rank (lowers_of edges place) place nodes c.tell_lowers.new.nodes now c.requires.within (none_below_itself rank (vec_len topology.uppers) edges place stand) is went all

pub returns-then-was-now-clause-cost : goal.returns-then-was-now-clause-cost
returns-then-was-now-clause-cost g c =
    let edges = c.args.topology.now.edges.items in
    let now = c.use_settled-now.result in
    let is = c.use_settled-now.ensures ∙ ap use_settled c.node-was.ensures in
    let went = sym (ap (λ (n : Node). differs n.used now.used) c.node-was.ensures) ∙ differs_true _ _ c.if-was-now.true in
    let here = (returns-then-was-now-clause-use_marks g c).here ∙ sym is in
    let moves = ap (λ (n : Node). times (differs (used_at c.args.nodes.now c.args.place) n.used) (edges_at upper_end (λ k. k == c.args.place) edges)) here ∙ ap (λ b. times b (edges_at upper_end (λ k. k == c.args.place) edges)) went in
    omega (arith, moves, c.tell_lowers.ensures.cost, ap length c.lowers.ensures, length_ends lower_end upper_end edges c.args.place)

pub returns-then-was-now-clause-uses : goal.returns-then-was-now-clause-uses
returns-then-was-now-clause-uses g c =
    marked_more c.args.nodes.now c.put.new.self c.tell_lowers.new.nodes c.args.uses.now c.note.new.self c.tell_lowers.new.uses
    (noted_put c.args.nodes.now c.put.new.self c.args.place c.node-was.result c.use_settled-now.result c.args.uses.now c.note.new.self c.requires.within c.put.ensures c.node-was.ensures c.note.ensures.here c.note.ensures.only
    c.note.ensures.stay) c.tell_lowers.ensures.uses

pub returns-else-was-now-clause-uses : goal.returns-else-was-now-clause-uses
returns-else-was-now-clause-uses g c = noted_put c.args.nodes.now c.put.new.self c.args.place c.node-was.result c.use_settled-now.result c.args.uses.now c.note.new.self c.requires.within c.put.ensures c.node-was.ensures c.note.ensures.here
    c.note.ensures.only c.note.ensures.stay
