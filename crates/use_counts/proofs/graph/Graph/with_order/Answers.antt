use Rattle.std.proofs.Common.{arith, ap, subst, sym, refl, map, length, length-append, List, ℕ, ◌++◌, ◌≡◌, ◌∙◌}
use Rattle.std.proofs.lemmas.Bool.{false≢true}
use Rattle.use_counts.specs.NodeRule.{HasRank, rank_of, new_node, row_at}
use Rattle.use_counts.specs.Held.{member_of}
use Rattle.use_counts.specs.Network.{HasLevels, loaded}
use Rattle.use_counts.proofs.NewLemmas.{AreFresh, kept_fresh, fresh_up, fresh_down, fresh_claims, fresh_points, fresh_ranks}
use Rattle.use_counts.proofs.UpLemmas.{rank_within}
use Rattle.use_counts.proofs.OrderLemmas.{ranks_apart, ranks_full}
use Rattle.use_counts.proofs.PortsLemmas.{both_parts}
use Rattle.use_counts.proofs.graph.Graph.with_order.Goals as goal

pub new-requires-clause-few : goal.new-requires-clause-few
new-requires-clause-few c = omega (arith, c.args.order.places.ok.0, c.args.order.places.small, c.len.ensures)

pub new-requires-clause-top : goal.new-requires-clause-top
new-requires-clause-top c k = omega (
  arith,
  ap (λ rs. rank_of rs k) c.deref.ensures.value,
  c.len.ensures,
  c.args.order.places.ok.0,
  rank_within c.args.order.places.items (rank_of c.args.order.ranks.items) (length c.args.order.ranks.items) k c.requires.ordered,
)

pub new-requires-clause-one : goal.new-requires-clause-one
new-requires-clause-one c j k some e = ranks_apart c.args.order.places.items c.args.order.ranks.items (length c.args.order.ranks.items) j k c.requires.ordered (omega (arith, some, ap (λ rs. rank_of rs j) c.deref.ensures.value))
    (sym (ap (λ rs. rank_of rs j) c.deref.ensures.value) ∙ e ∙ ap (λ rs. rank_of rs k) c.deref.ensures.value)

pub new-requires-clause-all : goal.new-requires-clause-all
new-requires-clause-all c turn h = subst (λ (rs : List ℕ). HasRank rs turn) (sym c.deref.ensures.value)
    (ranks_full c.args.order.places.items c.args.order.ranks.items (length c.args.order.ranks.items) turn c.requires.ordered (omega (arith, h, c.len.ensures, c.args.order.places.ok.0)))

pub settle_all-requires-clause-ranks : goal.settle_all-requires-clause-ranks
settle_all-requires-clause-ranks c =
    let are : AreFresh (rank_of c.args.order.ranks.items) c.args.rows.now c.in_ok-nodes.nodes =
    (record { size = c.in_ok-nodes.ensures.size; each = λ k h. c.in_ok-nodes.ensures.nodes k h ∙ ap (λ rs. new_node (rank_of rs k) (row_at c.args.rows.now k)) c.deref.ensures.value }) in
    λ k. fresh_ranks c.args.order.ranks.items c.args.rows.now c.in_ok-nodes.nodes c.requires.ranked are k ∙ ap (λ rs. rank_of rs k) (sym c.in_ok-topology.ensures.0)

pub settle_all-requires-clause-kept : goal.settle_all-requires-clause-kept
settle_all-requires-clause-kept c =
    let are : AreFresh (rank_of c.args.order.ranks.items) c.args.rows.now c.in_ok-nodes.nodes =
    (record { size = c.in_ok-nodes.ensures.size; each = λ k h. c.in_ok-nodes.ensures.nodes k h ∙ ap (λ rs. new_node (rank_of rs k) (row_at c.args.rows.now k)) c.deref.ensures.value }) in
    kept_fresh (rank_of c.args.order.ranks.items) c.args.rows.now c.in_ok-nodes.nodes c.in_ok-topology.topology.edges.items are c.requires.plain

pub settle_all-requires-clause-claims : goal.settle_all-requires-clause-claims
settle_all-requires-clause-claims c =
    let are : AreFresh (rank_of c.args.order.ranks.items) c.args.rows.now c.in_ok-nodes.nodes =
    (record { size = c.in_ok-nodes.ensures.size; each = λ k h. c.in_ok-nodes.ensures.nodes k h ∙ ap (λ rs. new_node (rank_of rs k) (row_at c.args.rows.now k)) c.deref.ensures.value }) in
    λ k. omega (arith, fresh_claims (rank_of c.args.order.ranks.items) c.args.rows.now c.in_ok-nodes.nodes are k)

pub settle_all-requires-clause-marks : goal.settle_all-requires-clause-marks
settle_all-requires-clause-marks c =
    let are : AreFresh (rank_of c.args.order.ranks.items) c.args.rows.now c.in_ok-nodes.nodes =
    (record { size = c.in_ok-nodes.ensures.size; each = λ k h. c.in_ok-nodes.ensures.nodes k h ∙ ap (λ rs. new_node (rank_of rs k) (row_at c.args.rows.now k)) c.deref.ensures.value }) in
    λ k h. omega (arith, fresh_up (rank_of c.args.order.ranks.items) c.args.rows.now c.in_ok-nodes.nodes are k h, ap (λ rs. rank_of rs k) c.in_ok-topology.ensures.0)

pub settle_all-requires-clause-use_marks : goal.settle_all-requires-clause-use_marks
settle_all-requires-clause-use_marks c =
    let are : AreFresh (rank_of c.args.order.ranks.items) c.args.rows.now c.in_ok-nodes.nodes =
    (record { size = c.in_ok-nodes.ensures.size; each = λ k h. c.in_ok-nodes.ensures.nodes k h ∙ ap (λ rs. new_node (rank_of rs k) (row_at c.args.rows.now k)) c.deref.ensures.value }) in
    λ k h. absurd (false≢true (sym (fresh_down (rank_of c.args.order.ranks.items) c.args.rows.now c.in_ok-nodes.nodes are k) ∙ h))

pub invariant_of-result : goal.invariant_of-result
invariant_of-result c =
    let topology = c.in_ok-topology.topology in
    let are : AreFresh (rank_of c.args.order.ranks.items) c.args.rows.now c.in_ok-nodes.nodes =
    (record { size = c.in_ok-nodes.ensures.size; each = λ k h. c.in_ok-nodes.ensures.nodes k h ∙ ap (λ rs. new_node (rank_of rs k) (row_at c.args.rows.now k)) c.deref.ensures.value }) in
    let members = c.settle_all.ensures.members ∙ fresh_points (rank_of c.args.order.ranks.items) c.args.rows.now c.in_ok-nodes.nodes are in
    let size : length c.settle_all.new.nodes ≡ topology.uppers.len = omega (arith, c.settle_all.ensures.size, c.in_ok-nodes.ensures.size, c.in_ok-topology.ensures.2, c.requires.ranked, c.args.order.ranks.ok.0) in
    let edges : topology.edges.items ≡ c.args.fixed.now ++ c.args.ports.now = c.in_ok-topology.ensures.1 ∙ c.in_ok-edges.ensures in
    record {
      rest = c.settle_all.ensures.rest;
      size = size;
      ranks = λ k. c.settle_all.ensures.ranks k ∙ fresh_ranks c.args.order.ranks.items c.args.rows.now c.in_ok-nodes.nodes c.requires.ranked are k ∙ ap (λ rs. rank_of rs k) (sym c.in_ok-topology.ensures.0);
      parts = omega (arith, ap length edges, length-append c.args.fixed.now c.args.ports.now);
      levels = subst HasLevels (sym (both_parts (length c.args.fixed.now) c.args.fixed.now c.args.ports.now topology.edges.items (map member_of c.settle_all.new.nodes) (map loaded c.args.rows.now) refl edges members)) c.requires.levels;
    }

pub returns : goal.returns
returns c =
    let are : AreFresh (rank_of c.args.order.ranks.items) c.args.rows.now c.in_ok-nodes.nodes =
    (record { size = c.in_ok-nodes.ensures.size; each = λ k h. c.in_ok-nodes.ensures.nodes k h ∙ ap (λ rs. new_node (rank_of rs k) (row_at c.args.rows.now k)) c.deref.ensures.value }) in
    let members = c.settle_all.ensures.members ∙ fresh_points (rank_of c.args.order.ranks.items) c.args.rows.now c.in_ok-nodes.nodes are in
    both_parts (length c.args.fixed.now) c.args.fixed.now c.args.ports.now c.in_ok-topology.topology.edges.items (map member_of c.settle_all.new.nodes) (map loaded c.args.rows.now) refl (c.in_ok-topology.ensures.1 ∙ c.in_ok-edges.ensures)
    members
