use Rattle.std.proofs.Common.{arith, vec_len, true, Bool, subst, sym, ap, length, get_or-set_other, length-set, slice_set, map, List, ◌∙◌}
use Rattle.std.proofs.lemmas.Bool.{true≢false}
use Rattle.std.proofs.lemmas.List.Elements.{recursion_from_All}
use Rattle.use_counts.specs.declared.node.Node.{Node}
use Rattle.use_counts.specs.NodeRule.{no_node, node_at, rank_at, rank_of}
use Rattle.use_counts.specs.Held.{RunsUp, AllRunUp, HoldsCounts, member_of, visits_due}
use Rattle.use_counts.proofs.NodesLemmas.{rank_put}
use Rattle.use_counts.proofs.SettledUp.{written}
use Rattle.use_counts.proofs.SettleLemmas.{kept_device, points_after, payment_after}
use Rattle.use_counts.proofs.UseLemmas.{same_uses, marked_more}
use Rattle.use_counts.proofs.settle.put_device.Goals as goal

abbrev device : Bool → Bool → Node → Node
device present carrier node = record node { present = present; carrier = carrier; stale = true }

pub settle-requires-clause-kept : goal.settle-requires-clause-kept
settle-requires-clause-kept g c =
    let edges = c.args.topology.now.edges.items in
    subst (λ (ns : List Node). HoldsCounts edges ns) (sym c.put.ensures)
    (subst (λ (n : Node). HoldsCounts edges (slice_set c.args.nodes.now c.args.place (device c.args.present c.args.carrier n))) (sym c.node.ensures)
    (kept_device edges c.args.nodes.now c.args.place c.args.present c.args.carrier c.requires.within c.requires.rest.kept))

pub settle-requires-clause-ranks : goal.settle-requires-clause-ranks
settle-requires-clause-ranks g c k = ap (λ ns. rank_at ns k) c.put.ensures ∙ rank_put c.args.nodes.now c.args.place (device c.args.present c.args.carrier c.node.result) c.requires.within (ap (λ (n : Node). n.rank) c.node.ensures) k
    ∙ c.requires.ranks k

pub settle-requires-clause-claims : goal.settle-requires-clause-claims
settle-requires-clause-claims g c k =
    omega (
      arith,
      ap (λ ns. (node_at ns k).claims) c.put.ensures,
      written (λ n. n.claims) c.args.nodes.now c.args.place (device c.args.present c.args.carrier c.node.result) c.requires.within (ap (λ (n : Node). n.claims) c.node.ensures) k,
      c.requires.claims k,
    )

pub settle-requires-clause-marks : goal.settle-requires-clause-marks
settle-requires-clause-marks g c k ne stale =
    absurd (true≢false (sym stale ∙ ap (λ ns. (node_at ns k).stale) c.put.ensures ∙ ap (λ (n : Node). n.stale) (get_or-set_other c.args.nodes.now c.args.place k (device c.args.present c.args.carrier c.node.result) no_node ne)
    ∙ c.requires.rest.ups k))

pub settle-requires-clause-use_marks : goal.settle-requires-clause-use_marks
settle-requires-clause-use_marks g c k d =
    absurd (true≢false (sym d ∙ ap (λ ns. (node_at ns k).use_stale) c.put.ensures
    ∙ written (λ n. n.use_stale) c.args.nodes.now c.args.place (device c.args.present c.args.carrier c.node.result) c.requires.within (ap (λ (n : Node). n.use_stale) c.node.ensures) k ∙ c.requires.rest.downs k))

pub returns-clause-ranks : goal.returns-clause-ranks
returns-clause-ranks g c k = c.settle.ensures.settles.ranks k ∙ ap (λ ns. rank_at ns k) c.put.ensures
    ∙ rank_put c.args.nodes.now c.args.place (device c.args.present c.args.carrier c.node.result) c.requires.within (ap (λ (n : Node). n.rank) c.node.ensures) k

pub returns-clause-members : goal.returns-clause-members
returns-clause-members g c =
    points_after c.args.nodes.now c.settle.new.nodes c.args.place (device c.args.present c.args.carrier c.node.result) (c.settle.ensures.settles.size ∙ ap length c.put.ensures)
    (λ k. c.settle.ensures.settles.members k ∙ ap (λ ns. member_of (node_at ns k)) c.put.ensures)
    ∙ ap (λ n. slice_set (map member_of c.args.nodes.now) c.args.place (member_of (device c.args.present c.args.carrier n))) c.node.ensures

pub returns-clause-cost : goal.returns-clause-cost
returns-clause-cost g c =
    let topology = c.args.topology.now in
    let edges = topology.edges.items in
    let rank = rank_of topology.ranks.items in
    let stand : AllRunUp rank (vec_len topology.uppers) edges = recursion_from_All (λ e. RunsUp rank (vec_len topology.uppers) e.lower e.upper) edges topology.stand in
    let now = device c.args.present c.args.carrier c.node.result in
    omega (
      arith,
      c.settle.ensures.settles.cost,
      ap (λ ns. visits_due edges ns c.settle.new.nodes) c.put.ensures,
      payment_after edges c.args.nodes.now c.settle.new.nodes c.args.place rank (vec_len topology.uppers) now c.requires.within stand (ap (λ (n : Node). n.available) c.node.ensures) (ap (λ (n : Node). n.link) c.node.ensures)
          (λ _. ap (λ (n : Node). n.used) c.node.ensures),
    )

pub returns-clause-uses : goal.returns-clause-uses
returns-clause-uses g c =
    let now = device c.args.present c.args.carrier c.node.result in
    marked_more c.args.nodes.now c.put.new.self c.settle.new.nodes c.args.uses.now c.args.uses.now c.settle.new.uses
    (same_uses c.args.nodes.now c.put.new.self c.args.uses.now (ap length c.put.ensures ∙ length-set c.args.nodes.now c.args.place now)
    (λ k. ap (λ ns. (node_at ns k).used) c.put.ensures ∙ written (λ n. n.used) c.args.nodes.now c.args.place now c.requires.within (ap (λ (n : Node). n.used) c.node.ensures) k))
    c.settle.ensures.uses
