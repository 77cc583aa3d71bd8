use Rattle.std.proofs.Common.{nat_lt, arith, subst, true, sym, ap, length, length-set, map, slice_set, List, ◌≡◌, ◌<◌, ◌≤◌, ◌∙◌, ⊎_elim, vec_len}
use Rattle.std.proofs.lemmas.Bool.{true≢false, or_cases, ltb-true}
use Rattle.std.proofs.lemmas.List.{get_or-set_same, get_or-set_other}
use Rattle.std.proofs.lemmas.List.Elements.{recursion_from_All}
use Rattle.use_counts.specs.declared.node.Node.{Node}
use Rattle.use_counts.specs.NodeRule.{with_claims, no_node, node_at, rank_at, rank_of}
use Rattle.use_counts.specs.Held.{RunsUp, AllRunUp, HoldsCounts, member_of, visits_due}
use Rattle.use_counts.proofs.NodesLemmas.{rank_put}
use Rattle.use_counts.proofs.SettledUp.{written}
use Rattle.use_counts.proofs.EdgeLemmas.{at_each}
use Rattle.use_counts.proofs.SettleLemmas.{kept_claimed, claims_fit, claimed_use, points_after, payment_after, pays_down, at_rest}
use Rattle.use_counts.proofs.UseLemmas.{marked_more, noted_put}
use Rattle.use_counts.proofs.settle.put_claims.Goals as goal

pub with_claims-node-requires-clause-before : goal.with_claims-node-requires-clause-before
with_claims-node-requires-clause-before g c = omega (arith, ap (λ (n : Node). n.claims) c.node-was.ensures, ap (λ (n : Node). n.demand) c.node-was.ensures, c.requires.rest.kept.demand c.args.place)

pub with_claims-node-requires-clause-fits : goal.with_claims-node-requires-clause-fits
with_claims-node-requires-clause-fits g c = omega (
  arith,
  ap (λ (n : Node). n.demand) c.node-was.ensures,
  claims_fit c.args.topology.now.edges.items c.args.nodes.now c.args.place c.args.claims c.requires.rest.kept (c.requires.claims c.args.place) c.requires.few c.args.topology.now.few,
)

pub pass_down-requires-clause-kept : goal.pass_down-requires-clause-kept
pass_down-requires-clause-kept g c =
    let topology = c.args.topology.now in
    let edges = topology.edges.items in
    let rank = rank_of topology.ranks.items in
    let stand : AllRunUp rank (vec_len topology.uppers) edges = recursion_from_All (λ e. RunsUp rank (vec_len topology.uppers) e.lower e.upper) edges topology.stand in
    let is = (c.with_claims-node.ensures ∙ ap (λ r. with_claims c.args.claims (nat_lt 0 r) c.node-was.result) c.rank.ensures
    ∙ ap (with_claims c.args.claims (nat_lt 0 (rank_of c.args.topology.now.ranks.items c.args.place))) c.node-was.ensures) in
    subst (λ (ns : List Node). HoldsCounts edges ns) (sym c.put.ensures)
    (subst (λ (n : Node). HoldsCounts edges (slice_set c.args.nodes.now c.args.place n)) (sym is) (kept_claimed rank (vec_len topology.uppers) edges c.args.nodes.now c.args.place c.args.claims c.requires.within stand c.requires.rest.kept))

pub pass_down-requires-clause-ranks : goal.pass_down-requires-clause-ranks
pass_down-requires-clause-ranks g c k =
    let is = (c.with_claims-node.ensures ∙ ap (λ r. with_claims c.args.claims (nat_lt 0 r) c.node-was.result) c.rank.ensures
    ∙ ap (with_claims c.args.claims (nat_lt 0 (rank_of c.args.topology.now.ranks.items c.args.place))) c.node-was.ensures) in
    ap (λ ns. rank_at ns k) c.put.ensures ∙ rank_put c.args.nodes.now c.args.place c.with_claims-node.result c.requires.within (ap (λ (n : Node). n.rank) is) k ∙ c.requires.ranks k

pub pass_down-requires-clause-claims : goal.pass_down-requires-clause-claims
pass_down-requires-clause-claims g c =
    let is = (c.with_claims-node.ensures ∙ ap (λ r. with_claims c.args.claims (nat_lt 0 r) c.node-was.result) c.rank.ensures
    ∙ ap (with_claims c.args.claims (nat_lt 0 (rank_of c.args.topology.now.ranks.items c.args.place))) c.node-was.ensures) in
    let nodes = c.args.nodes.now in
    at_each (λ k. (node_at c.put.new.self k).claims ≤ 1024) c.args.place
    (omega (
      arith,
      ap (λ ns. (node_at ns c.args.place).claims) c.put.ensures,
      ap (λ (n : Node). n.claims) (get_or-set_same nodes c.args.place c.with_claims-node.result no_node c.requires.within),
      ap (λ (n : Node). n.claims) is,
      c.requires.few,
    ))
    (λ k ne. omega (arith, ap (λ ns. (node_at ns k).claims) c.put.ensures, ap (λ (n : Node). n.claims) (get_or-set_other nodes c.args.place k c.with_claims-node.result no_node ne), c.requires.claims k))

pub pass_down-requires-clause-ups : goal.pass_down-requires-clause-ups
pass_down-requires-clause-ups g c k =
    let is = (c.with_claims-node.ensures ∙ ap (λ r. with_claims c.args.claims (nat_lt 0 r) c.node-was.result) c.rank.ensures
    ∙ ap (with_claims c.args.claims (nat_lt 0 (rank_of c.args.topology.now.ranks.items c.args.place))) c.node-was.ensures) in
    ap (λ ns. (node_at ns k).stale) c.put.ensures ∙ written (λ n. n.stale) c.args.nodes.now c.args.place c.with_claims-node.result c.requires.within (ap (λ (n : Node). n.stale) is) k ∙ c.requires.rest.ups k

pub pass_down-requires-clause-use_marks : goal.pass_down-requires-clause-use_marks
pass_down-requires-clause-use_marks g c =
    let is = (c.with_claims-node.ensures ∙ ap (λ r. with_claims c.args.claims (nat_lt 0 r) c.node-was.result) c.rank.ensures
    ∙ ap (with_claims c.args.claims (nat_lt 0 (rank_of c.args.topology.now.ranks.items c.args.place))) c.node-was.ensures) in
    let nodes = c.args.nodes.now in
    let rank = rank_of c.args.topology.now.ranks.items in
    at_each (λ k. (node_at c.put.new.self k).use_stale ≡ true → 0 < rank k) c.args.place
    (λ d. ⊎_elim (λ old. absurd (true≢false (sym old ∙ c.requires.rest.downs c.args.place))) (ltb-true 0 (rank c.args.place))
    (or_cases _ _ (sym (ap (λ ns. (node_at ns c.args.place).use_stale) c.put.ensures ∙ ap (λ (n : Node). n.use_stale) (get_or-set_same nodes c.args.place c.with_claims-node.result no_node c.requires.within)
    ∙ ap (λ (n : Node). n.use_stale) is) ∙ d)))
    (λ k ne d. absurd (true≢false (sym d ∙ ap (λ ns. (node_at ns k).use_stale) c.put.ensures ∙ ap (λ (n : Node). n.use_stale) (get_or-set_other nodes c.args.place k c.with_claims-node.result no_node ne) ∙ c.requires.rest.downs k)))

pub returns-clause-size : goal.returns-clause-size
returns-clause-size g c = c.pass_down.ensures.down.size ∙ ap length c.put.ensures ∙ length-set c.args.nodes.now c.args.place c.with_claims-node.result

pub returns-clause-ranks : goal.returns-clause-ranks
returns-clause-ranks g c k = c.pass_down.ensures.down.ranks k ∙ sym (c.requires.ranks k)

pub returns-clause-rest : goal.returns-clause-rest
returns-clause-rest g c = at_rest c.args.topology.now.edges.items (rank_of c.args.topology.now.ranks.items) c.put.new.self c.pass_down.new.nodes c.args.steps.now c.pass_down.new.steps c.pass_down.ensures.down

pub returns-clause-members : goal.returns-clause-members
returns-clause-members g c =
    let is = (c.with_claims-node.ensures ∙ ap (λ r. with_claims c.args.claims (nat_lt 0 r) c.node-was.result) c.rank.ensures
    ∙ ap (with_claims c.args.claims (nat_lt 0 (rank_of c.args.topology.now.ranks.items c.args.place))) c.node-was.ensures) in
    points_after c.args.nodes.now c.pass_down.new.nodes c.args.place c.with_claims-node.result (c.pass_down.ensures.down.size ∙ ap length c.put.ensures)
    (λ k. c.pass_down.ensures.down.members k ∙ ap (λ ns. member_of (node_at ns k)) c.put.ensures)
    ∙ ap (λ n. slice_set (map member_of c.args.nodes.now) c.args.place (member_of n)) is

pub returns-clause-cost : goal.returns-clause-cost
returns-clause-cost g c =
    let topology = c.args.topology.now in
    let edges = topology.edges.items in
    let rank = rank_of topology.ranks.items in
    let stand : AllRunUp rank (vec_len topology.uppers) edges = recursion_from_All (λ e. RunsUp rank (vec_len topology.uppers) e.lower e.upper) edges topology.stand in
    let is = (c.with_claims-node.ensures ∙ ap (λ r. with_claims c.args.claims (nat_lt 0 r) c.node-was.result) c.rank.ensures
    ∙ ap (with_claims c.args.claims (nat_lt 0 (rank_of c.args.topology.now.ranks.items c.args.place))) c.node-was.ensures) in
    let pays = pays_down edges rank c.put.new.self c.pass_down.new.nodes c.args.steps.now c.pass_down.new.steps c.pass_down.ensures.down in
    omega (
      arith,
      pays,
      ap (λ ns. visits_due edges ns c.pass_down.new.nodes) c.put.ensures,
      payment_after edges c.args.nodes.now c.pass_down.new.nodes c.args.place rank (vec_len topology.uppers) c.with_claims-node.result c.requires.within stand (ap (λ (n : Node). n.available) is) (ap (λ (n : Node). n.link) is)
          (λ h. ap (λ (n : Node). n.used) is ∙ claimed_use c.args.claims c.args.place rank (node_at c.args.nodes.now c.args.place) h),
    )

pub returns-clause-uses : goal.returns-clause-uses
returns-clause-uses g c =
    marked_more c.args.nodes.now c.put.new.self c.pass_down.new.nodes c.args.uses.now c.note.new.self c.pass_down.new.uses
    (noted_put c.args.nodes.now c.put.new.self c.args.place c.node-was.result c.with_claims-node.result c.args.uses.now c.note.new.self c.requires.within c.put.ensures c.node-was.ensures c.note.ensures.here c.note.ensures.only
    c.note.ensures.stay)
    c.pass_down.ensures.uses
