use Rattle.std.proofs.Common.{arith, ap, sym, ⊎_elim, ℕ, length, ◌<◌, ◌≡◌, ◌≢◌, ◌∙◌}
use Rattle.std.proofs.lemmas.Bool.{cases_eq}
use Rattle.std.proofs.lemmas.List.{length-map}
use Rattle.use_counts.specs.declared.node.Node.{Node}
use Rattle.use_counts.specs.Held.{Member, member_of}
use Rattle.use_counts.specs.Network.{Network, member_at, row_of, with_claim}
use Rattle.use_counts.proofs.NetworkLemmas.{at_points, few_claims_all}
use Rattle.use_counts.proofs.PortsLemmas.{told_to, told_here, told_beside, told_length, same_rows_at, all_members}
use Rattle.use_counts.proofs.graph.Graph.repeat.Goals as goal
use Rattle.use_counts.proofs.graph.Graph.repeat.Given.{Over}

pub set_claim-requires-clause-few : goal.set_claim-requires-clause-few
set_claim-requires-clause-few g c = omega (arith, few_claims_all _ _ c.told.inside.nodes c.told.invariant.levels c.loop-id.id, ap (λ (n : Node). n.claims) c.node-node.ensures)

-- a node of the other graph, as its network tells it
told_node : (g : Over) (c : goal.After-set_claim g) → member_of c.node-node.result ≡ member_at c.args.told.now.members c.loop-id.id
told_node g c =
    let nodes = c.told.inside.nodes in
    let id = c.loop-id.id in
    let within : id < length nodes = omega (arith, c.loop-id-test.true, c.len-id-end.ensures, ap (λ (n : Network). length n.members) c.told.view_is, length-map nodes member_of) in
    ap member_of c.node-node.ensures ∙ sym (at_points nodes id within) ∙ ap (λ (n : Network). member_at n.members id) c.told.view_is

pub loop-id-preserved : goal.loop-id-preserved
loop-id-preserved g c =
    let was = c.loop-id.self in
    let now = c.set_claim.new.self in
    let told = c.args.told.now.members in
    let id = c.loop-id.id in
    let node = c.node-node.result in
    let inv = c.loop-id.invariant in
    let t = told_node g c in
    let a = node.present in
    let b = node.carrier in
    let n = node.claims in
    let whole : now ≡ record was { members = told_to was.members id a b n } = c.set_claim.ensures.net ∙ ap (λ net. with_claim net id n) c.set_device.ensures.net in
    let within : id < length was.members = omega (arith, c.loop-id-test.true, c.len-id-end.ensures, inv.size) in
    let same : row_of (member_at was.members id) ≡ row_of (member_at told id) = ap row_of (inv.left id (omega arith)) ∙ same_rows_at c.args.self.now.members told id c.requires.rows in
    let here : member_at now.members id ≡ member_at told id = ap (λ (net : Network). member_at net.members id) whole
    ∙ told_here was.members (member_at told id) id a b n within same (ap (λ (m : Member). m.present) t) (ap (λ (m : Member). m.carrier) t) (ap (λ (m : Member). m.claims) t) in
    let beside : (k : ℕ) → k ≢ id → member_at now.members k ≡ member_at was.members k = λ k ne. ap (λ (net : Network). member_at net.members k) whole ∙ told_beside was.members id a b n k ne in
    record {
      room = c.set_claim.ensures.uses.stay.room ∙ c.set_device.ensures.uses.stay.room ∙ inv.room;
      size = ap (λ (net : Network). length net.members) whole ∙ told_length was.members id a b n ∙ inv.size;
      fixed = ap (λ (net : Network). net.fixed) whole ∙ inv.fixed;
      ports = ap (λ (net : Network). net.ports) whole ∙ inv.ports;
      done = λ k h. ⊎_elim (λ (e : k ≡ id). ap (λ j. member_at now.members j) e ∙ here ∙ sym (ap (λ j. member_at told j) e)) (λ ne. beside k ne ∙ inv.done k (omega (arith, h, ne))) (cases_eq k id);
      left = λ k h. beside k (λ e. omega (arith, h, e)) ∙ inv.left k (omega (arith, h));
    }

pub returns : goal.returns
returns g c =
    let inv = c.loop-id.invariant in
    let self = c.loop-id.self in
    let told = c.args.told.now.members in
    let members = all_members self.members told inv.size (λ k h. inv.done k (omega (arith, h, c.loop-id-test.false, c.len-id-end.ensures))) in
    ap (λ ms. let m : Network = record { members = ms; fixed = self.fixed; ports = self.ports } in m) members
    ∙ ap (λ es. let m : Network = record { members = told; fixed = es; ports = self.ports } in m) inv.fixed
    ∙ ap (λ es. let m : Network = record { members = told; fixed = c.args.self.now.fixed; ports = es } in m) inv.ports
