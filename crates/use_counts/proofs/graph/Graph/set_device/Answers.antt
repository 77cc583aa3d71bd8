use Rattle.std.proofs.Common.{arith, ap, refl, length, take, drop, ◌<◌, ◌∙◌, inl, inr, ⊎_elim}
use Rattle.std.proofs.lemmas.List.{length-map}
use Rattle.use_counts.specs.Held.{member_of, differs, used_at}
use Rattle.use_counts.specs.Network.{Network, HasLevels, changed_edges, used}
use Rattle.use_counts.proofs.NetworkLemmas.{net, kept_used, few_claims, few_claims_all, levels_after, payment_within, calm_parts, due_parts}
use Rattle.use_counts.proofs.graph.Graph.set_device.Goals as goal
use Rattle.use_counts.proofs.graph.Graph.set_device.Given.{Over}

pub put_device-requires-clause-claims : goal.put_device-requires-clause-claims
put_device-requires-clause-claims g c = λ k. few_claims_all _ _ c.self.inside.nodes c.self.invariant.levels k

new_levels : (g : Over) (c : goal.After-put_device g) → HasLevels (net (take c.self.inside.fixed c.self.inside.topology.edges.items) (drop c.self.inside.fixed c.self.inside.topology.edges.items) c.put_device.new.nodes)
new_levels g c =
    let edges = c.self.inside.topology.edges.items in
    let n = c.self.inside.fixed in
    let old = c.self.inside.nodes in
    let within : c.args.id < length old = omega (arith, c.requires.within, ap (λ (n : Network). length n.members) c.self.view_is, length-map old member_of) in
    levels_after (take n edges) (drop n edges) old c.put_device.new.nodes c.args.id _ within c.self.invariant.levels c.put_device.ensures.members refl (few_claims (take n edges) (drop n edges) old c.self.invariant.levels c.args.id within)

pub invariant_of-self : goal.invariant_of-self
invariant_of-self g c =
    record {
      rest = c.put_device.ensures.rest;
      size = c.put_device.ensures.size ∙ c.self.invariant.size;
      ranks = λ k. c.put_device.ensures.ranks k ∙ c.self.invariant.ranks k;
      parts = c.self.invariant.parts;
      levels = new_levels g c;
    }

pub returns-clause-cost : goal.returns-clause-cost
returns-clause-cost g c =
    let edges = c.self.inside.topology.edges.items in
    let n = c.self.inside.fixed in
    let old = c.self.inside.nodes in
    let new = c.put_device.new.nodes in
    let bound = payment_within (take n edges) (drop n edges) old new c.self.invariant.levels (new_levels g c) (calm_parts n edges old c.self.invariant.rest) (calm_parts n edges new c.put_device.ensures.rest) c.put_device.ensures.size in
    let same = ap (λ m. changed_edges m (net (take n edges) (drop n edges) new)) c.self.view_is in
    omega (arith, bound, same, due_parts n edges old new, c.put_device.ensures.cost)

pub returns-clause-uses : goal.returns-clause-uses
returns-clause-uses g c =
    let edges = c.self.inside.topology.edges.items in
    let n = c.self.inside.fixed in
    let old = c.self.inside.nodes in
    let new = c.put_device.new.nodes in
    let marked = c.put_device.ensures.uses in
    record {
      all = λ k h d.
          let within : k < length old = omega (arith, h, ap (λ (n : Network). length n.members) c.self.view_is, length-map old member_of) in
          let before = kept_used (take n edges) (drop n edges) old c.self.invariant.levels (calm_parts n edges old c.self.invariant.rest) k within ∙ ap (λ n. used n k) c.self.view_is in
          let after = kept_used (take n edges) (drop n edges) new (new_levels g c) (calm_parts n edges new c.put_device.ensures.rest) k (omega (arith, within, c.put_device.ensures.size)) in
          marked.all k (ap (λ b. differs b (used_at new k)) before ∙ ap (differs (used c.args.self.now k)) after ∙ d);
      only = λ k h. ⊎_elim inl (λ (below : k < length old). inr (omega (arith, below, ap (λ (n : Network). length n.members) c.self.view_is, length-map old member_of))) (marked.only k h);
      stay = marked.stay;
    }
