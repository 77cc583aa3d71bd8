use Rattle.std.proofs.Common.{arith, ◌≡◌, ◌++◌, ◌∷◌, [], ℕ, List, length, map, take, drop, length-append, sym, ap, subst, ◌∙◌}
use Rattle.use_counts.specs.declared.node.Edge.{Edge}
use Rattle.use_counts.specs.declared.node.Node.{Node}
use Rattle.use_counts.specs.NodeRule.{new_node, rank_at, rank_of}
use Rattle.use_counts.specs.Held.{IsCalm, Member, member_of}
use Rattle.use_counts.specs.Network.{Network, HasLevels, loaded}
use Rattle.use_counts.proofs.AddLemmas.{calm_more, levels_more, members_more, ranks_more}
use Rattle.use_counts.proofs.graph.Graph.add.Goals as goal

pub invariant_of-self-2 : goal.invariant_of-self-2
invariant_of-self-2 c =
    let g = c.self.inside in
    let n = g.fixed in
    let row = c.args.row in
    let old = g.topology.edges.items in
    let nodes : c.add.new.self ≡ g.nodes ++ new_node 0 row ∷ [] = c.in_ok-add.ensures.ok in
    let edges : c.add-2.new.self.edges.items ≡ old = c.add-2.ensures.edges ∙ c.in_ok-make_room.ensures.edges in
    let ranks : c.add-2.new.self.ranks.items ≡ g.topology.ranks.items ++ 0 ∷ [] = c.add-2.ensures.ranks ∙ ap (λ (rs : List ℕ). rs ++ 0 ∷ []) c.in_ok-make_room.ensures.ranks in
    let members : map member_of c.add.new.self ≡ map member_of g.nodes ++ loaded row ∷ [] = ap (map member_of) nodes ∙ members_more g.nodes row in
    let net : Network = record { members = map member_of g.nodes; fixed = take n old; ports = drop n old } in
    record {
      rest = subst (λ (es : List Edge). IsCalm es c.add.new.self) (sym edges) (subst (λ (ns : List Node). IsCalm old ns) (sym nodes) (calm_more old g.nodes row c.requires.plain c.self.invariant.rest));
      size = omega (arith, ap length nodes, length-append g.nodes (new_node 0 row ∷ []), c.self.invariant.size, c.add-2.ensures.size, c.in_ok-make_room.ensures.size);
      ranks = λ k. ap (λ (ns : List Node). rank_at ns k) nodes ∙ ranks_more g.nodes row g.topology.ranks.items c.self.invariant.ranks k ∙ ap (λ (rs : List ℕ). rank_of rs k) (sym ranks);
      parts = omega (arith, ap length edges, c.self.invariant.parts);
      levels = subst (λ (es : List Edge). let m : Network = record { members = map member_of c.add.new.self; fixed = take n es; ports = drop n es } in HasLevels m) (sym edges)
          (subst (λ (ms : List Member). let m : Network = record { members = ms; fixed = take n old; ports = drop n old } in HasLevels m) (sym members)
          (levels_more net (loaded row) c.requires.level (omega arith) c.self.invariant.levels));
    }
