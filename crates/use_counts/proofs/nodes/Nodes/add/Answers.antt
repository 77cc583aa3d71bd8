use Rattle.std.proofs.Common.{◌≡◌, ◌++◌, ◌∷◌, [], ℕ, List, Some, sym, ap, subst, ◌∙◌}
use Rattle.slab.specs.Slab.{Slab, Updates}
use Rattle.use_counts.specs.declared.node.Node.{Node}
use Rattle.use_counts.specs.NodeRule.{new_node}
use Rattle.use_counts.specs.NodesInside.{AreSound, list_of}
use Rattle.use_counts.proofs.AddLemmas.{list_pushed, sound_more, sound_with_room}
use Rattle.use_counts.proofs.nodes.Nodes.add.Goals as goal

pub invariant_of-self-in_err-key : goal.invariant_of-self-in_err-key
invariant_of-self-in_err-key c =
    let n = c.self.inside in
    subst (λ (slab : Slab Node). AreSound slab c.reserve.new.self.items n.made n.stale n.use_stale) (sym c.in_err-key.ensures.err)
    (sound_with_room n.slab c.insert.new.self.capacity c.reserve.new.self.items n.made n.stale n.use_stale
    (subst (λ (keys : List ℕ). AreSound n.slab keys n.made n.stale n.use_stale) (sym c.in_ok-reserve.ensures.items) c.self.invariant))

pub invariant_of-self-2 : goal.invariant_of-self-2
invariant_of-self-2 c =
    let n = c.self.inside in
    let key = c.in_ok-key.key in
    let updates = subst (λ (node : Node). Updates n.slab c.insert.new.self key (Some node)) c.new.ensures c.in_ok-key.ensures.updates in
    let items : c.push_reserved.new.self.items ≡ n.keys.items ++ key ∷ [] = c.push_reserved.ensures.items ∙ ap (λ (keys : List ℕ). keys ++ key ∷ []) c.in_ok-reserve.ensures.items in
    subst (λ (keys : List ℕ). AreSound c.insert.new.self keys n.made n.stale n.use_stale) (sym items)
    (sound_more n.slab c.insert.new.self n.keys.items key c.args.row n.made n.stale n.use_stale c.self.invariant c.in_ok-key.ensures.was_vacant updates)

pub returns-clause-ok : goal.returns-clause-ok
returns-clause-ok c =
    let n = c.self.inside in
    let key = c.in_ok-key.key in
    let node = new_node 0 c.args.row in
    let updates = subst (λ (node : Node). Updates n.slab c.insert.new.self key (Some node)) c.new.ensures c.in_ok-key.ensures.updates in
    let items : c.push_reserved.new.self.items ≡ n.keys.items ++ key ∷ [] = c.push_reserved.ensures.items ∙ ap (λ (keys : List ℕ). keys ++ key ∷ []) c.in_ok-reserve.ensures.items in
    ap (list_of c.insert.new.self) items
    ∙ list_pushed n.slab c.insert.new.self n.keys.items key node n.made n.stale n.use_stale c.self.invariant c.in_ok-key.ensures.was_vacant updates
    ∙ ap (λ (nodes : List Node). nodes ++ node ∷ []) c.self.view_is
