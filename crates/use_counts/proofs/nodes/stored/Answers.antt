use Rattle.std.proofs.Common.{arith, subst, ⊎_elim, ◌≡◌, ◌++◌, ◌∷◌, [], ℕ, List, length, sym, ap, ◌∙◌}
use Rattle.std.proofs.lemmas.Bool.{cases_eq}
use Rattle.use_counts.specs.NodeRule.{node_at, rank_of, row_at, new_node}
use Rattle.use_counts.specs.NodesInside.{AreKeys, list_of}
use Rattle.use_counts.proofs.NodesLemmas.{keys_push, nodes_push, node_pushed}
use Rattle.use_counts.proofs.nodes.stored.Goals as goal

pub loop-place-preserved : goal.loop-place-preserved
loop-place-preserved c =
    let slab = c.loop-place.slab in
    let keys = c.loop-place.keys.items in
    let key = c.in_ok-key.key in
    let node = c.new.result in
    let new = c.insert.new.self in
    let inv = c.loop-place.invariant in
    let long : length keys ≡ c.loop-place.place = omega (arith, inv.size, c.loop-place.keys.ok.0) in
    let items : c.push.new.self.items ≡ keys ++ key ∷ [] = c.in_ok-push.ensures.items in
    record {
      size = omega (arith, inv.size, c.in_ok-push.ensures.len);
      keys = subst (λ (ks : List ℕ). AreKeys new ks) (sym items) (keys_push slab new keys key node inv.keys c.in_ok-key.ensures.was_vacant c.in_ok-key.ensures.updates);
      nodes = λ k h. ap (λ ks. node_at (list_of new ks) k) items ∙ ⊎_elim
          (λ e. ap (node_at (list_of new (keys ++ key ∷ []))) (e ∙ sym long) ∙ node_pushed slab new keys key node c.in_ok-key.ensures.updates ∙ c.new.ensures
          ∙ sym (ap (λ n. new_node (rank_of c.args.ranks.now n) (row_at c.args.rows.now n)) e))
          (λ ne. nodes_push slab new keys key node inv.keys c.in_ok-key.ensures.was_vacant c.in_ok-key.ensures.updates k (omega (arith, h, ne, long)) ∙ inv.nodes k (omega (arith, h, ne)))
          (cases_eq k c.loop-place.place);
    }
