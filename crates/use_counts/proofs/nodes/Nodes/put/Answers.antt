use Rattle.std.proofs.Common.{arith, ◌<◌, ℕ, length, slice_set, subst, sym, ap, ◌∙◌}
use Rattle.std.proofs.lemmas.List.{get_or_read, length-map}
use Rattle.slab.specs.Slab.{with_value}
use Rattle.use_counts.specs.NodeRule.{rank_at}
use Rattle.use_counts.specs.NodesInside.{AreSound, stored, list_of}
use Rattle.use_counts.proofs.NodesLemmas.{put_list, sound_plain, sound_put}
use Rattle.use_counts.proofs.nodes.Nodes.put.Goals as goal

pub invariant_of-self : goal.invariant_of-self
invariant_of-self c =
    let n = c.self.inside in
    let within : c.args.place < length n.keys.items = omega (arith, c.requires.within, ap length c.self.view_is, length-map n.keys.items (stored n.slab)) in
    let key = get_or_read n.keys.items c.args.place c.index-key.result.now within c.index-key.ensures 0 in
    let rank = c.requires.rank ∙ sym (ap (λ ns. rank_at ns c.args.place) c.self.view_is) in
    subst (λ (k : ℕ). AreSound (with_value n.slab k c.args.node) n.keys.items n.made c.put.new.self c.put-then-node-gt0.new.self) (sym key)
    (sound_put n.slab n.keys.items n.made n.stale n.use_stale c.put.new.self c.put-then-node-gt0.new.self c.args.place c.args.node c.self.invariant within rank (omega (arith, c.if-node-gt0.true))
    c.put.ensures.size c.put-then-node-gt0.ensures.size c.put.ensures.here c.put.ensures.others c.put-then-node-gt0.ensures.here c.put-then-node-gt0.ensures.others)

pub invariant_of-self-else-node-gt0 : goal.invariant_of-self-else-node-gt0
invariant_of-self-else-node-gt0 c =
    let n = c.self.inside in
    let within : c.args.place < length n.keys.items = omega (arith, c.requires.within, ap length c.self.view_is, length-map n.keys.items (stored n.slab)) in
    let key = get_or_read n.keys.items c.args.place c.index-key.result.now within c.index-key.ensures 0 in
    let rank = c.requires.rank ∙ sym (ap (λ ns. rank_at ns c.args.place) c.self.view_is) in
    subst (λ (k : ℕ). AreSound (with_value n.slab k c.args.node) n.keys.items n.made n.stale n.use_stale) (sym key)
    (sound_plain n.slab n.keys.items n.made n.stale n.use_stale c.args.place c.args.node c.self.invariant within rank (omega (arith, c.if-node-gt0.false)))

pub returns-then-node-gt0 : goal.returns-then-node-gt0
returns-then-node-gt0 c =
    let n = c.self.inside in
    let within : c.args.place < length n.keys.items = omega (arith, c.requires.within, ap length c.self.view_is, length-map n.keys.items (stored n.slab)) in
    let key = get_or_read n.keys.items c.args.place c.index-key.result.now within c.index-key.ensures 0 in
    ap (λ k. list_of (with_value n.slab k c.args.node) n.keys.items) key ∙ put_list n.slab n.keys.items c.args.place c.args.node within c.self.invariant.keyed ∙ ap (λ ns. slice_set ns c.args.place c.args.node) c.self.view_is

pub returns-else-node-gt0 : goal.returns-else-node-gt0
returns-else-node-gt0 c =
    let n = c.self.inside in
    let within : c.args.place < length n.keys.items = omega (arith, c.requires.within, ap length c.self.view_is, length-map n.keys.items (stored n.slab)) in
    let key = get_or_read n.keys.items c.args.place c.index-key.result.now within c.index-key.ensures 0 in
    ap (λ k. list_of (with_value n.slab k c.args.node) n.keys.items) key ∙ put_list n.slab n.keys.items c.args.place c.args.node within c.self.invariant.keyed ∙ ap (λ ns. slice_set ns c.args.place c.args.node) c.self.view_is
