use Rattle.std.proofs.Common.{arith}
use Rattle.std.proofs.lemmas.List.{length-map}
use Rattle.use_counts.specs.NodesInside.{stored}
use Rattle.use_counts.proofs.NodesLemmas.{sound_new}
use Rattle.use_counts.proofs.nodes.Nodes.new.Goals as goal

pub invariant_of-result : goal.invariant_of-result
invariant_of-result c =
    let slab = c.in_ok-slab.slab in
    let keys = c.in_ok-slab.keys.items in
    sound_new slab keys c.args.ranks.now c.args.made c.in_ok-stale.stale c.in_ok-use_stale.use_stale c.args.rows.now c.in_ok-slab.ensures.keys
    (record { size = omega (arith, length-map keys (stored slab), c.in_ok-slab.ensures.size, c.in_ok-slab.keys.ok.0); each = c.in_ok-slab.ensures.nodes })
    c.requires.size c.requires.top c.requires.one c.requires.all c.in_ok-stale.ensures.room c.in_ok-use_stale.ensures.room c.in_ok-stale.ensures.within c.in_ok-stale.ensures.marked c.in_ok-use_stale.ensures.none
