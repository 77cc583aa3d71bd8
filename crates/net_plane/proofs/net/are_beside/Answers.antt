use Rattle.net_rebuild.proofs.CountedLemmas.{counted_beside}
use Rattle.net_rebuild.specs.InStep.{inputs_of}
use Rattle.net_plane.proofs.net.are_beside.Goals as goal

pub returns-clause-beside : goal.returns-clause-beside
returns-clause-beside c =
    let f = c.args.follower.now in
    let counted = c.requires.counted in
    counted_beside (inputs_of f) f.states.list.items f.settling c.is_kept.ensures.names counted.agrees.below c.requires.states.are counted.counted.claims counted.counted.givers
