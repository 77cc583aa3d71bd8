use Rattle.std.proofs.Common.{arith}
use Rattle.std.proofs.lemmas.Int.{ints, to_z-of_z}
use Rattle.uci_tree.proofs.FindLemmas.{from_the_end, none_from_the_end}
use Rattle.uci_tree.proofs.lookup.place_of_kind.Goals as goal

pub returns-then-count-distance : goal.returns-then-count-distance
returns-then-count-distance c =
    let f = c.ranges.index in
    let d = simp to_z-of_z at c.unsigned_abs-distance.ensures.value in
    none_from_the_end c.args.sections.now c.args.kind.now c.args.index _ _ d (grind (arith, ints)) c.count_of_kind-count.ensures c.if-count-distance.true

pub returns : goal.returns
returns c =
    let f = c.ranges.index in
    let d = simp to_z-of_z at c.unsigned_abs-distance.ensures.value in
    from_the_end c.args.sections.now c.args.kind.now c.args.index _ _ _ d (grind (arith, ints)) c.count_of_kind-count.ensures c.if-count-distance.false c.nth_of_kind-2.ensures
