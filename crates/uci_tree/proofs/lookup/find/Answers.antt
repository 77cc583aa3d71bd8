use Rattle.std.proofs.Common.{arith}
use Rattle.std.proofs.lemmas.Grind.{common_steps}
use Rattle.std.proofs.lemmas.Option.{gets}
use Rattle.uci_tree.proofs.FindLemmas.{found_in}
use Rattle.uci_tree.proofs.lookup.find.Goals as goal

pub returns : goal.returns
returns c = found_in c.args.«package».now c.args.path.now c.as_slice-sections.result.now c.in-Some.reference c.in-Some-section_place.place c.in-Some-get.section.now _ c.as_slice-sections.ensures c.in-Some.is c.in-Some-section_place.ensures
    (grind (arith, common_steps, gets)) c.place_in.ensures
