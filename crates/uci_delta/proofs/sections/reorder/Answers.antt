use Rattle.std.proofs.Common.{sym, ◌∙◌}
use Rattle.uci_delta.proofs.PlaceLemmas.{place_found}
use Rattle.uci_delta.proofs.SectionLemmas.{moved}
use Rattle.uci_delta.proofs.sections.reorder.Goals as goal

pub returns-clause-done : goal.returns-clause-done
returns-clause-done c = moved c.args.name.now c.args.digits.now c.args.sections.now.items _ _ _ (sym c.requires ∙ c.in-Some.is) (place_found _ c.args.digits.now _ _ c.read_place.ensures c.as_bytes.ensures c.in-Some-read_place.is)
    c.move_section.ensures
