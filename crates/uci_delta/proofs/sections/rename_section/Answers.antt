use Rattle.std.proofs.Common.{sym, ◌∙◌}
use Rattle.uci_delta.proofs.SectionLemmas.{section_found, renamed_lacks, renamed_invalid, renamed_duplicate, renamed_done}
use Rattle.uci_delta.proofs.sections.rename_section.Goals as goal

pub returns-in_default-clause-refused : goal.returns-in_default-clause-refused
returns-in_default-clause-refused c = renamed_lacks c.args.name.now c.args.new.now c.args.sections.now.items (sym c.requires ∙ c.in_default.is)

pub returns-then-not-is_named-clause-refused : goal.returns-then-not-is_named-clause-refused
returns-then-not-is_named-clause-refused c = renamed_invalid c.args.name.now c.args.new.now c.args.sections.now.items _ (sym c.requires ∙ c.in-Some.is) (sym c.is_named.ensures ∙ c.if-not-is_named.true)

pub returns-in_default-named_place-clause-refused :
    goal.returns-in_default-named_place-clause-refused
returns-in_default-named_place-clause-refused c = renamed_duplicate c.args.name.now c.args.new.now c.args.sections.now.items _ _ (sym c.requires ∙ c.in-Some.is) (sym c.is_named.ensures ∙ c.if-not-is_named.false)
    (section_found _ c.args.sections.now.items _ c.args.new.now _ _ c.named_place.ensures c.as_slice.ensures.value c.as_bytes.ensures c.in_default-named_place.is)

pub returns-clause-done : goal.returns-clause-done
returns-clause-done c = renamed_done c.args.name.now c.args.new.now _ c.args.sections.now.items _ c.index_mut-section.result.now (sym c.requires ∙ c.in-Some.is) c.index_mut-section.ensures.value
    (sym c.is_named.ensures ∙ c.if-not-is_named.false) (section_found _ c.args.sections.now.items _ c.args.new.now _ _ c.named_place.ensures c.as_slice.ensures.value c.as_bytes.ensures c.in-None.is) c.in_ok-new.ensures
