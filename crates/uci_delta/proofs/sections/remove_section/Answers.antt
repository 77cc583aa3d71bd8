use Rattle.std.proofs.Common.{sym, ◌∙◌}
use Rattle.uci_delta.proofs.SectionLemmas.{removed_lacks, removed_done}
use Rattle.uci_delta.proofs.sections.remove_section.Goals as goal

pub returns-in_default-clause-refused : goal.returns-in_default-clause-refused
returns-in_default-clause-refused c = removed_lacks c.args.name.now c.args.sections.now.items (sym c.requires ∙ c.in_default.is)

pub returns-clause-done : goal.returns-clause-done
returns-clause-done c = removed_done c.args.name.now c.args.sections.now.items _ _ (sym c.requires ∙ c.in-Some.is) c.remove-gone.ensures.items
