use Rattle.std.proofs.Common.{sym, ◌∙◌}
use Rattle.uci_delta.proofs.SectionLemmas.{kind_set}
use Rattle.uci_delta.proofs.sections.set_kind.Goals as goal

pub returns-clause-done : goal.returns-clause-done
returns-clause-done c = kind_set c.args.name.now c.args.kind.now _ c.args.sections.now.items _ c.index_mut.result.now _ c.are_named.ensures c.if-not-are_named.false (sym c.requires ∙ c.in-Some.is) c.index_mut.ensures.value
    c.in_ok-kind.ensures
