use Rattle.std.proofs.Common.{sym, ◌∙◌}
use Rattle.std.proofs.lemmas.Result.{on_ok_weaker, IfErr-weaker}
use Rattle.uci_delta.proofs.SectionLemmas.{option_lacks, option_done, option_refused}
use Rattle.uci_delta.proofs.sections.change_option_of.Goals as goal

pub returns-in_default-clause-refused : goal.returns-in_default-clause-refused
returns-in_default-clause-refused c = option_lacks c.args.name.now c.args.option.now c.args.change.now c.args.sections.now.items _ (sym c.requires ∙ c.in_default.is) c.lack_of.ensures

pub returns-clause-done : goal.returns-clause-done
returns-clause-done c = on_ok_weaker c.change_in.result (λ d. option_done c.args.name.now c.args.option.now c.args.change.now c.args.sections.now.items _ c.index_mut.result.now _ (sym c.requires ∙ c.in-Some.is) c.index_mut.ensures.value d)
    c.change_in.ensures.done

pub returns-clause-refused : goal.returns-clause-refused
returns-clause-refused c = IfErr-weaker c.change_in.result _ _
    (λ error h. option_refused c.args.name.now c.args.option.now c.args.change.now c.args.sections.now.items _ c.index_mut.result.now error (sym c.requires ∙ c.in-Some.is) c.index_mut.ensures.value h) c.change_in.ensures.refused
