use Rattle.std.proofs.Common.{List, ap, ◌∙◌}
use Rattle.uci_tree.specs.declared.package.Opt.{Opt}
use Rattle.uci_tree.specs.Fold.{with_item}
use Rattle.uci_tool.proofs.MergeLemmas.{options_made}
use Rattle.uci_tool.proofs.merging.Merge.item.Goals as goal

pub returns-clause-done : goal.returns-clause-done
returns-clause-done c = options_made c.args.self.now.sections.items c.in-Some.place c.args.line c.args.self.now.made (with_item c.args.name c.args.item) c.index_mut-section.result.now c.from_vec.result c.args.self.now.current c.in-Some.is
    (c.requires c.in-Some.place c.in-Some.is) c.index_mut-section.ensures.value
    (c.from_vec.ensures ∙ c.in_ok-done.ensures ∙ ap (λ (z : List Opt). with_item c.args.name c.args.item z) (c.into_vec-options.ensures ∙ c.replace.ensures.value))
