use Rattle.std.proofs.Common.{List, ap, ◌∙◌}
use Rattle.uci_tree.specs.declared.package.Opt.{Opt}
use Rattle.uci_tree.specs.Fold.{with_option}
use Rattle.uci_tool.proofs.MergeLemmas.{options_made}
use Rattle.uci_tool.proofs.merging.Merge.option.Goals as goal

pub returns-clause-done : goal.returns-clause-done
returns-clause-done c = options_made c.args.self.now.sections.items c.in-Some.place c.args.line c.args.self.now.made (with_option c.args.name c.args.value) c.index_mut-section.result.now c.from_vec.result c.args.self.now.current
    c.in-Some.is (c.requires c.in-Some.place c.in-Some.is) c.index_mut-section.ensures.value
    (c.from_vec.ensures ∙ c.in_ok-done.ensures ∙ ap (λ (z : List Opt). with_option c.args.name c.args.value z) (c.into_vec-options.ensures ∙ c.replace.ensures.value))
