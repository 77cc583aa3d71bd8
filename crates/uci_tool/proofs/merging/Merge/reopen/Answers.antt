use Rattle.std.proofs.Common.{Some, refl}
use Rattle.uci_tree.specs.declared.package.Section.{Section}
use Rattle.uci_tool.proofs.MergeLemmas.{draft_changed}
use Rattle.uci_tool.proofs.merging.Merge.reopen.Goals as goal

pub returns-clause-done : goal.returns-clause-done
returns-clause-done c = draft_changed c.args.self.now.sections.items c.args.place c.args.self.now.made (λ (section : Section). record section { kind = c.args.kind }) c.index_mut-section.result.now _ (Some c.args.place) c.requires
    c.index_mut-section.ensures.value refl
