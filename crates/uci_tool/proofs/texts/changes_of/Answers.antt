use Rattle.std.proofs.Common.{List, ℕ, Ok, Err, sym, subst, ◌∙◌}
use Rattle.uci_tool.specs.declared.stop.Stop.{Stop}
use Rattle.uci_tool.specs.Answers.{Answers}
use Rattle.uci_tool.specs.Folder.{folder_of}
use Rattle.uci_tool.specs.Texts.{changes_of}
use Rattle.uci_delta.specs.declared.delta.Delta.{Delta}
use Rattle.uci_cli.specs.Changes.{HaveShape, change_lines}
use Rattle.uci_store.specs.Store.{staged_in}
use Rattle.uci_tool.proofs.SeenLemmas.{changes_are, changes_refused, shapes_in}
use Rattle.uci_tool.proofs.texts.changes_of.Goals as goal

pub returns-in-Ok : goal.returns-in-Ok
returns-in-Ok c = changes_are c.args.store.now c.args.name.now c.in-Ok.deltas c.print_deltas.result c.in-Ok.ensures.found
    (subst (λ (z : List Delta). Answers c.print_deltas.result (Ok (change_lines z))) c.as_slice.ensures c.print_deltas.ensures)

pub returns-in-Err : goal.returns-in-Err
returns-in-Err c = subst (λ (z : Stop). Answers {A = List ℕ} (Err z) (changes_of (folder_of c.args.store.now) c.args.name.now)) (sym c.stop_of.ensures)
    (changes_refused c.args.store.now c.args.name.now c.in-Err.error c.in-Err.ensures.refused)

pub print_deltas-requires : goal.print_deltas-requires
print_deltas-requires c = subst (λ (z : List Delta). HaveShape z) (sym (c.as_slice.ensures ∙ c.in-Ok.ensures.found.are)) (shapes_in (staged_in c.args.store.now) 0 c.in-Ok.ensures.found.file c.requires.shapes)
