use Rattle.std.proofs.Common.{Err, refl, sym, subst}
use Rattle.uci_tool.specs.declared.stop.Stop.{Stop}
use Rattle.uci_tool.specs.Answers.{Changes}
use Rattle.uci_tool.specs.Folder.{folder_of}
use Rattle.uci_tool.proofs.ImportLemmas.{import_merges, import_replaces, import_refused}
use Rattle.uci_tool.specs.Import.{import_done, merge_done, replaced}
use Rattle.uci_tool.proofs.StopLemmas.{images_to, merges_is, replaces_is}
use Rattle.uci_tool.proofs.importing.import.Goals as goal

pub returns-then-options-clause-changes : goal.returns-then-options-clause-changes
returns-then-options-clause-changes g c = import_merges c.args.options.now (folder_of c.args.store.now) (folder_of c.merge_over.new.store) c.args.name.now c.args.input.now c.in-Ok.tree c.merge_over.result c.in-Ok.ensures.found
    c.if-options.true c.merge_over.ensures.changes

pub returns-in-Ok-clause-changes : goal.returns-in-Ok-clause-changes
returns-in-Ok-clause-changes g c = import_replaces c.args.options.now (folder_of c.args.store.now) (folder_of c.replace.new.store) c.args.name.now c.args.input.now c.in-Ok.tree c.replace.result c.in-Ok.ensures.found c.if-options.false
    c.replace.ensures.changes

pub returns-clause-changes : goal.returns-clause-changes
returns-clause-changes g c = subst (λ (z : Stop). Changes {X = Unit {0}} (Err z) (folder_of c.args.store.now) (folder_of c.args.store.now) (import_done c.args.options.now (folder_of c.args.store.now) c.args.name.now c.args.input.now))
    (sym c.stop_of_tree.ensures)
    (import_refused c.args.options.now (folder_of c.args.store.now) c.args.name.now c.args.input.now c.in-Err.error (c.in-Err.ensures.refused c.in-Err.error refl))

pub returns-then-options-clause-images : goal.returns-then-options-clause-images
returns-then-options-clause-images g c = images_to g.D.Disk.view c.args.store.now c.args.files.now c.merge_over.new.files (folder_of c.args.store.now) (merge_done (folder_of c.args.store.now) c.args.name.now c.args.input.now)
    (import_done c.args.options.now (folder_of c.args.store.now) c.args.name.now c.args.input.now)
    (merges_is c.args.options.now (folder_of c.args.store.now) c.args.name.now c.args.input.now c.in-Ok.tree c.in-Ok.ensures.found c.if-options.true) c.merge_over.ensures.images

pub returns-in-Ok-clause-images : goal.returns-in-Ok-clause-images
returns-in-Ok-clause-images g c = images_to g.D.Disk.view c.args.store.now c.args.files.now c.replace.new.files (folder_of c.args.store.now) (replaced (folder_of c.args.store.now) c.in-Ok.tree)
    (import_done c.args.options.now (folder_of c.args.store.now) c.args.name.now c.args.input.now)
    (replaces_is c.args.options.now (folder_of c.args.store.now) c.args.name.now c.args.input.now c.in-Ok.tree c.in-Ok.ensures.found c.if-options.false) c.replace.ensures.images
