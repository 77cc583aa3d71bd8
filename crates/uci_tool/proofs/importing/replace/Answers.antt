use Rattle.std.proofs.Common.{inr, sym, subst, Err}
use Rattle.uci_tool.specs.declared.stop.Stop.{Stop}
use Rattle.uci_tool.specs.Answers.{Changes}
use Rattle.uci_tool.specs.Folder.{folder_of}
use Rattle.uci_tool.specs.Import.{replaced}
use Rattle.uci_tool.proofs.WriteLemmas.{writes_done, writes_refused, replace_is_open, replaced_is, replace_refused}
use Rattle.uci_tool.proofs.StopLemmas.{replace_stops}
use Rattle.uci_tool.proofs.importing.replace.Goals as goal

pub returns-in-Ok-clause-changes : goal.returns-in-Ok-clause-changes
returns-in-Ok-clause-changes g c = replaced_is c.args.store.now c.replace.new.self c.args.tree.now c.in-Ok.ensures.names c.in-Ok.ensures.done

pub returns-in-Err-clause-changes : goal.returns-in-Err-clause-changes
returns-in-Err-clause-changes g c = subst (λ (z : Stop). Changes {X = Unit {0}} (Err z) (folder_of c.args.store.now) (folder_of c.replace.new.self) (replaced (folder_of c.args.store.now) c.args.tree.now)) (sym c.stop_of.ensures)
    (replace_refused c.args.store.now c.replace.new.self c.args.tree.now _ c.in-Err.error (g.D.Disk.view c.args.files.now) (g.D.Disk.view c.replace.new.files) (g.T.Disk.view c.args.staged.now) (g.T.Disk.view c.replace.new.staged)
    c.in-Err.ensures.names c.in-Err.ensures.left c.in-Err.ensures.refused)

pub returns-in-Ok-clause-writes : goal.returns-in-Ok-clause-writes
returns-in-Ok-clause-writes g c = writes_done _ c.args.store.now c.replace.new.self (g.D.Disk.view c.args.files.now) (g.D.Disk.view c.replace.new.files) (g.T.Disk.view c.args.staged.now) (g.T.Disk.view c.replace.new.staged) c.requires.ready
    c.in-Ok.ensures.files c.in-Ok.ensures.staged c.in-Ok.ensures.names c.in-Ok.ensures.same c.in-Ok.ensures.follows c.in-Ok.ensures.closes

pub returns-in-Err-clause-writes : goal.returns-in-Err-clause-writes
returns-in-Err-clause-writes g c = writes_refused c.in-Err.error c.stop_of.result c.args.store.now c.replace.new.self (g.D.Disk.view c.args.files.now) (g.D.Disk.view c.replace.new.files) (g.T.Disk.view c.args.staged.now)
    (g.T.Disk.view c.replace.new.staged) c.stop_of.ensures
    (replace_is_open c.args.store.now c.args.tree.now c.in-Err.error (g.D.Disk.view c.args.files.now) (g.D.Disk.view c.replace.new.files) (g.T.Disk.view c.args.staged.now) (g.T.Disk.view c.replace.new.staged) c.requires.ready
    c.in-Err.ensures.refused) c.requires.ready
    c.in-Err.ensures.files c.in-Err.ensures.staged c.in-Err.ensures.names c.in-Err.ensures.same c.in-Err.ensures.follows c.in-Err.ensures.closes

pub returns-in-Ok-clause-images : goal.returns-in-Ok-clause-images
returns-in-Ok-clause-images g c = inr (replace_stops c.args.store.now c.args.tree.now (g.D.Disk.view c.args.files.now) (g.D.Disk.view c.replace.new.files) c.in-Ok.ensures.images)

pub returns-in-Err-clause-images : goal.returns-in-Err-clause-images
returns-in-Err-clause-images g c = inr (replace_stops c.args.store.now c.args.tree.now (g.D.Disk.view c.args.files.now) (g.D.Disk.view c.replace.new.files) c.in-Err.ensures.images)
