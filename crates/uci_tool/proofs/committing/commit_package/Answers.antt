use Rattle.std.proofs.Common.{inr, sym, subst, Err}
use Rattle.uci_tool.specs.declared.stop.Stop.{Stop}
use Rattle.uci_tool.specs.Answers.{Changes}
use Rattle.uci_tool.specs.Commit.{commit_package}
use Rattle.uci_tool.specs.Folder.{folder_of}
use Rattle.uci_tool.proofs.CommitLemmas.{committed_is, commit_refused}
use Rattle.uci_tool.proofs.WriteLemmas.{writes_done, writes_refused, commit_is_open}
use Rattle.uci_tool.proofs.StopLemmas.{commit_stops}
use Rattle.uci_tool.proofs.committing.commit_package.Goals as goal

pub returns-in-Ok-clause-changes : goal.returns-in-Ok-clause-changes
returns-in-Ok-clause-changes g c = committed_is c.args.store.now c.commit.new.self c.args.name.now c.in-Ok.ensures.names c.in-Ok.ensures.done

pub returns-in-Err-clause-changes : goal.returns-in-Err-clause-changes
returns-in-Err-clause-changes g c = subst (λ (z : Stop). Changes {X = Unit {0}} (Err z) (folder_of c.args.store.now) (folder_of c.commit.new.self) (commit_package (folder_of c.args.store.now) c.args.name.now)) (sym c.stop_of.ensures)
    (commit_refused c.args.store.now c.commit.new.self c.args.name.now _ c.in-Err.error (g.D.Disk.view c.args.files.now) (g.D.Disk.view c.commit.new.files) (g.T.Disk.view c.args.staged.now) (g.T.Disk.view c.commit.new.staged)
    c.in-Err.ensures.names c.in-Err.ensures.left c.in-Err.ensures.refused)

pub returns-in-Ok-clause-writes : goal.returns-in-Ok-clause-writes
returns-in-Ok-clause-writes g c = writes_done _ c.args.store.now c.commit.new.self (g.D.Disk.view c.args.files.now) (g.D.Disk.view c.commit.new.files) (g.T.Disk.view c.args.staged.now) (g.T.Disk.view c.commit.new.staged) c.requires.ready
    c.in-Ok.ensures.files c.in-Ok.ensures.staged c.in-Ok.ensures.names c.in-Ok.ensures.same c.in-Ok.ensures.follows c.in-Ok.ensures.closes

pub returns-in-Err-clause-writes : goal.returns-in-Err-clause-writes
returns-in-Err-clause-writes g c = writes_refused c.in-Err.error c.stop_of.result c.args.store.now c.commit.new.self (g.D.Disk.view c.args.files.now) (g.D.Disk.view c.commit.new.files) (g.T.Disk.view c.args.staged.now)
    (g.T.Disk.view c.commit.new.staged) c.stop_of.ensures
    (commit_is_open c.args.store.now c.args.name.now c.in-Err.error (g.D.Disk.view c.args.files.now) (g.D.Disk.view c.commit.new.files) (g.T.Disk.view c.args.staged.now) (g.T.Disk.view c.commit.new.staged) c.requires.ready
    c.in-Err.ensures.refused) c.requires.ready
    c.in-Err.ensures.files c.in-Err.ensures.staged c.in-Err.ensures.names c.in-Err.ensures.same c.in-Err.ensures.follows c.in-Err.ensures.closes

pub returns-in-Ok-clause-images : goal.returns-in-Ok-clause-images
returns-in-Ok-clause-images g c = inr (commit_stops c.args.store.now c.args.name.now (g.D.Disk.view c.args.files.now) (g.D.Disk.view c.commit.new.files) c.in-Ok.ensures.images)

pub returns-in-Err-clause-images : goal.returns-in-Err-clause-images
returns-in-Err-clause-images g c = inr (commit_stops c.args.store.now c.args.name.now (g.D.Disk.view c.args.files.now) (g.D.Disk.view c.commit.new.files) c.in-Err.ensures.images)
