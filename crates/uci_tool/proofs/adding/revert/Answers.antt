use Rattle.std.proofs.Common.{sym, subst, Err}
use Rattle.uci_tool.specs.declared.stop.Stop.{Stop}
use Rattle.uci_tool.specs.Answers.{Changes}
use Rattle.uci_tool.specs.Folder.{folder_of}
use Rattle.uci_tool.specs.Staging.{revert_path}
use Rattle.uci_tool.proofs.StageLemmas.{reverted_is, revert_refused, kept_folder, revert_is_open, stages_refused}
use Rattle.uci_tool.proofs.adding.revert.Goals as goal

pub returns-in-Ok-clause-changes : goal.returns-in-Ok-clause-changes
returns-in-Ok-clause-changes g c = reverted_is c.args.store.now c.revert.new.self c.args.path.now c.in-Ok.ensures.done c.in-Ok.ensures.names c.in-Ok.ensures.snap

pub returns-in-Err-clause-changes : goal.returns-in-Err-clause-changes
returns-in-Err-clause-changes g c = subst (λ (z : Stop). Changes {X = Unit {0}} (Err z) (folder_of c.args.store.now) (folder_of c.revert.new.self) (revert_path (folder_of c.args.store.now) c.args.path.now)) (sym c.stop_of.ensures)
    (revert_refused c.args.store.now c.revert.new.self c.args.path.now c.in-Err.error (g.T.Disk.view c.args.staged.now) (g.T.Disk.view c.revert.new.staged)
    (kept_folder c.args.store.now c.revert.new.self c.in-Err.ensures.names c.in-Err.ensures.snap c.in-Err.ensures.kept) c.in-Err.ensures.refused)

pub returns-in-Err-clause-stages : goal.returns-in-Err-clause-stages
returns-in-Err-clause-stages g c =
    let before = g.T.Disk.view c.args.staged.now in
    let after = g.T.Disk.view c.revert.new.staged in
    stages_refused c.in-Err.error c.stop_of.result c.args.store.now c.revert.new.self before after c.stop_of.ensures
    (revert_is_open c.args.store.now c.args.path.now.«package» c.in-Err.error before after c.requires.ready c.in-Err.ensures.refused) c.requires.ready
    c.in-Err.ensures.on c.in-Err.ensures.follows c.in-Err.ensures.names c.in-Err.ensures.snap c.in-Err.ensures.closes
