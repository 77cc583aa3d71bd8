use Rattle.std.proofs.Common.{sym, subst, Err}
use Rattle.uci_tool.specs.declared.stop.Stop.{Stop}
use Rattle.uci_tool.specs.Answers.{Changes}
use Rattle.uci_tool.specs.Folder.{folder_of}
use Rattle.uci_tool.specs.Staging.{staged_with}
use Rattle.uci_tool.proofs.StageLemmas.{staged_is, stage_refused, kept_folder, stage_is_open, stages_refused}
use Rattle.uci_tool.proofs.staging.stage.Goals as goal

pub returns-in-Ok-clause-changes : goal.returns-in-Ok-clause-changes
returns-in-Ok-clause-changes g c = staged_is c.args.store.now c.stage.new.self c.args.delta c.in-Ok.ensures.done c.in-Ok.ensures.names c.in-Ok.ensures.snap

pub returns-in-Err-clause-changes : goal.returns-in-Err-clause-changes
returns-in-Err-clause-changes g c = subst (λ (z : Stop). Changes {X = Unit {0}} (Err z) (folder_of c.args.store.now) (folder_of c.stage.new.self) (staged_with (folder_of c.args.store.now) c.args.delta)) (sym c.stop_of.ensures)
    (stage_refused c.args.store.now c.stage.new.self c.args.delta c.in-Err.error (g.T.Disk.view c.args.staged.now) (g.T.Disk.view c.stage.new.staged)
    (kept_folder c.args.store.now c.stage.new.self c.in-Err.ensures.names c.in-Err.ensures.snap c.in-Err.ensures.kept) c.in-Err.ensures.refused)

pub returns-in-Err-clause-stages : goal.returns-in-Err-clause-stages
returns-in-Err-clause-stages g c =
    let before = g.T.Disk.view c.args.staged.now in
    let after = g.T.Disk.view c.stage.new.staged in
    stages_refused c.in-Err.error c.stop_of.result c.args.store.now c.stage.new.self before after c.stop_of.ensures (stage_is_open c.args.store.now c.args.delta c.in-Err.error before after c.requires.ready c.in-Err.ensures.refused)
    c.requires.ready
    c.in-Err.ensures.on c.in-Err.ensures.follows c.in-Err.ensures.names c.in-Err.ensures.snap c.in-Err.ensures.closes
