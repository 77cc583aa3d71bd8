use Rattle.uci_tool.specs.Staging.{by_name, revert_path}
use Rattle.uci_tool.specs.Folder.{folder_of}
use Rattle.uci_tool.proofs.AnswerLemmas.{changes_go_on, changes_stop}
use Rattle.uci_tool.proofs.StageLemmas.{rests}
use Rattle.uci_tool.proofs.adding.revert_named.Goals as goal

pub returns-in-Ok-clause-changes : goal.returns-in-Ok-clause-changes
returns-in-Ok-clause-changes g c = changes_go_on (by_name (folder_of c.args.store.now) c.args.path c.args.path.section) c.in-Ok.path (revert_path (folder_of c.args.store.now)) c.revert.result (folder_of c.args.store.now)
    (folder_of c.revert.new.store) c.in-Ok.ensures c.revert.ensures.changes

pub returns-in-Err-clause-changes : goal.returns-in-Err-clause-changes
returns-in-Err-clause-changes g c = changes_stop (by_name (folder_of c.args.store.now) c.args.path c.args.path.section) c.in-Err.stop (revert_path (folder_of c.args.store.now)) (folder_of c.args.store.now) c.in-Err.ensures

pub returns-in-Err-clause-stages : goal.returns-in-Err-clause-stages
returns-in-Err-clause-stages g c = rests c.in-Err.stop (by_name (folder_of c.args.store.now) c.args.path c.args.path.section) c.args.store.now (g.T.Disk.view c.args.staged.now) c.in-Err.ensures c.requires
