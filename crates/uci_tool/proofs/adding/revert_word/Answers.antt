use Rattle.uci_tool.specs.Texts.{path_word}
use Rattle.uci_tool.specs.Staging.{revert_named}
use Rattle.uci_tool.specs.Folder.{folder_of}
use Rattle.uci_tool.proofs.AnswerLemmas.{changes_go_on, changes_stop}
use Rattle.uci_tool.proofs.StageLemmas.{rests}
use Rattle.uci_tool.proofs.adding.revert_word.Goals as goal

pub returns-in-Ok-clause-changes : goal.returns-in-Ok-clause-changes
returns-in-Ok-clause-changes g c = changes_go_on (path_word c.args.word.now) c.in-Ok.path (revert_named (folder_of c.args.store.now)) c.revert_named.result (folder_of c.args.store.now) (folder_of c.revert_named.new.store) c.in-Ok.ensures
    c.revert_named.ensures.changes

pub returns-in-Err-clause-changes : goal.returns-in-Err-clause-changes
returns-in-Err-clause-changes g c = changes_stop (path_word c.args.word.now) c.in-Err.stop (revert_named (folder_of c.args.store.now)) (folder_of c.args.store.now) c.in-Err.ensures

pub returns-in-Err-clause-stages : goal.returns-in-Err-clause-stages
returns-in-Err-clause-stages g c = rests c.in-Err.stop (path_word c.args.word.now) c.args.store.now (g.T.Disk.view c.args.staged.now) c.in-Err.ensures c.requires
