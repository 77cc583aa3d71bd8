use Rattle.uci_tool.specs.Texts.{path_word, show_of}
use Rattle.uci_tool.specs.Folder.{folder_of}
use Rattle.uci_tool.proofs.AnswerLemmas.{goes_on, stops}
use Rattle.uci_tool.proofs.texts.show_word.Goals as goal

pub returns-in-Ok : goal.returns-in-Ok
returns-in-Ok c = goes_on (path_word c.args.word.now) c.in-Ok.path (show_of c.args.options.now (folder_of c.args.store.now)) c.show_of.result c.in-Ok.ensures c.show_of.ensures

pub returns-in-Err : goal.returns-in-Err
returns-in-Err c = stops (path_word c.args.word.now) c.in-Err.stop (show_of c.args.options.now (folder_of c.args.store.now)) c.in-Err.ensures
