use Rattle.uci_tool.specs.Texts.{path_word, get_path}
use Rattle.uci_tool.specs.Folder.{folder_of}
use Rattle.uci_tool.proofs.AnswerLemmas.{goes_on, stops}
use Rattle.uci_tool.proofs.texts.get_word.Goals as goal

pub returns-in-Ok : goal.returns-in-Ok
returns-in-Ok c = goes_on (path_word c.args.word.now) c.in-Ok.path (get_path c.args.options.now (folder_of c.args.store.now)) c.get_path.result c.in-Ok.ensures c.get_path.ensures

pub returns-in-Err : goal.returns-in-Err
returns-in-Err c = stops (path_word c.args.word.now) c.in-Err.stop (get_path c.args.options.now (folder_of c.args.store.now)) c.in-Err.ensures
