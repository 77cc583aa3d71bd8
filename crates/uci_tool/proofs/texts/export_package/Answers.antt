use Rattle.std.proofs.Common.{Ok, true}
use Rattle.uci_tree.specs.Print.{printed}
use Rattle.uci_tool.specs.Seen.{seen}
use Rattle.uci_tool.specs.Folder.{folder_of}
use Rattle.uci_tool.proofs.AnswerLemmas.{goes_on, stops}
use Rattle.uci_tool.proofs.texts.export_package.Goals as goal

pub returns-in-Ok : goal.returns-in-Ok
returns-in-Ok c = goes_on (seen (folder_of c.args.store.now) c.args.name.now) c.in-Ok.tree (λ tree. Ok (printed tree true c.args.options.now.names)) c.export.result c.in-Ok.ensures c.export.ensures

pub returns-in-Err : goal.returns-in-Err
returns-in-Err c = stops (seen (folder_of c.args.store.now) c.args.name.now) c.in-Err.stop (λ tree. Ok (printed tree true c.args.options.now.names)) c.in-Err.ensures
