use Rattle.std.proofs.Common.{Ok}
use Rattle.uci_cli.specs.Show.{shown}
use Rattle.uci_tool.specs.Seen.{seen}
use Rattle.uci_tool.specs.Folder.{folder_of}
use Rattle.uci_tool.proofs.AnswerLemmas.{stops}
use Rattle.uci_tool.proofs.texts.show_one.Goals as goal

pub returns-in-Err : goal.returns-in-Err
returns-in-Err c = stops (seen (folder_of c.args.store.now) c.args.name.now) c.in-Err.stop (λ tree. Ok (shown c.args.options.now tree)) c.in-Err.ensures
