use Rattle.std.proofs.Common.{sym, subst, Err}
use Rattle.uci_tree.specs.declared.package.Package.{Package}
use Rattle.uci_tool.specs.declared.stop.Stop.{Stop}
use Rattle.uci_tool.specs.Answers.{Answers}
use Rattle.uci_tool.specs.Folder.{folder_of}
use Rattle.uci_tool.specs.Seen.{seen}
use Rattle.uci_tool.proofs.SeenLemmas.{seen_is, read_refused}
use Rattle.uci_tool.proofs.seeing.see.Goals as goal

pub returns-in-Ok : goal.returns-in-Ok
returns-in-Ok c = seen_is c.args.store.now c.args.name.now c.in-Ok.tree c.in-Ok.ensures.seen

pub returns-in-Err : goal.returns-in-Err
returns-in-Err c = subst (λ (z : Stop). Answers {A = Package} (Err z) (seen (folder_of c.args.store.now) c.args.name.now)) (sym c.stop_of.ensures) (read_refused c.args.store.now c.args.name.now c.in-Err.error c.in-Err.ensures.refused)
