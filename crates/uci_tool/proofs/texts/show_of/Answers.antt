use Rattle.std.proofs.Common.{Err, ap, subst, ◌∙◌, sym, List, ℕ}
use Rattle.std.specs.Option.{ok_or}
use Rattle.uci_tree.specs.declared.package.Package.{Package}
use Rattle.uci_cli.specs.Show.{shown_path}
use Rattle.uci_cli.specs.declared.refusal.Refusal.TheVariants.{NotFound}
use Rattle.uci_tool.specs.Answers.{Answers}
use Rattle.uci_tool.specs.Seen.{seen}
use Rattle.uci_tool.specs.Folder.{folder_of}
use Rattle.uci_tool.proofs.AnswerLemmas.{goes_on, stops, found_is}
use Rattle.uci_tool.proofs.texts.show_of.Goals as goal

pub returns-in-Ok : goal.returns-in-Ok
returns-in-Ok c = goes_on (seen (folder_of c.args.store.now) c.args.path.now.«package») c.in-Ok.tree (λ tree. ok_or (shown_path c.args.options.now tree c.args.path.now) NotFound) c.found.result
    (sym (ap (λ (z : List ℕ). seen (folder_of c.args.store.now) z) c.as_bytes.ensures) ∙ c.in-Ok.ensures)
    (found_is c.show_path.result c.found.result (shown_path c.args.options.now c.in-Ok.tree c.args.path.now) c.show_path.ensures c.found.ensures)

pub returns-in-Err : goal.returns-in-Err
returns-in-Err c = stops (seen (folder_of c.args.store.now) c.args.path.now.«package») c.in-Err.stop (λ tree. ok_or (shown_path c.args.options.now tree c.args.path.now) NotFound)
    (subst (λ (z : List ℕ). Answers {A = Package} (Err c.in-Err.stop) (seen (folder_of c.args.store.now) z)) c.as_bytes.ensures c.in-Err.ensures)
