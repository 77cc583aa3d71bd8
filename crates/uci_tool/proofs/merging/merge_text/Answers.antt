use Rattle.std.proofs.Common.{Ok, Err, List, refl, sym, subst}
use Rattle.uci_text.specs.declared.cmd.Cmd.{Cmd}
use Rattle.uci_tree.specs.declared.package.Package.{Package}
use Rattle.uci_tool.specs.declared.stop.Stop.{Stop}
use Rattle.uci_tool.specs.Merging.{merged, merged_with}
use Rattle.uci_tool.specs.Answers.{Answers}
use Rattle.uci_tool.proofs.ImportLemmas.{merge_goes_on, merge_stops}
use Rattle.uci_tool.proofs.merging.merge_text.Goals as goal

pub returns-in-Ok : goal.returns-in-Ok
returns-in-Ok c = merge_goes_on c.args.«package» c.args.input.now c.in-Ok.commands c.merge_commands.result c.in-Ok.ensures.found
    (subst (λ (z : List Cmd). Answers c.merge_commands.result (merged_with c.args.«package» (Ok z))) c.into_vec.ensures c.merge_commands.ensures)

pub returns-in-Err : goal.returns-in-Err
returns-in-Err c = subst (λ (z : Stop). Answers {A = Package} (Err z) (merged c.args.«package» c.args.input.now)) (sym c.stop_of_text.ensures)
    (merge_stops c.args.«package» c.args.input.now c.in-Err.error (c.in-Err.ensures.refused c.in-Err.error refl))
