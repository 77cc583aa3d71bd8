use Rattle.std.proofs.Common.{Err, Result, List, refl, sym, subst}
use Rattle.uci_text.specs.declared.line.Line.{Line}
use Rattle.uci_text.specs.Text.{Spells}
use Rattle.uci_tool.specs.declared.stop.Stop.{Stop}
use Rattle.uci_tool.specs.Answers.{ReportsChange}
use Rattle.uci_tool.specs.Folder.{folder_of}
use Rattle.uci_tool.proofs.CarryLemmas.{batch_goes_on, batch_stops}
use Rattle.uci_text.specs.declared.text_error.TextError.{TextError}
use Rattle.uci_tool.specs.Passes.{batch_passes}
use Rattle.uci_tool.specs.Stops.{StaysOrStops}
use Rattle.uci_tool.proofs.ReadingLemmas.{lines_are}
use Rattle.uci_tool.proofs.tool.batch.Goals as goal

pub returns-in-Ok-clause-carries : goal.returns-in-Ok-clause-carries
returns-in-Ok-clause-carries g c = batch_goes_on c.args.options.now (folder_of c.args.store.now) (folder_of c.carry_lines.new.store) c.args.input.now c.as_slice.result.now c.carry_lines.result
    (subst (λ (z : List Line). Spells c.args.input.now z) (sym c.as_slice.ensures) c.in-Ok.ensures.found) c.carry_lines.ensures.carries

pub returns-in-Err-clause-carries : goal.returns-in-Err-clause-carries
returns-in-Err-clause-carries g c = batch_stops c.args.options.now (folder_of c.args.store.now) c.args.input.now c.in-Err.error c.change.result (c.in-Err.ensures.refused c.in-Err.error refl)
    (subst (λ (z : Stop). ReportsChange {X = Unit {0}} (Err z) c.change.result) c.stop_of_text.ensures c.change.ensures)

pub returns-in-Ok-clause-images : goal.returns-in-Ok-clause-images
returns-in-Ok-clause-images g c = subst (λ (z : Result (List Line) TextError). StaysOrStops c.args.store.now g.D.Disk.view c.args.files.now c.carry_lines.new.files (batch_passes c.args.options.now (folder_of c.args.store.now) z))
    (sym (lines_are c.args.input.now c.as_slice.result.now (subst (λ (z : List Line). Spells c.args.input.now z) (sym c.as_slice.ensures) c.in-Ok.ensures.found))) c.carry_lines.ensures.images
