-- A command that is not refused tells nothing.
use Rattle.std.proofs.Common.{arith, ℕ, ◌≡◌, Bool, true, false, List, [], ◌∷◌, ◌++◌, Option, Some, None, refl, ap, sym, ◌∙◌}
use Rattle.std.specs.Prelude.{Result, Ok, Err}
use Rattle.uci_text.specs.declared.line.Line.{Line}
use Rattle.uci_text.specs.declared.text_error.TextError.{TextError}
use Rattle.uci_cli.specs.declared.options.Options.{Options}
use Rattle.uci_cli.specs.declared.command.Command.{Command}
use Rattle.uci_cli.specs.declared.command.Command.TheVariants as command
use Rattle.uci_cli.specs.Command.{command_of}
use Rattle.uci_cli.specs.declared.refusal.Refusal.{Refusal}
use Rattle.uci_tool.specs.declared.report.Report.{Report}
use Rattle.uci_tool.specs.declared.tool.UciEnd.{UciEnd}
use Rattle.uci_tool.specs.Folder.{Folder}
use Rattle.uci_tool.specs.Import.{import_done}
use Rattle.uci_tool.specs.Reading.{lines_in}
use Rattle.uci_tool.specs.Staging.{Effect, stage_word, add_done, revert_word}
use Rattle.uci_tool.specs.Line.{Carried, told_of, refused, of_folder, of_effect, command_done, asked_done, line_done, first_refusal, lines_done}
use Rattle.uci_tool.specs.Done.{batch_of, carried, status_of}
use Rattle.uci_tool.specs.Ends.{Stream}
use Rattle.uci_tool.specs.Runs.{IsCarried, told_unless, EndsWith, written, not_written}

abbrev TellsOnlyRefusals : Carried → Type 0
TellsOnlyRefusals done = done.refusal ≡ None → done.told ≡ []

none_told : (refusal : Option Refusal) → refusal ≡ None → told_of refusal ≡ []
none_told None is = refl
none_told (Some refusal) is = absurd (cc is)

folder_tells : (folder : Folder) (answer : Result Folder Refusal) → TellsOnlyRefusals (of_folder folder answer)
folder_tells folder (Err refusal) is = absurd (cc is)
folder_tells folder (Ok after) is = refl

effect_tells : (folder : Folder) (answer : Result Effect Refusal) → TellsOnlyRefusals (of_effect folder answer)
effect_tells folder (Err refusal) is = absurd (cc is)
effect_tells folder (Ok done) is = refl

refused_tells : (folder : Folder) (refusal : Refusal) → TellsOnlyRefusals (refused folder refusal)
refused_tells folder refusal is = absurd (cc is)

command_tells : (options : Options) (folder : Folder) (which : Command) → TellsOnlyRefusals (command_done options folder which)
command_tells options folder (command.Show path) is = none_told _ is
command_tells options folder (command.Get path) is = none_told _ is
command_tells options folder (command.Stage verb word) is = folder_tells folder (stage_word verb folder word) is
command_tells options folder (command.Add name kind) is = effect_tells folder (add_done folder name kind) is
command_tells options folder (command.Changes name) is = none_told _ is
command_tells options folder (command.Revert path) is = folder_tells folder (revert_word folder path) is
command_tells options folder (command.Commit name) is = none_told _ is
command_tells options folder (command.Export name) is = none_told _ is
command_tells options folder (command.Import name) is = absurd (cc is)
command_tells options folder command.Batch is = absurd (cc is)

asked_tells : (options : Options) (folder : Folder) (asked : Option Command) → TellsOnlyRefusals (asked_done options folder asked)
asked_tells options folder None is = absurd (cc is)
asked_tells options folder (Some which) is = command_tells options folder which is

first_none : (one other : Option Refusal) → first_refusal one other ≡ None → one ≡ None
first_none None other is = refl
first_none (Some refusal) other is = absurd (cc is)

other_none : (one other : Option Refusal) → first_refusal one other ≡ None → other ≡ None
other_none None other is = is
other_none (Some refusal) other is = absurd (cc is)

lines_tell : (options : Options) (folder : Folder) (lines : List Line) → TellsOnlyRefusals (lines_done options folder lines)
lines_tell options folder [] is = refl
lines_tell options folder (line ∷ lines) is =
    let one : Carried = line_done options folder line.words in
    let rest : Carried = lines_done options one.after lines in
    let first : one.told ≡ [] = asked_tells options folder (command_of line.words) (first_none one.refusal rest.refusal is) in
    let others : rest.told ≡ [] = lines_tell options one.after lines (other_none one.refusal rest.refusal is) in
    ap (λ told. told ++ rest.told) first ∙ others

batch_tells : (options : Options) (folder : Folder) (lines : Result (List Line) TextError) → TellsOnlyRefusals (batch_of options folder lines)
batch_tells options folder (Err error) is = absurd (cc is)
batch_tells options folder (Ok lines) is = lines_tell options folder lines is

carried_tells : (options : Options) (folder : Folder) (which : Command) (text : List ℕ) → TellsOnlyRefusals (carried options folder which text)
carried_tells options folder (command.Import name) text is = folder_tells folder (import_done options folder name text) is
carried_tells options folder command.Batch text is = batch_tells options folder (lines_in text) is
carried_tells options folder (command.Show path) text is = command_tells options folder (command.Show path) is
carried_tells options folder (command.Get path) text is = command_tells options folder (command.Get path) is
carried_tells options folder (command.Stage verb word) text is = command_tells options folder (command.Stage verb word) is
carried_tells options folder (command.Add name kind) text is = command_tells options folder (command.Add name kind) is
carried_tells options folder (command.Changes name) text is = command_tells options folder (command.Changes name) is
carried_tells options folder (command.Revert path) text is = command_tells options folder (command.Revert path) is
carried_tells options folder (command.Commit name) text is = command_tells options folder (command.Commit name) is
carried_tells options folder (command.Export name) text is = command_tells options folder (command.Export name) is

-- an ending with status 0 is one without a refusal
no_refusal : (refusal : Option Refusal) → status_of refusal ≡ 0 → refusal ≡ None
no_refusal None is = refl
no_refusal (Some refusal) is = absurd (omega arith)

refusal_of_end : (quiet : Bool) (report : Report) (out err : Stream) (end : UciEnd) → EndsWith quiet report out err end → end.status ≡ 0 → report.refusal ≡ None
refusal_of_end quiet report out err end (written is grows told) zero = no_refusal report.refusal (sym (ap (λ (e : UciEnd). e.status) is) ∙ zero)
refusal_of_end quiet report out err end (not_written is rose front told) zero = let four = ap (λ (e : UciEnd). e.status) is in absurd (omega arith)

-- and then nothing is told, whether the words ask for silence or not
unless_none : (quiet : Bool) (told : List ℕ) → told ≡ [] → told_unless quiet told ≡ []
unless_none true told is = refl
unless_none false told is = is

pub silent_end : (quiet : Bool) (options : Options) (which : Command) (before after : Folder) (input out err : Stream) (report : Report) (end : UciEnd)
    → IsCarried options which before input report after → EndsWith quiet report out err end → end.status ≡ 0 → told_unless quiet report.told ≡ []
silent_end quiet options which before after input out err report end done ends zero =
    let refusal : (carried options before which done.text).refusal ≡ None = ap (λ (d : Carried). d.refusal) done.is ∙ refusal_of_end quiet report out err end ends zero in
    unless_none quiet report.told (sym (ap (λ (d : Carried). d.told) done.is) ∙ carried_tells options before which done.text refusal)
