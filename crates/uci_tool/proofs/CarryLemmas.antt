-- Commands and lines that are carried out.
use Rattle.std.proofs.Common.{ℕ, ◌≡◌, ◌≢◌, ◌⊎◌, inl, inr, List, [], ◌∷◌, Option, Some, None, Result, Ok, Err, refl, ap, sym, subst, ◌∙◌}
use Rattle.uci_text.specs.declared.line.Line.{Line}
use Rattle.uci_text.specs.declared.text_error.TextError.{TextError}
use Rattle.uci_text.specs.declared.text_error.TextError.TheVariants as text_error
use Rattle.uci_cli.specs.declared.options.Options.{Options}
use Rattle.uci_cli.specs.declared.command.Command.{Command}
use Rattle.uci_cli.specs.declared.command.Command.TheVariants as command
use Rattle.uci_cli.specs.Command.{command_of}
use Rattle.plane_disk.specs.View.{View}
use Rattle.uci_staged.specs.declared.change.StagedChange.{StagedChange}
use Rattle.uci_staged.specs.Kept.{AreStagedIn}
use Rattle.uci_store.specs.declared.store.Store.{Store}
use Rattle.uci_store.specs.Store.{staged_in}
use Rattle.uci_cli.specs.declared.refusal.Refusal.{Refusal}
use Rattle.uci_cli.specs.declared.refusal.Refusal.TheVariants.{Invalid}
use Rattle.uci_tool.specs.declared.report.Report.{Report}
use Rattle.uci_tool.specs.declared.stop.Stop.{Stop}
use Rattle.uci_tool.specs.declared.stop.Stop.TheVariants.{Refused, DiskFailed, Memory}
use Rattle.uci_tool.specs.Folder.{Folder}
use Rattle.uci_tool.specs.Line.{Carried, refused, of_changed, of_folder, command_done, asked_done, line_done, lines_done}
use Rattle.uci_tool.specs.Commit.{Changed, changed_by, commit_package, commit_each, commit_done}
use Rattle.uci_text.specs.Text.{Spells}
use Rattle.uci_text.specs.FirstFault.{IsFirstFault}
use Rattle.uci_tree.specs.declared.fault.Fault.{Fault}
use Rattle.uci_tree.specs.Fault.{fault_of_text}
use Rattle.uci_tool.specs.Done.{batch_of}
use Rattle.uci_tool.specs.Reading.{lines_in}
use Rattle.uci_tool.specs.Seen.{refusal_of}
use Rattle.uci_tool.proofs.ReadingLemmas.{lines_are, line_fault_is}
use Rattle.uci_tool.specs.Passes.{one_step, batch_passes, commit_passes, of_commit, command_passes, asked_passes, line_passes, lines_passes}
use Rattle.uci_tool.specs.Answers.{Changes, Carries, HaveShapes, IsAmong, IsOpen, ReportsChange, carried_as, stop_of_fault, stop_of_text}
use Rattle.uci_tool.proofs.ReportLemmas.{change_carries}
use Rattle.uci_tool.proofs.CommitLemmas.{at_front, end_among}
use Rattle.uci_tool.proofs.LineLemmas.{among_front}

shapes_in : (names : List (List ℕ)) (changes : List StagedChange) → AreStagedIn names changes → HaveShapes changes
shapes_in names [] lines = tt
shapes_in names (change ∷ changes) lines = (lines.0.line.shape, shapes_in names changes lines.1)

-- what is staged in an open store has shapes
pub shapes_of : (store : Store) (files staged : View) → IsOpen store files staged → HaveShapes (staged_in store)
shapes_of store files staged open' = shapes_in staged.names (staged_in store) open'.staged.lines

-- a command that is known
abbrev pub CommandTo : Options → Folder → Folder → Result Report Stop → Command → Type 0
CommandTo options old new result asked = Carries result (λ report. command_done options old asked ≡ carried_as report new) new (command_passes options old asked)

pub known : (options : Options) (old new : Folder) (result : Result Report Stop) (asked is : Command) → asked ≡ is → CommandTo options old new result is → CommandTo options old new result asked
known options old new result asked is e h = subst (λ (z : Command). CommandTo options old new result z) (sym e) h

-- a refusal within a line
pub invalid_carries : (report : Report) (folder : Folder) → ◌≡◌ {A = Report} report (record { output = []; told = (refused folder Invalid).told; refusal = Some Invalid }) → refused folder Invalid ≡ carried_as report folder
invalid_carries report folder is = ap (λ (z : Report). carried_as z folder) (sym is)

-- ---- `commit`

pub changed_same : (folder : Folder) (answer : Result Folder Refusal) → of_folder folder answer ≡ of_changed (changed_by folder answer)
changed_same folder (Ok after) = refl
changed_same folder (Err refusal) = refl

abbrev CommitTo : Folder → Folder → Result Report Stop → Carried → Type 0
CommitTo old new result carried = Carries result (λ report. carried ≡ carried_as report new) new (one_step old carried.after)

pub commit_one : {X : Type 0} (changed : Result X Stop) (result : Result Report Stop) (old new : Folder) (name : List ℕ) → Changes changed old new (commit_package old name) → ReportsChange changed result
    → Carries result (λ report. of_changed (commit_done old (Some name)) ≡ carried_as report new) new (of_commit old (Some name))
commit_one changed result old new name changes reports = subst (λ (z : Carried). CommitTo old new result z) (changed_same old (commit_package old name)) (change_carries changed result old new (commit_package old name) changes reports)

pub commit_all : (refusal : Option Refusal) (report : Report) (old new : Folder) → commit_each old old.names ≡ record { refusal = refusal; after = new } → report
    ≡ record { output = []; told = (of_changed (record { refusal = refusal; after = new })).told; refusal = refusal }
    → of_changed (commit_done old None) ≡ carried_as report new
commit_all refusal report old new is told = ap (λ (z : Changed). of_changed z) is ∙ ap (λ (z : Report). carried_as z new) (sym told)

pub commit_cut : (refusal : Option Refusal) (old new : Folder) → commit_each old old.names ≡ record { refusal = refusal; after = new } → IsAmong new (of_commit old None)
commit_cut refusal old new is = subst (λ (z : Changed). IsAmong z.after (commit_passes old old.names)) is (end_among old old.names)

-- ---- lines

-- the folder that a command leaves is one that it passes through
command_end : (options : Options) (folder : Folder) (asked : Command) → IsAmong (command_done options folder asked).after (command_passes options folder asked)
command_end options folder (command.Show path) = inr (inl refl)
command_end options folder (command.Get path) = inr (inl refl)
command_end options folder (command.Stage verb word) = inr (inl refl)
command_end options folder (command.Add name kind) = inr (inl refl)
command_end options folder (command.Changes name) = inr (inl refl)
command_end options folder (command.Revert path) = inr (inl refl)
command_end options folder (command.Commit None) = end_among folder folder.names
command_end options folder (command.Commit (Some name)) = inr (inl refl)
command_end options folder (command.Export name) = inr (inl refl)
command_end options folder (command.Import name) = inr (inl refl)
command_end options folder command.Batch = inr (inl refl)

asked_end : (options : Options) (folder : Folder) (asked : Option Command) → IsAmong (asked_done options folder asked).after (asked_passes options folder asked)
asked_end options folder None = inl refl
asked_end options folder (Some asked) = command_end options folder asked

pub line_end : (options : Options) (folder : Folder) (words : List (List ℕ)) → IsAmong (line_done options folder words).after (line_passes options folder words)
line_end options folder words = asked_end options folder (command_of words)

-- a word of a line
pub asked_known : (options : Options) (old new : Folder) (result : Result Report Stop) (words : List (List ℕ)) (found : Option Command) → found ≡ command_of words
    → Carries result (λ report. asked_done options old found ≡ carried_as report new) new (asked_passes options old found) → Carries result (λ report. line_done options old words ≡ carried_as report new) new (line_passes options old words)
asked_known options old new result words found is h = subst (λ (z : Option Command). Carries result (λ report. asked_done options old z ≡ carried_as report new) new (asked_passes options old z)) is h

-- ---- `batch`

text_memory : (error : TextError) → (error ≡ text_error.Memory) ⊎ (error ≢ text_error.Memory)
text_memory (text_error.BadWord line) = inr (λ e. cc)
text_memory (text_error.OpenQuote line) = inr (λ e. cc)
text_memory (text_error.UnknownCommand line) = inr (λ e. cc)
text_memory (text_error.ArgumentCount line) = inr (λ e. cc)
text_memory (text_error.BadName line) = inr (λ e. cc)
text_memory text_error.Memory = inl refl

abbrev BatchTo : Options → Folder → Folder → Result Report Stop → Result (List Line) TextError → Type 0
BatchTo options old new result found = Carries result (λ report. batch_of options old found ≡ carried_as report new) new (batch_passes options old found)

pub batch_goes_on : (options : Options) (old new : Folder) (input : List ℕ) (lines : List Line) (result : Result Report Stop) → Spells input lines
    → Carries result (λ report. lines_done options old lines ≡ carried_as report new) new (lines_passes options old lines)
    → Carries result (λ report. batch_of options old (lines_in input) ≡ carried_as report new) new (batch_passes options old (lines_in input))
batch_goes_on options old new input lines result spells h = subst (λ (z : Result (List Line) TextError). BatchTo options old new result z) (sym (lines_are input lines spells)) h

by_fault : (options : Options) (folder : Folder) (fault : Option Fault) (result : Result Report Stop) → (fault ≡ None → ⊥) → ReportsChange {X = Unit {0}} (Err (stop_of_fault fault)) result
    → Carries result (λ report. refused folder (refusal_of fault) ≡ carried_as report folder) folder (folder ∷ [])
by_fault options folder None result no' reports = absurd (no' refl)
by_fault options folder (Some fault) (Ok report) no' reports = ap (λ (z : Report). carried_as z folder) (sym reports)
by_fault options folder (Some fault) (Err (Refused refusal)) no' reports = reports
by_fault options folder (Some fault) (Err DiskFailed) no' reports = tt
by_fault options folder (Some fault) (Err Memory) no' reports = inl refl

has_fault : (error : TextError) → error ≢ text_error.Memory → fault_of_text error ≡ None → ⊥
has_fault (text_error.BadWord line) no' e = cc
has_fault (text_error.OpenQuote line) no' e = cc
has_fault (text_error.UnknownCommand line) no' e = cc
has_fault (text_error.ArgumentCount line) no' e = cc
has_fault (text_error.BadName line) no' e = cc
has_fault text_error.Memory no' e = absurd (no' refl)

pub command_front : (options : Options) (folder : Folder) (asked : Command) → IsAmong folder (command_passes options folder asked)
command_front options folder (command.Show path) = inl refl
command_front options folder (command.Get path) = inl refl
command_front options folder (command.Stage verb word) = inl refl
command_front options folder (command.Add name kind) = inl refl
command_front options folder (command.Changes name) = inl refl
command_front options folder (command.Revert path) = inl refl
command_front options folder (command.Commit None) = at_front folder folder.names
command_front options folder (command.Commit (Some name)) = inl refl
command_front options folder (command.Export name) = inl refl
command_front options folder (command.Import name) = inl refl
command_front options folder command.Batch = inl refl

asked_front : (options : Options) (folder : Folder) (asked : Option Command) → IsAmong folder (asked_passes options folder asked)
asked_front options folder None = inl refl
asked_front options folder (Some asked) = command_front options folder asked

-- the folder that is found is the first
pub line_front : (options : Options) (folder : Folder) (words : List (List ℕ)) → IsAmong folder (line_passes options folder words)
line_front options folder words = asked_front options folder (command_of words)

lines_front : (options : Options) (folder : Folder) (lines : List Line) → IsAmong folder (lines_passes options folder lines)
lines_front options folder [] = inl refl
lines_front options folder (line ∷ lines) = among_front folder (line_passes options folder line.words) (lines_passes options (line_done options folder line.words).after lines) (line_front options folder line.words)

pub batch_front : (options : Options) (folder : Folder) (found : Result (List Line) TextError) → IsAmong folder (batch_passes options folder found)
batch_front options folder (Ok lines) = lines_front options folder lines
batch_front options folder (Err error) = inl refl

-- an input that has no lines
pub batch_stops : (options : Options) (folder : Folder) (input : List ℕ) (error : TextError) (result : Result Report Stop) → (error ≢ text_error.Memory → IsFirstFault input error)
    → ReportsChange {X = Unit {0}} (Err (stop_of_text error)) result
    → Carries result (λ report. batch_of options folder (lines_in input) ≡ carried_as report folder) folder (batch_passes options folder (lines_in input))
batch_stops options folder input error result has reports = go (text_memory error)
  where
    go : (error ≡ text_error.Memory) ⊎ (error ≢ text_error.Memory) → Carries result (λ report. batch_of options folder (lines_in input) ≡ carried_as report folder) folder (batch_passes options folder (lines_in input))
    go (inr no') = subst (λ (z : Result (List Line) TextError). BatchTo options folder folder result z) (sym (line_fault_is input error (has no'))) (by_fault options folder (fault_of_text error) result (has_fault error no') reports)
    go (inl e) =
        let short : result ≡ Err Memory = subst (λ (z : TextError). ReportsChange {X = Unit {0}} (Err (stop_of_text z)) result) e reports in
        subst (λ (z : Result Report Stop). BatchTo options folder folder z (lines_in input)) (sym short) (batch_front options folder (lines_in input))
