-- Texts that are read as packages, lines and commands.
use Rattle.std.proofs.Common.{ℕ, ◌≡◌, ◌≢◌, ◌⊎◌, inl, inr, Bool, true, false, cond, List, Result, Ok, Err, refl, ap, sym, subst}
use Rattle.uci_text.specs.declared.cmd.Cmd.{Cmd}
use Rattle.uci_text.specs.declared.text_error.TextError.{TextError}
use Rattle.uci_text.specs.declared.text_error.TextError.TheVariants as text_error
use Rattle.uci_tree.specs.declared.package.Package.{Package}
use Rattle.uci_tree.specs.declared.tree_error.TreeError.{TreeError}
use Rattle.uci_tree.specs.declared.tree_error.TreeError.TheVariants as tree_error
use Rattle.uci_tree.specs.Fault.{fault_of, fault_of_text}
use Rattle.uci_tree.specs.Fold.{Draft}
use Rattle.uci_tree.specs.Index.{IsLack}
use Rattle.uci_tree.specs.Reading.{Reads, HasTreeFault}
use Rattle.uci_cli.specs.declared.options.Options.{Options}
use Rattle.uci_cli.specs.declared.refusal.Refusal.{Refusal}
use Rattle.uci_tool.specs.declared.stop.Stop.{Stop}
use Rattle.uci_tool.specs.declared.stop.Stop.TheVariants as stop
use Rattle.uci_tool.specs.Folder.{Folder}
use Rattle.uci_tool.specs.Reading.{package_in}
use Rattle.uci_tool.specs.Seen.{if_ok, parsed}
use Rattle.uci_tool.specs.Import.{replaced, merge_done, import_done}
use Rattle.uci_tool.specs.Merging.{tree_with, merged, merged_with}
use Rattle.uci_tool.specs.Answers.{stop_of_tree, stop_of_text, Answers, Changes}
use Rattle.uci_tool.proofs.ReadingLemmas.{package_is, fault_is, commands_are, command_fault_is}
use Rattle.uci_text.specs.Commands.{SpellsCommands, IsFirstCommandFault}
use Rattle.uci_tool.proofs.SeenLemmas.{fault_answers}
use Rattle.uci_tool.proofs.StageLemmas.{fault_is_no_disk, by_fault}
use Rattle.uci_tool.proofs.AnswerLemmas.{changes_go_on}

-- ---- `import`

pub import_merges : {X : Type 0} (options : Options) (old new : Folder) (name input : List ℕ) (tree : Package) (result : Result X Stop) → Reads name input tree → options.merge ≡ true → Changes result old new (merge_done old name input)
    → Changes result old new (import_done options old name input)
import_merges options old new name input tree result reads merges changes =
    changes_go_on (parsed (package_in name input)) tree (λ found. cond options.merge (merge_done old name input) (replaced old found)) result old new (ap parsed (package_is name input tree reads))
    (subst (λ (z : Bool). Changes result old new (cond z (merge_done old name input) (replaced old tree))) (sym merges) changes)

pub import_replaces : {X : Type 0} (options : Options) (old new : Folder) (name input : List ℕ) (tree : Package) (result : Result X Stop) → Reads name input tree → options.merge ≡ false → Changes result old new (replaced old tree)
    → Changes result old new (import_done options old name input)
import_replaces options old new name input tree result reads merges changes =
    changes_go_on (parsed (package_in name input)) tree (λ found. cond options.merge (merge_done old name input) (replaced old found)) result old new (ap parsed (package_is name input tree reads))
    (subst (λ (z : Bool). Changes result old new (cond z (merge_done old name input) (replaced old tree))) (sym merges) changes)

is_memory : (error : TreeError) → (error ≡ tree_error.Memory) ⊎ (error ≢ tree_error.Memory)
is_memory (tree_error.Text error) = inr (λ e. cc)
is_memory (tree_error.NoSection line) = inr (λ e. cc)
is_memory tree_error.Memory = inl refl

pub import_refused : (options : Options) (folder : Folder) (name input : List ℕ) (error : TreeError) → (error ≢ tree_error.Memory → HasTreeFault input error)
    → Changes {X = Unit {0}} (Err (stop_of_tree error)) folder folder (import_done options folder name input)
import_refused options folder name input error has = go (is_memory error)
  where
    next : Package → Result Folder Refusal
    next found = cond options.merge (merge_done folder name input) (replaced folder found)

    go : (error ≡ tree_error.Memory) ⊎ (error ≢ tree_error.Memory) → Changes {X = Unit {0}} (Err (stop_of_tree error)) folder folder (import_done options folder name input)
    go (inl e) = subst (λ (z : TreeError). Changes {X = Unit {0}} (Err (stop_of_tree z)) folder folder (import_done options folder name input)) (sym e) refl
    go (inr no') = by_fault (fault_of error) folder folder (import_done options folder name input) refl (ap (λ (z : Result Package TreeError). if_ok (parsed z) next) (fault_is name input error (has no')))

one_stop : {A : Type 0} (s : Stop) → ◌≡◌ {A = Result A Stop} (Err s) (Err stop.DiskFailed) → s ≡ stop.DiskFailed
one_stop s e = cc

pub tree_is_no_disk : {A : Type 0} (error : TreeError) → ◌≢◌ {A = Result A Stop} (Err (stop_of_tree error)) (Err stop.DiskFailed)
tree_is_no_disk {A} error e = fault_is_no_disk (fault_of error) (one_stop {A = A} (stop_of_tree error) e)

-- ---- commands behind those of a package

text_memory : (error : TextError) → (error ≡ text_error.Memory) ⊎ (error ≢ text_error.Memory)
text_memory (text_error.BadWord line) = inr (λ e. cc)
text_memory (text_error.OpenQuote line) = inr (λ e. cc)
text_memory (text_error.UnknownCommand line) = inr (λ e. cc)
text_memory (text_error.ArgumentCount line) = inr (λ e. cc)
text_memory (text_error.BadName line) = inr (λ e. cc)
text_memory text_error.Memory = inl refl

pub merge_goes_on : (tree : Package) (input : List ℕ) (commands : List Cmd) (result : Result Package Stop) → SpellsCommands input commands → Answers result (merged_with tree (Ok commands)) → Answers result (merged tree input)
merge_goes_on tree input commands result spells answers = subst (λ (z : Result (List Cmd) TextError). Answers result (merged_with tree z)) (sym (commands_are input commands spells)) answers

pub merge_stops : (tree : Package) (input : List ℕ) (error : TextError) → (error ≢ text_error.Memory → IsFirstCommandFault input error) → Answers {A = Package} (Err (stop_of_text error)) (merged tree input)
merge_stops tree input error has = go (text_memory error)
  where
    go : (error ≡ text_error.Memory) ⊎ (error ≢ text_error.Memory) → Answers {A = Package} (Err (stop_of_text error)) (merged tree input)
    go (inl e) = subst (λ (z : TextError). Answers {A = Package} (Err (stop_of_text z)) (merged tree input)) (sym e) tt
    go (inr no') = fault_answers (fault_of_text error) (merged tree input) (ap (λ (z : Result (List Cmd) TextError). merged_with tree z) (command_fault_is input error (has no')))

pub merge_lacks : (name : List ℕ) (outcome : Result Draft ℕ) (error : TreeError) → IsLack outcome error → Answers {A = Package} (Err (stop_of_tree error)) (tree_with name outcome)
merge_lacks name outcome (tree_error.Text error) lacks = absurd lacks
merge_lacks name outcome (tree_error.NoSection line) lacks = ap (λ (z : Result Draft ℕ). tree_with name z) lacks
merge_lacks name outcome tree_error.Memory lacks = tt
