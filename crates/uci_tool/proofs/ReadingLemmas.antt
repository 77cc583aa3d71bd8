-- The readings of texts are what their laws say.
use Rattle.std.proofs.Common.{ℕ, ◌≡◌, List, Result, Ok, Err, ◌⊎◌, inl, inr}
use Rattle.uci_tree.specs.declared.package.Package.{Package}
use Rattle.uci_tree.specs.declared.tree_error.TreeError.{TreeError}
use Rattle.uci_tree.specs.Reading.{Reads, HasTreeFault}
use Rattle.uci_tree.proofs.ReadingLemmas.{one_tree}
use Rattle.uci_tree.proofs.LawLemmas.{tree_fault_is_one, no_package, package_or_fault}
use Rattle.uci_text.specs.declared.line.Line.{Line}
use Rattle.uci_text.specs.declared.cmd.Cmd.{Cmd}
use Rattle.uci_text.specs.declared.text_error.TextError.{TextError}
use Rattle.uci_text.specs.Text.{Spells}
use Rattle.uci_text.specs.FirstFault.{IsFirstFault}
use Rattle.uci_text.specs.Commands.{SpellsCommands, IsFirstCommandFault}
use Rattle.uci_text.proofs.FaultLemmas.{reading_is_one, fault_is_one, no_reading}
use Rattle.uci_text.proofs.CommandsLemmas.{commands_are_one}
use Rattle.uci_text.proofs.TotalLemmas.{reading_or_fault}
use Rattle.uci_text.proofs.FirstLemmas.{command_fault_is_one, no_commands, commands_or_fault}
use Rattle.uci_tool.specs.Reading.{package_in, lines_in, commands_in}

-- a text that reads as a package is that package
pub package_is : (name text : List ℕ) (tree : Package) → Reads name text tree → package_in name text ≡ Ok tree
unfolding package_in
package_is name text tree reads = go (package_or_fault name text)
  where
    go : (d : ((other : Package) × Reads name text other) ⊎ ((error : TreeError) × HasTreeFault text error))
        → ◌≡◌ {A = Result Package TreeError} (elim d as (λ _. Result Package TreeError) [ inl found ↦ Ok found.0 | inr fault ↦ Err fault.0 ]) (Ok tree)
    go (inl found) = let same : found.0 ≡ tree = one_tree name text tree found.0 reads found.1 in cc
    go (inr fault) = absurd (no_package name text fault.0 tree fault.1 reads)

-- and one that has a fault has that fault
pub fault_is : (name text : List ℕ) (error : TreeError) → HasTreeFault text error → package_in name text ≡ Err error
unfolding package_in
fault_is name text error has = go (package_or_fault name text)
  where
    go : (d : ((other : Package) × Reads name text other) ⊎ ((other : TreeError) × HasTreeFault text other))
        → ◌≡◌ {A = Result Package TreeError} (elim d as (λ _. Result Package TreeError) [ inl found ↦ Ok found.0 | inr fault ↦ Err fault.0 ]) (Err error)
    go (inl found) = absurd (no_package name text error found.0 has found.1)
    go (inr fault) = let same : fault.0 ≡ error = tree_fault_is_one text error fault.0 has fault.1 in cc

-- a text that reads as lines is those lines
pub lines_are : (text : List ℕ) (lines : List Line) → Spells text lines → lines_in text ≡ Ok lines
unfolding lines_in
lines_are text lines spells = go (reading_or_fault text)
  where
    go : (d : ((others : List Line) × Spells text others) ⊎ ((error : TextError) × IsFirstFault text error))
        → ◌≡◌ {A = Result (List Line) TextError} (elim d as (λ _. Result (List Line) TextError) [ inl found ↦ Ok found.0 | inr fault ↦ Err fault.0 ]) (Ok lines)
    go (inl found) = let same : found.0 ≡ lines = reading_is_one text lines found.0 spells found.1 in cc
    go (inr fault) = absurd (no_reading text fault.0 lines fault.1 spells)

pub line_fault_is : (text : List ℕ) (error : TextError) → IsFirstFault text error → lines_in text ≡ Err error
unfolding lines_in
line_fault_is text error has = go (reading_or_fault text)
  where
    go : (d : ((others : List Line) × Spells text others) ⊎ ((other : TextError) × IsFirstFault text other))
        → ◌≡◌ {A = Result (List Line) TextError} (elim d as (λ _. Result (List Line) TextError) [ inl found ↦ Ok found.0 | inr fault ↦ Err fault.0 ]) (Err error)
    go (inl found) = absurd (no_reading text error found.0 has found.1)
    go (inr fault) = let same : fault.0 ≡ error = fault_is_one text error fault.0 has fault.1 in cc

-- and one that reads as commands is those commands
pub commands_are : (text : List ℕ) (commands : List Cmd) → SpellsCommands text commands → commands_in text ≡ Ok commands
unfolding commands_in
commands_are text commands spells = go (commands_or_fault text)
  where
    go : (d : ((others : List Cmd) × SpellsCommands text others) ⊎ ((error : TextError) × IsFirstCommandFault text error))
        → ◌≡◌ {A = Result (List Cmd) TextError} (elim d as (λ _. Result (List Cmd) TextError) [ inl found ↦ Ok found.0 | inr fault ↦ Err fault.0 ]) (Ok commands)
    go (inl found) = let same : found.0 ≡ commands = commands_are_one text commands found.0 spells found.1 in cc
    go (inr fault) = absurd (no_commands text fault.0 commands fault.1 spells)

pub command_fault_is : (text : List ℕ) (error : TextError) → IsFirstCommandFault text error → commands_in text ≡ Err error
unfolding commands_in
command_fault_is text error has = go (commands_or_fault text)
  where
    go : (d : ((others : List Cmd) × SpellsCommands text others) ⊎ ((other : TextError) × IsFirstCommandFault text other))
        → ◌≡◌ {A = Result (List Cmd) TextError} (elim d as (λ _. Result (List Cmd) TextError) [ inl found ↦ Ok found.0 | inr fault ↦ Err fault.0 ]) (Err error)
    go (inl found) = absurd (no_commands text error found.0 has found.1)
    go (inr fault) = let same : fault.0 ≡ error = command_fault_is_one text error fault.0 has fault.1 in cc
