-- Texts as packages, lines and commands. Each text is one, or has a fault: this is a law of each reading, and the
-- functions here give what the law gives.
use Rattle.std.specs.Prelude.{ℕ, List, Result, Ok, Err}
use Rattle.std.proofs.Common.{inl, inr}
use Rattle.uci_text.specs.declared.line.Line.{Line}
use Rattle.uci_text.specs.declared.cmd.Cmd.{Cmd}
use Rattle.uci_text.specs.declared.text_error.TextError.{TextError}
use Rattle.uci_text.proofs.TotalLemmas.{reading_or_fault}
use Rattle.uci_text.proofs.FirstLemmas.{commands_or_fault}
use Rattle.uci_tree.specs.declared.package.Package.{Package}
use Rattle.uci_tree.specs.declared.tree_error.TreeError.{TreeError}
use Rattle.uci_tree.proofs.LawLemmas.{package_or_fault}

-- the package of this name that a text is, or its fault
unfoldable pub package_in : List ℕ → List ℕ → Result Package TreeError
package_in name text = elim (package_or_fault name text) as
    (λ _. Result Package TreeError) [ inl found ↦ Ok found.0 | inr fault ↦ Err fault.0 ]

-- the lines of words of a text, or its fault
unfoldable pub lines_in : List ℕ → Result (List Line) TextError
lines_in text = elim (reading_or_fault text) as
    (λ _. Result (List Line) TextError) [ inl found ↦ Ok found.0 | inr fault ↦ Err fault.0 ]

-- the commands of a text, or its fault
unfoldable pub commands_in : List ℕ → Result (List Cmd) TextError
commands_in text = elim (commands_or_fault text) as
    (λ _. Result (List Cmd) TextError) [ inl found ↦ Ok found.0 | inr fault ↦ Err fault.0 ]
