-- Numbers of errors.
use Rattle.std.specs.Prelude.{ℕ}
use Rattle.uci_text.specs.TextError as text_error
use Rattle.uci_tree.specs.declared.tree_error.TreeError.{TreeError}
use Rattle.uci_tree.specs.declared.tree_error.TreeError.TheVariants.{Text, NoSection, Memory}

-- that of the text's fault, 15 for an option before any section, 8 for memory
abbrev pub number_of : TreeError → ℕ
number_of (Text error) = text_error.number_of error
number_of (NoSection line) = 15
number_of Memory = 8
