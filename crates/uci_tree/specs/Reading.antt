-- A text as a package, and why a text is none.
use Rattle.std.specs.Prelude.{ℕ, ◌≡◌, List, Ok, Err}
use Rattle.uci_text.specs.declared.cmd.Cmd.{Cmd}
use Rattle.uci_text.specs.Commands.{SpellsCommands, IsFirstCommandFault}
use Rattle.uci_tree.specs.declared.package.Package.{Package}
use Rattle.uci_tree.specs.declared.tree_error.TreeError.{TreeError}
use Rattle.uci_tree.specs.declared.tree_error.TreeError.TheVariants.{Text, NoSection, Memory}
use Rattle.uci_tree.specs.Fold.{Draft, nothing, after_all}

-- the text has commands, and of nothing they make the package of this name
pub record Reads (name text : List ℕ) (tree : Package) : Type 0 where
  pub commands : List Cmd
  pub spelled : SpellsCommands text commands
  pub draft : Draft
  pub folded : after_all nothing commands ≡ Ok draft
  pub is : tree ≡ record { name = name; sections = draft.sections; made = draft.made }

-- the text has commands, and an option or a list on this line is the first that stands before any section
pub record LacksSection (text : List ℕ) (line : ℕ) : Type 0 where
  pub commands : List Cmd
  pub spelled : SpellsCommands text commands
  pub folded : after_all nothing commands ≡ Err line

-- the fault of a text: the first one of its commands, and else that a section is lacking
abbrev pub HasTreeFault : List ℕ → TreeError → Type 0
HasTreeFault text (Text error) = IsFirstCommandFault text error
HasTreeFault text (NoSection line) = LacksSection text line
HasTreeFault text Memory = ⊥
