-- The commands of a text behind the sections of a package.
use Rattle.std.specs.Prelude.{ℕ, ◌≡◌, ◌<◌, List, length, Some, None, Result, Ok, Err}
use Rattle.uci_text.specs.declared.cmd.Cmd.{Cmd}
use Rattle.uci_text.specs.declared.text_error.TextError.{TextError}
use Rattle.uci_tree.specs.declared.fault.Reason.TheVariants.{NoSection}
use Rattle.uci_tree.specs.declared.package.Package.{Package}
use Rattle.uci_tree.specs.Fault.{fault_of_text}
use Rattle.uci_tree.specs.Fold.{Draft, after_all}
use Rattle.uci_cli.specs.declared.refusal.Refusal.{Refusal}
use Rattle.uci_cli.specs.declared.refusal.Refusal.TheVariants.{Parse}
use Rattle.uci_tool.specs.declared.merging.Merge.{Merge}
use Rattle.uci_tool.specs.Reading.{commands_in}
use Rattle.uci_tool.specs.Seen.{refusal_of}

-- the sections go on behind those of a package, and the next command belongs to none of them
abbrev pub draft_over : Package → Draft
draft_over tree = record { sections = tree.sections; made = tree.made; current = None }

abbrev pub tree_of : List ℕ → Draft → Package
tree_of name draft = record { name = name; sections = draft.sections; made = draft.made }

-- what commands make of a package; an option or a list before any `config` is refused
abbrev pub tree_with : List ℕ → Result Draft ℕ → Result Package Refusal
tree_with name (Ok draft) = Ok (tree_of name draft)
tree_with name (Err line) = Err (Parse (record { line = line; reason = NoSection }))

abbrev pub merged_with : Package → Result (List Cmd) TextError → Result Package Refusal
merged_with tree (Ok commands) = tree_with tree.name (after_all (draft_over tree) commands)
merged_with tree (Err error) = Err (refusal_of (fault_of_text error))

-- a package with the commands of a text behind its own
abbrev pub merged : Package → List ℕ → Result Package Refusal
merged tree input = merged_with tree (commands_in input)

-- the package so far
abbrev pub draft_of : Merge → Draft
draft_of merge = record { sections = merge.sections.items; made = merge.made; current = merge.current }

-- the place of the current section is one of a section
abbrev pub IsWithin : Merge → Type 0
IsWithin merge = (place : ℕ) → merge.current ≡ Some place → place < length merge.sections.items
