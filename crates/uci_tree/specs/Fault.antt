-- Where a text is no package, and why, in words.
use Rattle.std.specs.Prelude.{ℕ, List, Option, Some, None}
use Rattle.uci_text.specs.declared.text_error.TextError.{TextError}
use Rattle.uci_text.specs.declared.text_error.TextError.TheVariants as text_error
use Rattle.uci_tree.specs.declared.tree_error.TreeError.{TreeError}
use Rattle.uci_tree.specs.declared.tree_error.TreeError.TheVariants as tree_error
use Rattle.uci_tree.specs.declared.fault.Reason.{Reason}
use Rattle.uci_tree.specs.declared.fault.Reason.TheVariants as reason
use Rattle.uci_tree.specs.declared.fault.Fault.{Fault}
use Rattle.uci_tree.specs.declared.fault.TheConstants.{BAD_WORD, OPEN_QUOTE, UNKNOWN_COMMAND, ARGUMENT_COUNT, BAD_NAME}
use Rattle.uci_tree.specs.declared.fault.TheConstants.{NO_SECTION}

-- the fault of a text that has no commands; want of memory is none
abbrev pub fault_of_text : TextError → Option Fault
fault_of_text (text_error.BadWord line) = Some (record { line = line; reason = reason.BadWord })
fault_of_text (text_error.OpenQuote line) = Some (record { line = line; reason = reason.OpenQuote })
fault_of_text (text_error.UnknownCommand line) = Some (record { line = line; reason = reason.UnknownCommand })
fault_of_text (text_error.ArgumentCount line) = Some (record { line = line; reason = reason.ArgumentCount })
fault_of_text (text_error.BadName line) = Some (record { line = line; reason = reason.BadName })
fault_of_text text_error.Memory = None

-- the fault of a text that is no package
abbrev pub fault_of : TreeError → Option Fault
fault_of (tree_error.Text error) = fault_of_text error
fault_of (tree_error.NoSection line) = Some (record { line = line; reason = reason.NoSection })
fault_of tree_error.Memory = None

-- the words for a reason
abbrev pub reason_text : Reason → List ℕ
reason_text reason.BadWord = BAD_WORD.now
reason_text reason.OpenQuote = OPEN_QUOTE.now
reason_text reason.UnknownCommand = UNKNOWN_COMMAND.now
reason_text reason.ArgumentCount = ARGUMENT_COUNT.now
reason_text reason.BadName = BAD_NAME.now
reason_text reason.NoSection = NO_SECTION.now
