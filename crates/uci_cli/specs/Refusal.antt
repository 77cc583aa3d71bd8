-- Why `uci` refuses a command: the number and the text. The texts are those of the program (`refusal.rt`).
use Rattle.std.specs.Prelude.{ℕ, List, ◌++◌, decimal}
use Rattle.uci_tree.specs.declared.fault.Fault.{Fault}
use Rattle.uci_tree.specs.Fault.{reason_text}
use Rattle.uci_cli.specs.declared.refusal.Refusal.{Refusal}
use Rattle.uci_cli.specs.declared.refusal.Refusal.TheVariants.{NotFound, Invalid, Duplicate, Waiting, NoPackage, Parse}
use Rattle.uci_cli.specs.declared.refusal.Refusal.TheVariants.{TooLarge}
use Rattle.uci_cli.specs.declared.refusal.TheConstants as texts

-- 20 to 22 for what a change meets, 31 where an apply waits, 35 to 37 for packages
abbrev pub number_of : Refusal → ℕ
number_of NotFound = 20
number_of Invalid = 21
number_of Duplicate = 22
number_of Waiting = 31
number_of NoPackage = 35
number_of (Parse fault) = 36
number_of TooLarge = 37

-- where a text is no package, and why
abbrev pub fault_text : Fault → List ℕ
fault_text fault = texts.PARSE_ERROR.now ++ reason_text fault.reason ++ texts.AT_LINE.now ++ decimal fault.line
    ++ texts.NEWLINE.now

-- the line on the error output
abbrev pub text_of : Refusal → List ℕ
text_of NotFound = texts.NOT_FOUND.now
text_of Invalid = texts.INVALID.now
text_of Duplicate = texts.DUPLICATE.now
text_of Waiting = texts.WAITING.now
text_of NoPackage = texts.NOT_FOUND.now
text_of (Parse fault) = fault_text fault
text_of TooLarge = texts.TOO_LARGE.now
