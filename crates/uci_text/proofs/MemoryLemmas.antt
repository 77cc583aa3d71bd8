-- No fault is want of memory.
use Rattle.std.proofs.Common.{ℕ, ◌≡◌, List, sym, ◌∙◌}
use Rattle.uci_text.specs.declared.text_error.TextError.TheVariants.{BadWord, OpenQuote, Memory}
use Rattle.uci_text.specs.Open.{Open, open_single, open_double, open_pair, last_backslash}
use Rattle.uci_text.specs.FirstFault.{HasFault, zero_byte, no_end, open_error}
use Rattle.uci_text.specs.Table.{HasWordsFault, of_first, of_count, of_name}
use Rattle.uci_text.specs.Commands.{HasCommandFault, of_bytes, of_words}

open_is_no_memory : (open' : Open) (line : ℕ) → Memory ≡ open_error open' line → ⊥
open_is_no_memory (open_single bytes) line is = cc is
open_is_no_memory (open_double inner) line is = cc is
open_is_no_memory (open_pair inner) line is = cc is
open_is_no_memory last_backslash line is = cc is

pub fault_is_no_memory : (number : ℕ) (extent : List ℕ) → HasFault number extent Memory → ⊥
fault_is_no_memory number extent (zero_byte before behind whole clean is) = cc is
fault_is_no_memory number extent (no_end before open' clean at is) = open_is_no_memory open' _ is

words_are_no_memory : (line : ℕ) (words : List (List ℕ)) → HasWordsFault line words Memory → ⊥
words_are_no_memory line words (of_first none is) = cc is
words_are_no_memory line words (of_count keyword begins count is) = cc is
words_are_no_memory line words (of_name keyword begins count named is) = cc is

pub command_fault_is_no_memory : (number : ℕ) (extent : List ℕ) → HasCommandFault number extent Memory → ⊥
command_fault_is_no_memory number extent (of_bytes fault) = fault_is_no_memory number extent fault
command_fault_is_no_memory number extent (of_words words spelled clean fault) = words_are_no_memory number words fault
