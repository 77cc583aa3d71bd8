-- How words are read one after another.
use Rattle.std.proofs.Common.{ℕ, ◌≡◌, List, [], ◌∷◌, Option, Some, None, ap, ◌∙◌}
use Rattle.uci_cli.specs.declared.options.Options.{Options}
use Rattle.uci_cli.specs.declared.options.Flag.{Flag}
use Rattle.uci_cli.specs.declared.options.Field.{Field}
use Rattle.uci_cli.specs.declared.words.Asked.{Asked}
use Rattle.uci_cli.specs.Options.{flag_of, field_of, with_flag, with_field}
use Rattle.uci_cli.specs.Command.{command_of}
use Rattle.uci_cli.specs.Words.{asked_from}

-- what follows the tests of a word
abbrev by_field : Options → List ℕ → List (List ℕ) → Option Field → Asked
by_field options word words field = elim field as (λ _. Asked) [
  | Some found ↦ asked_from options (Some found) words
  | None ↦ record { options = options; command = command_of (word ∷ words) }
]

abbrev by_flag : Options → List ℕ → List (List ℕ) → Option Flag → Asked
by_flag options word words flag = elim flag as (λ _. Asked) [
  | Some found ↦ asked_from (with_flag found options) None words
  | None ↦ by_field options word words (field_of word)
]

pub flag_step : (options : Options) (word : List ℕ) (words : List (List ℕ)) (flag : Flag) → flag_of word ≡ Some flag → asked_from options None (word ∷ words) ≡ asked_from (with_flag flag options) None words
flag_step options word words flag e = ap (by_flag options word words) e

no_flag : (options : Options) (word : List ℕ) (words : List (List ℕ)) → flag_of word ≡ None → asked_from options None (word ∷ words) ≡ by_field options word words (field_of word)
no_flag options word words e = ap (by_flag options word words) e

pub field_step : (options : Options) (word value : List ℕ) (words : List (List ℕ)) (field : Field) → flag_of word ≡ None → field_of word ≡ Some field → asked_from options None (word ∷ value ∷ words)
    ≡ asked_from (with_field field value options) None words
field_step options word value words field e f = no_flag options word (value ∷ words) e ∙ ap (by_field options word (value ∷ words)) f

pub lack_step : (options : Options) (word : List ℕ) (field : Field) → flag_of word ≡ None → field_of word ≡ Some field → asked_from options None (word ∷ []) ≡ record { options = options; command = None }
lack_step options word field e f = no_flag options word [] e ∙ ap (by_field options word []) f

pub command_step : (options : Options) (word : List ℕ) (words : List (List ℕ)) → flag_of word ≡ None → field_of word ≡ None → asked_from options None (word ∷ words) ≡ record { options = options; command = command_of (word ∷ words) }
command_step options word words e f = no_flag options word words e ∙ ap (by_field options word words) f

pub ruleset word_steps = (flag_step, field_step, lack_step, command_step)
