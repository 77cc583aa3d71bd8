-- What the words of `uci` ask for.
use Rattle.std.specs.Prelude.{ℕ, List, [], ◌∷◌, Option, Some, None}
use Rattle.uci_cli.specs.declared.options.Options.{Options}
use Rattle.uci_cli.specs.declared.options.Flag.{Flag}
use Rattle.uci_cli.specs.declared.options.Field.{Field}
use Rattle.uci_cli.specs.declared.words.Asked.{Asked}
use Rattle.uci_cli.specs.Options.{usual, flag_of, field_of, with_flag, with_field}
use Rattle.uci_cli.specs.Command.{command_of}

-- Options come first, and then a command. `waiting` is an option that takes the next word. An option that is not
-- known, and one that lacks its word, ask for no command.
abbrev pub asked_from : Options → Option Field → List (List ℕ) → Asked
asked_from options waiting [] = record { options = options; command = None }
asked_from options (Some field) (word ∷ words) = asked_from (with_field field word options) None words
asked_from options None (word ∷ words) =
    elim (flag_of word) as (λ _. Asked) [
      | Some flag ↦ asked_from (with_flag flag options) None words
      | None ↦ elim (field_of word) as (λ _. Asked) [
        | Some field ↦ asked_from options (Some field) words
        | None ↦ record { options = options; command = command_of (word ∷ words) }
      ]
    ]

abbrev pub asked_of : List (List ℕ) → Asked
asked_of words = asked_from usual None words
