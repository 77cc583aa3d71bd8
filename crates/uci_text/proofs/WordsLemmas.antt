-- Each line of a reading has words.
use Rattle.std.proofs.Common.{ℕ, ◌≡◌, ◌<◌, List, [], ◌∷◌, length, All, arith, ap}
use Rattle.std.specs.List.{AllByRecursion}
use Rattle.std.proofs.lemmas.List.Elements.{All-from_recursion}
use Rattle.uci_text.specs.declared.line.Line.{Line}
use Rattle.uci_text.specs.Command.{SpellsCommand, command_words}
use Rattle.uci_text.specs.Text.{SpellsLines, Spells}

command_has_words : (extent behind : List ℕ) (words : List (List ℕ)) → SpellsCommand extent behind words → 0 < length words
command_has_words extent behind words s =
    let e : length words ≡ length (command_words s.command) = ap length s.words_are in
    omega arith

lines_have_words : (lines : List Line) (number : ℕ) (text : List ℕ) → SpellsLines number text lines → AllByRecursion (λ (line : Line). 0 < length line.words) lines
lines_have_words [] number text s = tt
lines_have_words (line ∷ lines) number text s = (command_has_words s.extent s.behind line.words s.spelled, lines_have_words lines _ s.behind s.rest)

pub reading_has_words : (text : List ℕ) (lines : List Line) → Spells text lines → All (λ (line : Line). 0 < length line.words) lines
reading_has_words text lines s = All-from_recursion (λ (line : Line). 0 < length line.words) lines (lines_have_words lines _ s.behind s.commands)
