-- Texts whose readings and faults the checker computes.
use Rattle.std.proofs.Common.{ℕ, ◌≡◌, ◌<◌, List, [], ◌∷◌, ◌++◌, length, Bool, true, false, Some, None, inl, inr, refl, codes, arith}
use Rattle.std.specs.Prelude.{◌&&◌}
use Rattle.std.specs.List.{list_all}
use Rattle.uci_text.specs.declared.text_error.TextError.TheVariants.{BadWord, OpenQuote, ArgumentCount}
use Rattle.uci_text.specs.declared.byte_class.ByteClass.{ByteClass}
use Rattle.uci_text.specs.declared.byte_class.ByteClass.TheVariants.{Blank, InLine, Plain, Quotable, DoubleQuotable, NotZero, Name, Printable}
use Rattle.uci_text.specs.declared.keyword.Keyword.TheVariants.{Config, Item}
use Rattle.uci_text.specs.declared.cmd.Cmd.TheVariants.{Config as ConfigCmd, Item as ItemCmd}
use Rattle.uci_text.specs.ByteClass.{is_in, AllIn, ends_word}
use Rattle.uci_text.specs.Piece.{Piece, plain, escaped, single, double, kept}
use Rattle.uci_text.specs.Word.{Spaced, IsWord, IsSpaced}
use Rattle.uci_text.specs.Gap.{blank, comment, IsGap}
use Rattle.uci_text.specs.Command.{SpellsCommand}
use Rattle.uci_text.specs.Open.{open_single, open_double, open_pair, IsOpenCommand, ended, unended}
use Rattle.uci_text.specs.Text.{Spells}
use Rattle.uci_text.specs.FirstFault.{zero_byte, no_end, IsFirstFault}
use Rattle.uci_text.specs.Table.{of_count, IsCmd}
use Rattle.uci_text.specs.Commands.{SpellsCommands, of_bytes, of_words, IsFirstCommandFault}
use Rattle.uci_text.proofs.FaultLemmas.{gap_faultless}
use Rattle.uci_text.proofs.CommandsLemmas.{gap_free, command_free}

both : (t u : Bool) → (t && u) ≡ true → (t ≡ true) × (u ≡ true)
both true u h = (refl, h)
both false u h = absurd (let n : false ≡ true = h in cc)

pub tested : (class : ByteClass) (bytes : List ℕ) → list_all (λ byte. is_in class byte) bytes ≡ true → AllIn class bytes
tested class [] h = tt
tested class (b ∷ bytes) h =
    let p : (is_in class b ≡ true) × (list_all (λ byte. is_in class byte) bytes ≡ true) = both (is_in class b) (list_all (λ byte. is_in class byte) bytes) h in
    (p.0, tested class bytes p.1)

abbrev pub word : List ℕ → List Piece
word text = plain text ∷ []

abbrev pub spaced : List ℕ → Spaced
spaced text = record { spaces = 32 ∷ []; pieces = word text }

pub is_word : (text : List ℕ) → 0 < length text → list_all (λ byte. is_in Plain byte) text ≡ true → IsWord (word text)
is_word text l h = record { some = omega arith; each = ((l, tested Plain text h), tt) }

pub is_spaced : (text : List ℕ) → 0 < length text → list_all (λ byte. is_in Plain byte) text ≡ true → IsSpaced (spaced text)
is_spaced text l h = record { apart = omega arith; spaces = (refl, tt); is = is_word text l h }

-- no gap before a command
pub no_gap : (b : ℕ) (bytes : List ℕ) → ends_word b ≡ false → IsGap [] (b ∷ bytes)
no_gap b bytes h = record { fillers = []; whole = refl; each = tt; next = rw h refl }

abbrev two_commands : List ℕ
two_commands = codes "config x s; option a 'b'\"c\"\\ d # end"

-- quotes and an escaped space side by side are one word, and two commands stand on one line
pieces_and_comment : Spells two_commands (record { line = 1; words = codes "config" ∷ codes "x" ∷ codes "s" ∷ [] } ∷ record { line = 1; words = codes "option" ∷ codes "a" ∷ codes "bc d" ∷ [] } ∷ [])
pieces_and_comment = record {
  gap = [];
  behind = two_commands;
  whole = refl;
  clean = tested NotZero two_commands refl;
  front = no_gap 99 (codes "onfig x s; option a 'b'\"c\"\\ d # end") refl;
  commands = record {
    extent = codes "config x s; ";
    behind = codes "option a 'b'\"c\"\\ d # end";
    whole = refl;
    place = refl;
    spelled = record {
      command = record { first = word (codes "config"); others = spaced (codes "x") ∷ spaced (codes "s") ∷ []; last = [] };
      gap = codes "; ";
      whole = refl;
      is = record { first = is_word (codes "config") (omega arith) refl; others = (is_spaced (codes "x") (omega arith) refl, (is_spaced (codes "s") (omega arith) refl, tt)); last = tt };
      end = refl;
      gap_is = record { fillers = blank (codes "; ") ∷ []; whole = refl; each = (tested Blank (codes "; ") refl, tt); next = refl };
      words_are = refl;
    };
    rest = record {
      extent = codes "option a 'b'\"c\"\\ d # end";
      behind = [];
      whole = refl;
      place = refl;
      spelled = record {
        command = record { first = word (codes "option"); others = spaced (codes "a") ∷ record { spaces = 32 ∷ []; pieces = single (codes "b") ∷ double (kept (codes "c") ∷ []) ∷ escaped 32 ∷ plain (codes "d") ∷ [] } ∷ []; last = 32 ∷ [] };
        gap = codes "# end";
        whole = refl;
        is = record {
          first = is_word (codes "option") (omega arith) refl;
          others = (
            is_spaced (codes "a") (omega arith) refl,
            (
              record {
                apart = omega arith;
                spaces = (refl, tt);
                is =
                    record { some = omega arith; each = (tested Quotable (codes "b") refl, ((tested DoubleQuotable (codes "c") refl, tt), (tt, ((omega arith, tested Plain (codes "d") refl), tt)))) };
              },
              tt,
            ),
          );
          last = (refl, tt);
        };
        end = refl;
        gap_is = record { fillers = comment (codes " end") ∷ []; whole = refl; each = (tested InLine (codes " end") refl, tt, tt); next = tt };
        words_are = refl;
      };
      rest = refl;
    };
  };
}

-- a zero byte goes before the quote that is not closed: it is on the second line
zero_byte_before_quote : IsFirstFault (codes "config 'x\n" ++ 0 ∷ codes "y") (BadWord 2)
zero_byte_before_quote = record {
  good = [] ∷ [];
  bad = codes "config 'x\n" ++ 0 ∷ codes "y";
  behind = [];
  whole = refl;
  extents = (
    no_gap 99 (codes "onfig 'x\n" ++ 0 ∷ codes "y") refl,
    (
      unended (codes "config ") (open_single (codes "x\n" ++ 0 ∷ codes "y")) (record {
        front = record { spaces = []; pieces = word (codes "config") } ∷ record { spaces = 32 ∷ []; pieces = [] } ∷ [];
        whole = refl;
        before_is = refl;
        loose = (record { spaces = tt; pieces = ((omega arith, tested Plain (codes "config") refl), tt) }, (record { spaces = (refl, tt); pieces = tt }, tt));
        open_is = tested Quotable (codes "x\n" ++ 0 ∷ codes "y") refl;
      }) refl,
      tt,
    ),
  );
  free = (gap_faultless [] (codes "config") (no_gap 99 (codes "onfig") refl) tt, tt);
  fault = zero_byte (codes "config 'x\n") (codes "y") refl (tested NotZero (codes "config 'x\n") refl) refl;
}

-- a backslash that is the last byte within double quotes: the quote is open, on its line
backslash_in_quotes : IsFirstFault (codes "\n\"a\\") (OpenQuote 2)
backslash_in_quotes = record {
  good = codes "\n" ∷ [];
  bad = codes "\"a\\";
  behind = [];
  whole = refl;
  extents = (is_gap, (unended [] (open_pair (kept (codes "a") ∷ [])) is_open refl, tt));
  free = (gap_faultless (codes "\n") (codes "\"a\\") is_gap (refl, tt), tt);
  fault = no_end [] (open_pair (kept (codes "a") ∷ [])) (tested NotZero (codes "\"a\\") refl) is_open refl;
}
  where
    is_gap : IsGap (codes "\n") (codes "\"a\\")
    is_gap = record { fillers = blank (codes "\n") ∷ []; whole = refl; each = (tested Blank (codes "\n") refl, tt); next = refl }

    is_open : IsOpenCommand (codes "\"a\\") [] (open_pair (kept (codes "a") ∷ []))
    is_open = record { front = []; whole = refl; before_is = refl; loose = tt; open_is = (tested DoubleQuotable (codes "a") refl, tt) }

-- the same text as commands
commands_of_two : SpellsCommands two_commands (ConfigCmd 1 (codes "x") (Some (codes "s")) ∷ ItemCmd 1 (codes "a") (codes "bc d") ∷ [])
commands_of_two = record {
  lines = record { line = 1; words = codes "config" ∷ codes "x" ∷ codes "s" ∷ [] } ∷ record { line = 1; words = codes "option" ∷ codes "a" ∷ codes "bc d" ∷ [] } ∷ [];
  spelled = pieces_and_comment;
  each = (
    record { keyword = Config; is = record { begins = inl refl; count = inr refl; named = ((omega arith, tested Printable (codes "x") refl), tested Name (codes "s") refl) }; cmd_is = refl },
    (record { keyword = Item; is = record { begins = inl refl; count = inr refl; named = (omega arith, tested Name (codes "a") refl) }; cmd_is = refl }, tt),
  );
}

-- a section with one argument too many
three_arguments : IsFirstCommandFault (codes "config x y z") (ArgumentCount 1)
three_arguments = record {
  good = [] ∷ [];
  bad = codes "config x y z";
  behind = [];
  whole = refl;
  extents = (no_gap 99 (codes "onfig x y z") refl, (ended words spelled, tt));
  free = (gap_free [] (codes "config x y z") (no_gap 99 (codes "onfig x y z") refl) tt, tt);
  fault = of_words words spelled (tested NotZero (codes "config x y z") refl) (of_count Config (inl refl) (λ h. elim h [ inl e ↦ omega arith | inr e ↦ omega arith ]) refl);
}
  where
    words : List (List ℕ)
    words = codes "config" ∷ codes "x" ∷ codes "y" ∷ codes "z" ∷ []

    spelled : SpellsCommand (codes "config x y z") [] words
    spelled = record {
      command = record { first = word (codes "config"); others = spaced (codes "x") ∷ spaced (codes "y") ∷ spaced (codes "z") ∷ []; last = [] };
      gap = [];
      whole = refl;
      is = record { first = is_word (codes "config") (omega arith) refl; others = (is_spaced (codes "x") (omega arith) refl, (is_spaced (codes "y") (omega arith) refl, (is_spaced (codes "z") (omega arith) refl, tt))); last = tt };
      end = tt;
      gap_is = record { fillers = []; whole = refl; each = tt; next = tt };
      words_are = refl;
    }

-- one command
pub option_alone : SpellsCommands (codes "option a b") (ItemCmd 1 (codes "a") (codes "b") ∷ [])
option_alone = record {
  lines = record { line = 1; words = codes "option" ∷ codes "a" ∷ codes "b" ∷ [] } ∷ [];
  spelled = record {
    gap = [];
    behind = codes "option a b";
    whole = refl;
    clean = tested NotZero (codes "option a b") refl;
    front = no_gap 111 (codes "ption a b") refl;
    commands = record {
      extent = codes "option a b";
      behind = [];
      whole = refl;
      place = refl;
      spelled = record {
        command = record { first = word (codes "option"); others = spaced (codes "a") ∷ spaced (codes "b") ∷ []; last = [] };
        gap = [];
        whole = refl;
        is = record { first = is_word (codes "option") (omega arith) refl; others = (is_spaced (codes "a") (omega arith) refl, (is_spaced (codes "b") (omega arith) refl, tt)); last = tt };
        end = tt;
        gap_is = record { fillers = []; whole = refl; each = tt; next = tt };
        words_are = refl;
      };
      rest = refl;
    };
  };
  each = (record { keyword = Item; is = record { begins = inl refl; count = inr refl; named = (omega arith, tested Name (codes "a") refl) }; cmd_is = refl }, tt);
}

-- a quote that is open on the second line, after a command that has no fault
pub open_on_second_line : IsFirstCommandFault (codes "config x\n\"a") (OpenQuote 2)
open_on_second_line = record {
  good = [] ∷ codes "config x\n" ∷ [];
  bad = codes "\"a";
  behind = [];
  whole = refl;
  extents = (no_gap 99 (codes "onfig x\n\"a") refl, (ended words spelled, (unended [] (open_double (kept (codes "a") ∷ [])) is_open refl, tt)));
  free = (
    gap_free [] (codes "config x\n") (no_gap 99 (codes "onfig x\n") refl) tt,
    (command_free (codes "config x\n") (codes "\"a") 1 words (ConfigCmd 1 (codes "x") None) spelled (tested NotZero (codes "config x\n") refl) is_config, tt),
  );
  fault = of_bytes (no_end [] (open_double (kept (codes "a") ∷ [])) (tested NotZero (codes "\"a") refl) is_open refl);
}
  where
    words : List (List ℕ)
    words = codes "config" ∷ codes "x" ∷ []

    spelled : SpellsCommand (codes "config x\n") (codes "\"a") words
    spelled = record {
      command = record { first = word (codes "config"); others = spaced (codes "x") ∷ []; last = [] };
      gap = codes "\n";
      whole = refl;
      is = record { first = is_word (codes "config") (omega arith) refl; others = (is_spaced (codes "x") (omega arith) refl, tt); last = tt };
      end = refl;
      gap_is = record { fillers = blank (codes "\n") ∷ []; whole = refl; each = (tested Blank (codes "\n") refl, tt); next = refl };
      words_are = refl;
    }

    is_open : IsOpenCommand (codes "\"a") [] (open_double (kept (codes "a") ∷ []))
    is_open = record { front = []; whole = refl; before_is = refl; loose = tt; open_is = (tested DoubleQuotable (codes "a") refl, tt) }

    is_config : IsCmd 1 words (ConfigCmd 1 (codes "x") None)
    is_config = record { keyword = Config; is = record { begins = inl refl; count = inl refl; named = ((omega arith, tested Printable (codes "x") refl), tt) }; cmd_is = refl }
