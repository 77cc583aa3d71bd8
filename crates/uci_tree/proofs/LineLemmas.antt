-- A printed line is a command.
use Rattle.std.proofs.Common.{ℕ, ◌≡◌, ◌<◌, ◌+◌, List, [], ◌∷◌, ◌++◌, length, map, Result, Ok, Bool, true, false, not, cond, arith, sym, refl, subst, ap, ◌∙◌, append_assoc}
use Rattle.std.specs.Prelude.{◌||◌}
use Rattle.std.specs.List.{AllByRecursion, AllZip, flat_map, list_any}
use Rattle.std.proofs.lemmas.List.{append-nil}
use Rattle.std.proofs.lemmas.Bool.Decides.{nat_tests}
use Rattle.uci_text.specs.declared.byte_class.ByteClass.TheVariants.{Blank, Plain, NotZero, Name, PackageName, Printable}
use Rattle.uci_text.specs.declared.line.Line.{Line}
use Rattle.uci_text.specs.declared.cmd.Cmd.{Cmd}
use Rattle.uci_text.specs.ByteClass.{is_in, AllIn, IsAtEndOr, newlines, ends_word}
use Rattle.uci_text.specs.Piece.{plain}
use Rattle.uci_text.specs.Word.{Spaced, IsSpaced, spaced_text, word_text, word_value, SpellsWord}
use Rattle.uci_text.specs.Gap.{blank}
use Rattle.uci_text.specs.Command.{SpellsCommand}
use Rattle.uci_text.specs.Text.{SpellsLines}
use Rattle.uci_text.specs.Table.{IsNameOf}
use Rattle.uci_text.specs.Commands.{IsCmdOf}
use Rattle.uci_text.specs.Quote.{quoted}
use Rattle.uci_text.proofs.ClassLemmas.{all_in-append}
use Rattle.uci_text.proofs.QuoteLemmas.{quoted_spells, quoted_clean}
use Rattle.uci_text.proofs.RunLemmas.{newlines-append}
use Rattle.uci_tree.specs.declared.package.Section.{Section}
use Rattle.uci_tree.specs.Fold.{Draft, after, goes_on, after_all}
use Rattle.uci_tree.specs.Print.{is_special, kind_text}

-- a word without a zero byte
pub record IsCleanWord (text value : List ℕ) : Type 0 where
  pub spelled : SpellsWord text value
  pub clean : AllIn NotZero text

pub quoted_word : (value : List ℕ) → AllIn NotZero value → IsCleanWord (quoted value) value
quoted_word value h = record { spelled = quoted_spells value; clean = quoted_clean value h }

pub plain_word : (text : List ℕ) → 0 < length text → AllIn Plain text → AllIn NotZero text → IsCleanWord text text
plain_word text l p h = record {
  spelled = record {
    pieces = plain text ∷ [];
    whole = sym (append-nil text);
    is = record { some = omega arith; each = ((l, p), tt) };
    value_is = sym (append-nil text);
  };
  clean = h;
}

-- bytes that are plain, and no zero byte
name_byte_bare : (byte : ℕ) → is_in PackageName byte ≡ true → (is_in Plain byte ≡ true) × (is_in NotZero byte ≡ true)
name_byte_bare byte h = (grind (arith, nat_tests), grind (arith, nat_tests))

graphic_byte_bare : (byte : ℕ) → is_in Printable byte ≡ true → is_special byte ≡ false → (is_in Plain byte ≡ true) × (is_in NotZero byte ≡ true)
graphic_byte_bare byte h s = (grind (arith, nat_tests), grind (arith, nat_tests))

name_is_bare : (name : List ℕ) → AllIn PackageName name → AllIn Plain name × AllIn NotZero name
name_is_bare [] h = (tt, tt)
name_is_bare (byte ∷ name) h =
    let one = name_byte_bare byte h.0 in
    let more = name_is_bare name h.1 in
    ((one.0, more.0), (one.1, more.1))

pub package_name_word : (name : List ℕ) → IsNameOf PackageName name → IsCleanWord name name
package_name_word name n = let b = name_is_bare name n.1 in plain_word name n.0 b.0 b.1

wider : (byte : ℕ) → is_in Name byte ≡ true → is_in PackageName byte ≡ true
wider byte h = grind (arith, nat_tests)

all_wider : (name : List ℕ) → AllIn Name name → AllIn PackageName name
all_wider [] h = tt
all_wider (byte ∷ name) h = (wider byte h.0, all_wider name h.1)

pub name_word : (name : List ℕ) → IsNameOf Name name → IsCleanWord name name
name_word name n = package_name_word name (n.0, all_wider name n.1)

neither : (a b : Bool) → (a || b) ≡ false → (a ≡ false) × (b ≡ false)
neither true b h = absurd (let f : true ≡ false = h in cc)
neither false b h = (refl, h)

kind_is_bare : (kind : List ℕ) → AllIn Printable kind → list_any is_special kind ≡ false → AllIn Plain kind × AllIn NotZero kind
kind_is_bare [] h s = (tt, tt)
kind_is_bare (byte ∷ kind) h s =
    let apart = neither (is_special byte) (list_any is_special kind) s in
    let one = graphic_byte_bare byte h.0 apart.0 in
    let more = kind_is_bare kind h.1 apart.1 in
    ((one.0, more.0), (one.1, more.1))

graphic_not_zero : (byte : ℕ) → is_in Printable byte ≡ true → is_in NotZero byte ≡ true
graphic_not_zero byte h = grind (arith, nat_tests)

kind_is_clean : (kind : List ℕ) → AllIn Printable kind → AllIn NotZero kind
kind_is_clean [] h = tt
kind_is_clean (byte ∷ kind) h = (graphic_not_zero byte h.0, kind_is_clean kind h.1)

kind_case : (b : Bool) (kind : List ℕ) → list_any is_special kind ≡ b → IsNameOf Printable kind → IsCleanWord (cond {A = List ℕ} b (quoted kind) kind) kind
kind_case true kind e n = quoted_word kind (kind_is_clean kind n.1)
kind_case false kind e n = let b = kind_is_bare kind n.1 e in plain_word kind n.0 b.0 b.1

pub kind_word : (kind : List ℕ) → IsNameOf Printable kind → IsCleanWord (kind_text kind) kind
kind_word kind n = kind_case (list_any is_special kind) kind refl n

-- words, each with a space before it
pub record AreArguments (text : List ℕ) (values : List (List ℕ)) : Type 0 where
  pub others : List Spaced
  pub whole : text ≡ flat_map spaced_text others
  pub is : AllByRecursion IsSpaced others
  pub values_are : values ≡ map (λ word. word_value word.pieces) others
  pub clean : AllIn NotZero text

pub no_argument : AreArguments [] []
no_argument = record { others = []; whole = refl; is = tt; values_are = refl; clean = tt }

pub argument : (word value text : List ℕ) (values : List (List ℕ)) → IsCleanWord word value → AreArguments text values → AreArguments (32 ∷ word ++ text) (value ∷ values)
argument word value text values w a = record {
  others = record { spaces = 32 ∷ []; pieces = w.spelled.pieces } ∷ a.others;
  whole = ap (λ (z : List ℕ). 32 ∷ z ++ text) w.spelled.whole ∙ ap (λ (z : List ℕ). 32 ∷ word_text w.spelled.pieces ++ z) a.whole;
  is = (record { apart = omega arith; spaces = (refl, tt); is = w.spelled.is }, a.is);
  values_are = ap (λ (z : List ℕ). z ∷ values) w.spelled.value_is ∙ ap (λ (z : List (List ℕ)). word_value w.spelled.pieces ∷ z) a.values_are;
  clean = (refl, all_in-append NotZero word text w.clean a.clean);
}

-- The text, whose first line has this number, is white space and commands, and of the draft they make one with these sections,
-- of which so many were added.
pub record ReadsOn (number : ℕ) (text : List ℕ) (draft : Draft) (sections : List Section) (made : ℕ) : Type 0 where
  pub gap : List ℕ
  pub behind : List ℕ
  pub lines : List Line
  pub commands : List Cmd
  pub whole : text ≡ gap ++ behind
  pub blank : AllIn Blank gap
  pub next : IsAtEndOr (λ byte. not (ends_word byte)) behind
  pub spelled : SpellsLines (number + newlines gap) behind lines
  pub each : AllZip IsCmdOf lines commands
  pub clean : AllIn NotZero text
  pub last : Draft
  pub folded : after_all draft commands ≡ Ok last
  pub sections_are : last.sections ≡ sections
  pub made_is : last.made ≡ made

pub reads_end : (number : ℕ) (draft : Draft) → ReadsOn number (10 ∷ []) draft draft.sections draft.made
reads_end number draft = record {
  gap = 10 ∷ [];
  behind = [];
  lines = [];
  commands = [];
  whole = refl;
  blank = (refl, tt);
  next = tt;
  spelled = refl;
  each = tt;
  clean = (refl, tt);
  last = draft;
  folded = refl;
  sections_are = refl;
  made_is = refl;
}

-- white space in front
pub reads_blank : (byte : ℕ) (text : List ℕ) (draft : Draft) (sections : List Section) (made : ℕ) → is_in Blank byte ≡ true → is_in NotZero byte ≡ true → ((number : ℕ) → ReadsOn number text draft sections made) → (number : ℕ)
    → ReadsOn number (byte ∷ text) draft sections made
reads_blank byte text draft sections made b c r number =
    let s = r (number + newlines (byte ∷ [])) in
    let P : ℕ → Type 0 = λ z. SpellsLines z s.behind s.lines in
    let e : (number + newlines (byte ∷ [])) + newlines s.gap ≡ number + newlines (byte ∷ s.gap) = omega (arith, newlines-append (byte ∷ []) s.gap) in
    record {
      gap = byte ∷ s.gap;
      behind = s.behind;
      lines = s.lines;
      commands = s.commands;
      whole = ap (λ (z : List ℕ). byte ∷ z) s.whole;
      blank = (b, s.blank);
      next = s.next;
      spelled = subst P e s.spelled;
      each = s.each;
      clean = (c, s.clean);
      last = s.last;
      folded = s.folded;
      sections_are = s.sections_are;
      made_is = s.made_is;
    }

command_extent : (keyword arguments gap : List ℕ) (k : IsCleanWord keyword keyword) (values : List (List ℕ)) (a : AreArguments arguments values) → keyword ++ arguments ++ 10 ∷ gap ≡ word_text k.spelled.pieces
    ++ flat_map spaced_text a.others ++ [] ++ 10 ∷ gap
command_extent keyword arguments gap k values a =
    ap (λ (z : List ℕ). z ++ arguments ++ 10 ∷ gap) k.spelled.whole
    ∙ ap (λ (z : List ℕ). word_text k.spelled.pieces ++ z ++ 10 ∷ gap) a.whole
    ∙ ap (λ (z : List ℕ). z ++ 10 ∷ gap) (sym (append-nil (word_text k.spelled.pieces ++ flat_map spaced_text a.others)))

line_whole : (keyword arguments gap behind rest : List ℕ) → rest ≡ gap ++ behind → keyword ++ arguments ++ 10 ∷ rest ≡ (keyword ++ arguments ++ 10 ∷ gap) ++ behind
line_whole keyword arguments gap behind rest e =
    ap (λ (z : List ℕ). keyword ++ arguments ++ 10 ∷ z) e
    ∙ sym (append_assoc (keyword ++ arguments) (10 ∷ gap) behind)

line_gap : (keyword arguments gap : List ℕ) → keyword ++ arguments ++ 10 ∷ gap ≡ (keyword ++ arguments ++ 10 ∷ []) ++ gap
line_gap keyword arguments gap = line_whole keyword arguments [] gap gap refl

-- a command and a newline in front
pub reads_line : (keyword arguments rest : List ℕ) (values : List (List ℕ)) (cmd : ℕ → Cmd) (draft next : Draft) (sections : List Section) (made : ℕ) → IsCleanWord keyword keyword → AreArguments arguments values
    → IsAtEndOr (λ byte. not (ends_word byte)) (keyword ++ arguments ++ 10 ∷ rest) → ((line : ℕ) → IsCmdOf (record { line = line; words = keyword ∷ values }) (cmd line)) → ((line : ℕ) → after draft (cmd line) ≡ Ok next)
    → ((number : ℕ) → ReadsOn number rest next sections made) → (number : ℕ) → ReadsOn number (keyword ++ arguments ++ 10 ∷ rest) draft sections made
reads_line keyword arguments rest values cmd draft next sections made k a begins is does r number =
    let at = number + newlines [] in
    let s = r (at + newlines (keyword ++ arguments ++ 10 ∷ [])) in
    let P : ℕ → Type 0 = λ z. SpellsLines z s.behind s.lines in
    let e : (at + newlines (keyword ++ arguments ++ 10 ∷ [])) + newlines s.gap ≡ at + newlines (keyword ++ arguments ++ 10 ∷ s.gap) =
    omega (arith, ap newlines (line_gap keyword arguments s.gap), newlines-append (keyword ++ arguments ++ 10 ∷ []) s.gap) in
    let spelled : SpellsCommand (keyword ++ arguments ++ 10 ∷ s.gap) s.behind (keyword ∷ values) = record {
      command = record { first = k.spelled.pieces; others = a.others; last = [] };
      gap = 10 ∷ s.gap;
      whole = command_extent keyword arguments s.gap k values a;
      is = record { first = k.spelled.is; others = a.is; last = tt };
      end = refl;
      gap_is = record { fillers = blank (10 ∷ s.gap) ∷ []; whole = sym (append-nil (10 ∷ s.gap)); each = ((refl, s.blank), tt); next = s.next };
      words_are = ap (λ (z : List ℕ). z ∷ values) k.spelled.value_is ∙ ap (λ (z : List (List ℕ)). word_value k.spelled.pieces ∷ z) a.values_are;
    } in
    record {
      gap = [];
      behind = keyword ++ arguments ++ 10 ∷ rest;
      lines = record { line = at; words = keyword ∷ values } ∷ s.lines;
      commands = cmd at ∷ s.commands;
      whole = refl;
      blank = tt;
      next = begins;
      spelled = record {
        extent = keyword ++ arguments ++ 10 ∷ s.gap;
        behind = s.behind;
        whole = line_whole keyword arguments s.gap s.behind rest s.whole;
        spelled = spelled;
        place = refl;
        rest = subst P e s.spelled;
      };
      each = (is at, s.each);
      clean = all_in-append NotZero (keyword ++ arguments) (10 ∷ rest) (all_in-append NotZero keyword arguments k.clean a.clean) (refl, s.clean);
      last = s.last;
      folded = ap (λ (z : Result Draft ℕ). goes_on z (λ next. after_all next s.commands)) (does at) ∙ s.folded;
      sections_are = s.sections_are;
      made_is = s.made_is;
    }
