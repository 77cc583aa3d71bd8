-- The words of a text without a zero byte have none, so its commands are of their form.
use Rattle.std.proofs.Common.{ℕ, zero, suc, ◌+◌, Bool, true, false, cond, nat_eq, List, [], ◌∷◌, ◌++◌, get_or, map, Some, None, sym, subst, arith}
use Rattle.std.specs.List.{AllByRecursion, AllZip, flat_map}
use Rattle.uci_text.specs.declared.byte_class.ByteClass.TheVariants.{Name, Printable, NotZero}
use Rattle.uci_text.specs.declared.keyword.Keyword.{Keyword}
use Rattle.uci_text.specs.declared.keyword.Keyword.TheVariants as keyword
use Rattle.uci_text.specs.declared.line.Line.{Line}
use Rattle.uci_text.specs.declared.cmd.Cmd.{Cmd}
use Rattle.uci_text.specs.declared.cmd.Cmd.TheVariants.{Package as PackageCmd, Config, Item, ListItem}
use Rattle.uci_text.specs.ByteClass.{AllIn, newlines}
use Rattle.uci_text.specs.Piece.{Inner, kept, pair, inner_text, inner_value, Piece, plain, escaped, single, double, piece_text, piece_value}
use Rattle.uci_text.specs.Word.{Spaced, word_text, word_value, spaced_text}
use Rattle.uci_text.specs.Command.{Command, command_text, command_words, SpellsCommand}
use Rattle.uci_text.specs.Text.{SpellsLines}
use Rattle.uci_text.specs.Table.{IsNameOf, AreNamed, section_name, cmd_of, word_at}
use Rattle.uci_text.specs.Commands.{IsCmdOf, SpellsCommands}
use Rattle.uci_text.proofs.ClassLemmas.{all_in-append, all_in-left, all_in-right}

abbrev IsClean : List ℕ → Type 0
IsClean bytes = AllIn NotZero bytes

left : (a b : List ℕ) → IsClean (a ++ b) → IsClean a
left a b h = all_in-left NotZero a b h

right : (a b : List ℕ) → IsClean (a ++ b) → IsClean b
right a b h = all_in-right NotZero a b h

both : (a b : List ℕ) → IsClean a → IsClean b → IsClean (a ++ b)
both a b h g = all_in-append NotZero a b h g

kept_or_not : (b : Bool) (byte : ℕ) → IsClean (byte ∷ []) → IsClean (cond {A = List ℕ} b [] (byte ∷ []))
kept_or_not true byte h = tt
kept_or_not false byte h = h

clean_inner : (inner : List Inner) → IsClean (flat_map inner_text inner) → IsClean (flat_map inner_value inner)
clean_inner [] h = tt
clean_inner (kept bytes ∷ inner) h = both bytes (flat_map inner_value inner) (left bytes (flat_map inner_text inner) h) (clean_inner inner (right bytes (flat_map inner_text inner) h))
clean_inner (pair byte ∷ inner) h = both (inner_value (pair byte)) (flat_map inner_value inner) (kept_or_not (nat_eq byte 10) byte (h.1.0, tt)) (clean_inner inner h.1.1)

clean_piece : (piece : Piece) → IsClean (piece_text piece) → IsClean (piece_value piece)
clean_piece (plain run) h = h
clean_piece (escaped byte) h = kept_or_not (nat_eq byte 10) byte h.1
clean_piece (single bytes) h = left bytes (39 ∷ []) h.1
clean_piece (double inner) h = clean_inner inner (left (flat_map inner_text inner) (34 ∷ []) h.1)

clean_word : (pieces : List Piece) → IsClean (word_text pieces) → IsClean (word_value pieces)
clean_word [] h = tt
clean_word (piece ∷ pieces) h = both (piece_value piece) (word_value pieces) (clean_piece piece (left (piece_text piece) (word_text pieces) h)) (clean_word pieces (right (piece_text piece) (word_text pieces) h))

abbrev AreClean : List (List ℕ) → Type 0
AreClean words = AllByRecursion (λ word. AllIn NotZero word) words

clean_others : (others : List Spaced) → IsClean (flat_map spaced_text others) → AreClean (map (λ word. word_value word.pieces) others)
clean_others [] h = tt
clean_others (word ∷ others) h =
    (clean_word word.pieces (right word.spaces (word_text word.pieces) (left (spaced_text word) (flat_map spaced_text others) h)), clean_others others (right (spaced_text word) (flat_map spaced_text others) h))

clean_command : (command : Command) → IsClean (command_text command) → AreClean (command_words command)
clean_command command h =
    let words = left (word_text command.first ++ flat_map spaced_text command.others) command.last h in
    (clean_word command.first (left (word_text command.first) (flat_map spaced_text command.others) words), clean_others command.others (right (word_text command.first) (flat_map spaced_text command.others) words))

clean_extent : (extent behind : List ℕ) (words : List (List ℕ)) → SpellsCommand extent behind words → IsClean extent → AreClean words
clean_extent extent behind words s h =
    let P : List (List ℕ) → Type 0 = λ z. AreClean z in
    subst P (sym s.words_are) (clean_command s.command (left (command_text s.command) s.gap (subst IsClean s.whole h)))

clean_lines : (number : ℕ) (text : List ℕ) (lines : List Line) → SpellsLines number text lines → IsClean text → AllByRecursion (λ line. AreClean line.words) lines
clean_lines number text [] s h = tt
clean_lines number text (line ∷ lines) s h =
    let whole = subst IsClean s.whole h in
    (clean_extent s.extent s.behind line.words s.spelled (left s.extent s.behind whole), clean_lines (number + newlines s.extent) s.behind lines s.rest (right s.extent s.behind whole))

clean_at : (words : List (List ℕ)) (place : ℕ) → AreClean words → IsClean (get_or words place [])
clean_at [] place h = tt
clean_at (word ∷ words) zero h = h.0
clean_at (word ∷ words) (suc place) h = clean_at words place h.1

-- the parts of a command are of their form
abbrev pub IsGood : Cmd → Type 0
IsGood (PackageCmd line name) = Unit {0}
IsGood (Config line kind None) = IsNameOf Printable kind
IsGood (Config line kind (Some name)) = IsNameOf Printable kind × IsNameOf Name name
IsGood (Item line name value) = IsNameOf Name name × AllIn NotZero value
IsGood (ListItem line name value) = IsNameOf Name name × AllIn NotZero value

good_config : (line : ℕ) (kind name : List ℕ) → IsNameOf Printable kind → AllIn Name name → IsGood (Config line kind (section_name name))
good_config line kind [] k n = k
good_config line kind (byte ∷ name) k n = (k, (omega arith, n))

good_of : (word : Keyword) (line : ℕ) (a b : List ℕ) → AreNamed word a b → IsClean b → IsGood (cmd_of word line a b)
good_of keyword.Package line a b n h = tt
good_of keyword.Config line a b n h = good_config line a b n.0 n.1
good_of keyword.Item line a b n h = (n, h)
good_of keyword.ListItem line a b n h = (n, h)

good_cmd : (line : Line) (cmd : Cmd) → AreClean line.words → IsCmdOf line cmd → IsGood cmd
good_cmd line cmd h c =
    let P : Cmd → Type 0 = λ z. IsGood z in
    subst P (sym c.cmd_is) (good_of c.keyword line.line (word_at line.words 1) (word_at line.words 2) c.is.named (clean_at line.words 2 h))

good_cmds : (lines : List Line) (commands : List Cmd) → AllByRecursion (λ line. AreClean line.words) lines → AllZip IsCmdOf lines commands → AllByRecursion IsGood commands
good_cmds [] [] h z = tt
good_cmds [] (cmd ∷ commands) h z = absurd z
good_cmds (line ∷ lines) [] h z = absurd z
good_cmds (line ∷ lines) (cmd ∷ commands) h z = (good_cmd line cmd h.0 z.0, good_cmds lines commands h.1 z.1)

pub good_commands : (text : List ℕ) (commands : List Cmd) → SpellsCommands text commands → AllByRecursion IsGood commands
good_commands text commands s =
    let r = s.spelled in
    let clean = right r.gap r.behind (subst IsClean r.whole r.clean) in
    good_cmds s.lines commands (clean_lines (newlines r.gap + 1) r.behind s.lines r.commands clean) s.each
