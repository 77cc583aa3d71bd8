-- The commands of a text, one after another.
use Rattle.std.proofs.Common.{ℕ, ◌≡◌, List, [], ◌∷◌, ◌++◌, sym, refl, subst, ap, ◌∙◌, append_assoc}
use Rattle.std.specs.List.{AllByRecursion, AllZip, concat}
use Rattle.uci_text.specs.declared.line.Line.{Line}
use Rattle.uci_text.specs.declared.cmd.Cmd.{Cmd}
use Rattle.uci_text.specs.declared.text_error.TextError.{TextError}
use Rattle.uci_text.specs.declared.byte_class.ByteClass.TheVariants.{NotZero}
use Rattle.uci_text.specs.ByteClass.{AllIn}
use Rattle.uci_text.specs.Gap.{IsGap}
use Rattle.uci_text.specs.Command.{SpellsCommand}
use Rattle.uci_text.specs.Open.{IsExtent, ended}
use Rattle.uci_text.specs.FirstFault.{IsFreeOf}
use Rattle.uci_text.specs.Table.{IsCmd, HasWordsFault}
use Rattle.uci_text.specs.Commands.{IsCmdOf, SpellsCommands, HasCommandFault, of_bytes, of_words, IsFirstCommandFault}
use Rattle.uci_text.specs.Found.{ReadsExtent, RefusesExtent, ReadsGap, RefusesGap}
use Rattle.uci_text.proofs.RunLemmas.{in_gap, read, run}
use Rattle.uci_text.proofs.ClassLemmas.{each-append}
use Rattle.uci_text.proofs.FaultLemmas.{command_read, gap_read, command-alone, command_faultless, gap_faultless, reading_is_one}
use Rattle.uci_text.proofs.ReadLemmas.{ReadSoFar, read_start, read_more, read_all, moved, extents-push}
use Rattle.uci_text.proofs.TableLemmas.{one_cmd, cmd_no_fault}

-- an extent is that of a command of one list of words, and no gap is one
one_reading : (extent : List ℕ) (lines others : List Line) → run 0 in_gap extent ≡ read lines → run 0 in_gap extent ≡ read others → others ≡ lines
one_reading extent lines others a b =
    let e : read others ≡ read lines = sym b ∙ a in
    cc

abbrev first_words : List Line → List (List ℕ)
first_words [] = []
first_words (line ∷ lines) = line.words

pub one_words : (extent a b : List ℕ) (words others : List (List ℕ)) → SpellsCommand extent a words → SpellsCommand extent b others → others ≡ words
one_words extent a b words others s t =
    ap first_words (one_reading extent _ _ (command_read extent a words s) (command_read extent b others t))

pub gap_no_command : (gap a b : List ℕ) (words : List (List ℕ)) → IsGap gap a → SpellsCommand gap b words → ⊥
gap_no_command gap a b words g s =
    let e = one_reading gap _ _ (gap_read gap a g) (command_read gap b words s) in
    cc

-- the extent of a good command has no fault, and the gap in front has none
pub command_free : (extent behind : List ℕ) (line : ℕ) (words : List (List ℕ)) (cmd : Cmd) → SpellsCommand extent behind words → AllIn NotZero extent → IsCmd line words cmd → IsFreeOf HasCommandFault extent
command_free extent behind line words cmd s c i number error (of_bytes h) = command_faultless extent behind words s c number error h
command_free extent behind line words cmd s c i number error (of_words others t d h) =
    let P : List (List ℕ) → Type 0 = λ z. HasWordsFault number z error in
    cmd_no_fault line number words cmd error i (subst P (one_words extent behind [] words others s t) h)

pub gap_free : (gap behind : List ℕ) → IsGap gap behind → AllIn NotZero gap → IsFreeOf HasCommandFault gap
gap_free gap behind g c number error (of_bytes h) = gap_faultless gap behind g c number error h
gap_free gap behind g c number error (of_words words s d h) = gap_no_command gap behind [] words g s

-- the commands so far, none of which has a fault
pub record CommandsSoFar (text rest : List ℕ) (number : ℕ) (commands : List Cmd) : Type 0 where
  pub lines : List Line
  pub so_far : ReadSoFar text rest number lines
  pub each : AllZip IsCmdOf lines commands
  pub gap_free : IsFreeOf HasCommandFault so_far.gap
  pub free : AllByRecursion (λ extent. IsFreeOf HasCommandFault extent) so_far.extents

pub commands_none : (text behind : List ℕ) (number : ℕ) (commands : List Cmd) → ReadsGap text behind number → commands ≡ [] → CommandsSoFar text behind number commands
unfolding read_start
commands_none text behind number commands g e =
    let P : List Cmd → Type 0 = λ z. CommandsSoFar text behind number z in
    subst P (sym e) (record { lines = []; so_far = read_start text behind number g; each = tt; gap_free = gap_free g.gap behind g.is g.clean; free = tt })

each-push : (lines : List Line) (commands : List Cmd) (line : Line) (cmd : Cmd) → AllZip IsCmdOf lines commands → IsCmdOf line cmd → AllZip IsCmdOf (lines ++ line ∷ []) (commands ++ cmd ∷ [])
each-push [] [] line cmd h i = (i, tt)
each-push [] (c ∷ commands) line cmd h i = absurd h
each-push (l ∷ lines) [] line cmd h i = absurd h
each-push (l ∷ lines) (c ∷ commands) line cmd h i = (h.0, each-push lines commands line cmd h.1 i)

pub commands_more : (text rest behind : List ℕ) (number next : ℕ) (commands : List Cmd) (line : Line) (cmd : Cmd) → CommandsSoFar text rest number commands → ReadsExtent number rest line behind next → IsCmdOf line cmd
    → CommandsSoFar text behind next (commands ++ cmd ∷ [])
unfolding read_more
commands_more text rest behind number next commands line cmd r e i = record {
  lines = r.lines ++ line ∷ [];
  so_far = read_more text rest behind number next r.lines line r.so_far e;
  each = each-push r.lines commands line cmd r.each i;
  gap_free = r.gap_free;
  free = each-append (λ (extent : List ℕ). IsFreeOf HasCommandFault extent) r.so_far.extents (e.extent ∷ []) r.free (command_free e.extent behind line.line line.words cmd e.spelled e.clean i, tt);
}

pub commands_all : (text rest : List ℕ) (number : ℕ) (commands : List Cmd) → CommandsSoFar text rest number commands → rest ≡ [] → SpellsCommands text commands
commands_all text rest number commands r e = record { lines = r.lines; spelled = read_all text rest number r.lines r.so_far e; each = r.each }

refused_at : (text rest bad behind : List ℕ) (number : ℕ) (commands : List Cmd) (error : TextError) → CommandsSoFar text rest number commands → rest ≡ bad ++ behind → IsExtent bad behind → HasCommandFault number bad error
    → IsFirstCommandFault text error
refused_at text rest bad behind number commands error c w i f =
    let r = c.so_far in
    let P : ℕ → Type 0 = λ n. HasCommandFault n bad error in
    let Q : List ℕ → Type 0 = λ z. IsGap r.gap z in
    record {
      good = r.gap ∷ r.extents;
      bad = bad;
      behind = behind;
      whole = r.whole ∙ ap (λ (z : List ℕ). (r.gap ++ concat r.extents) ++ z) w ∙ sym (append_assoc (r.gap ++ concat r.extents) bad behind);
      extents = (subst Q (moved r.extents bad behind rest w) r.gap_is, extents-push r.extents bad behind rest w r.extents_are i);
      free = (c.gap_free, c.free);
      fault = subst P r.number_is f;
    }

-- a fault of bytes, and one of words
pub bytes_refused : (text rest : List ℕ) (number : ℕ) (commands : List Cmd) (error : TextError) → CommandsSoFar text rest number commands → RefusesExtent number rest error → IsFirstCommandFault text error
bytes_refused text rest number commands error r f = refused_at text rest f.extent f.behind number commands error r f.whole f.is (of_bytes f.fault)

pub words_refused : (text rest behind : List ℕ) (number next : ℕ) (commands : List Cmd) (line : Line) (error : TextError) → CommandsSoFar text rest number commands → ReadsExtent number rest line behind next
    → HasWordsFault line.line line.words error → IsFirstCommandFault text error
words_refused text rest behind number next commands line error r e h =
    let P : ℕ → Type 0 = λ n. HasWordsFault n line.words error in
    refused_at text rest e.extent behind number commands error r e.whole (ended line.words e.spelled) (of_words line.words (command-alone e.extent behind line.words e.spelled) e.clean (subst P e.place h))

pub gap_bytes_refused : (text : List ℕ) (error : TextError) → RefusesGap text error → IsFirstCommandFault text error
gap_bytes_refused text error f = record { good = []; bad = f.gap; behind = f.behind; whole = f.whole; extents = (f.is, tt); free = tt; fault = of_bytes f.fault }

each_one : (lines : List Line) (commands others : List Cmd) → AllZip IsCmdOf lines commands → AllZip IsCmdOf lines others → others ≡ commands
each_one [] [] [] a b = refl
each_one [] [] (o ∷ others) a b = absurd b
each_one [] (c ∷ commands) others a b = absurd a
each_one (l ∷ lines) [] others a b = absurd a
each_one (l ∷ lines) (c ∷ commands) [] a b = absurd b
each_one (l ∷ lines) (c ∷ commands) (o ∷ others) a b =
    let e : o ≡ c = one_cmd l.line l.words c o a.0 b.0 in
    let r : others ≡ commands = each_one lines commands others a.1 b.1 in
    cc

pub commands_are_one : (text : List ℕ) (commands others : List Cmd) → SpellsCommands text commands → SpellsCommands text others → others ≡ commands
commands_are_one text commands others s t =
    let P : List Line → Type 0 = λ z. AllZip IsCmdOf z others in
    each_one s.lines commands others s.each (subst P (reading_is_one text s.lines t.lines s.spelled t.spelled) t.each)
