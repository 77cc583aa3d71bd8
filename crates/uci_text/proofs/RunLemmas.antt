-- One machine runs over every text, byte by byte. What a reading is of, it reads; what has a fault, it refuses: so a
-- text has one reading or one fault.
use Rattle.std.proofs.Common.{ℕ, ◌≡◌, ◌<◌, ◌+◌, ◌-◌, List, [], ◌∷◌, ◌++◌, length, map, Bool, true, false, not, cond, Option, Some, None, arith, sym, refl, subst, ap, ◌∙◌, append_assoc, nat_eq, ◌⊎◌, inl, inr}
use Rattle.std.specs.Prelude.{if◌then◌else◌}
use Rattle.std.specs.List.{AllByRecursion, flat_map}
use Rattle.std.proofs.lemmas.List.{append-nil}
use Rattle.std.proofs.lemmas.List.Sums.{sum_by-append}
use Rattle.std.proofs.lemmas.Bool.Decides.{nat_tests}
use Rattle.uci_text.specs.declared.line.Line.{Line}
use Rattle.uci_text.specs.declared.text_error.TextError.{TextError}
use Rattle.uci_text.specs.declared.text_error.TextError.TheVariants.{BadWord, OpenQuote}
use Rattle.uci_text.specs.declared.byte_class.ByteClass.TheVariants.{Space, Blank, InLine, Plain, Quotable, DoubleQuotable}
use Rattle.uci_text.specs.ByteClass.{is_in, AllIn, IsAtEndOr, newlines, is_space, is_separator, ends_command, ends_word}
use Rattle.uci_text.specs.Piece.{Inner, kept, pair, inner_text, inner_value, IsInner, Piece, plain, escaped, single, double, piece_text, piece_value, IsPiece, escaped_value}
use Rattle.uci_text.specs.Word.{Spaced, IsWord, IsSpaced, word_text, word_value, spaced_text}
use Rattle.uci_text.specs.Gap.{Filler, blank, comment, gap_text, AreFillers, IsGap}
use Rattle.uci_text.specs.Command.{Command, SpellsCommand}
use Rattle.uci_text.specs.Open.{Open, open_single, open_double, open_pair, last_backslash, open_text, IsOpen}
use Rattle.uci_text.specs.Text.{SpellsLines, Spells}
use Rattle.uci_text.specs.FirstFault.{open_error}
use Rattle.uci_text.specs.Found.{BeginsOutside}

-- where the machine is: between commands; in a command with this line, these words, and perhaps a word begun; in a
-- word's backslash or quotes, which opened on this line
pub data Mode : Type 0 where
  in_gap : Mode
  in_comment : Mode
  in_command : ℕ → List (List ℕ) → Option (List ℕ) → Mode
  in_escape : ℕ → List (List ℕ) → List ℕ → ℕ → Mode
  in_single : ℕ → List (List ℕ) → List ℕ → ℕ → Mode
  in_double : ℕ → List (List ℕ) → List ℕ → ℕ → Mode
  in_pair : ℕ → List (List ℕ) → List ℕ → ℕ → Mode

pub data Outcome : Type 0 where
  read : List Line → Outcome
  fault : TextError → Outcome

abbrev pub begun : Option (List ℕ) → List ℕ
begun None = []
begun (Some value) = value

abbrev pub finished : List (List ℕ) → Option (List ℕ) → List (List ℕ)
finished words None = words
finished words (Some value) = words ++ value ∷ []

abbrev pub line_of : ℕ → List (List ℕ) → Line
line_of number words = record { line = number; words = words }

abbrev pub add : Line → Outcome → Outcome
add line (read lines) = read (line ∷ lines)
add line (fault error) = fault error

abbrev pub word_mode : ℕ → List (List ℕ) → List ℕ → ℕ → ℕ → Mode
word_mode l ws v p b = if nat_eq b 39 then in_single l ws v p else if nat_eq b 34 then in_double l ws v p else if nat_eq b 92 then in_escape l ws v p else in_command l ws (Some (v ++ b ∷ []))

-- behind a byte on this line
abbrev pub next : Mode → ℕ → ℕ → Mode
next in_gap p b = if is_in Blank b then in_gap else if nat_eq b 35 then in_comment else word_mode p [] [] p b
next in_comment p b = if nat_eq b 10 then in_gap else in_comment
next (in_command l ws o) p b = if is_separator b then in_gap else if nat_eq b 35 then in_comment else if is_space b then in_command l (finished ws o) None else word_mode l ws (begun o) p b
next (in_escape l ws v q) p b = in_command l ws (Some (v ++ escaped_value b))
next (in_single l ws v q) p b = if nat_eq b 39 then in_command l ws (Some v) else in_single l ws (v ++ b ∷ []) q
next (in_double l ws v q) p b = if nat_eq b 34 then in_command l ws (Some v) else if nat_eq b 92 then in_pair l ws v q else in_double l ws (v ++ b ∷ []) q
next (in_pair l ws v q) p b = in_double l ws (v ++ escaped_value b) q

abbrev pub ended : Mode → Outcome
ended in_gap = read []
ended in_comment = read []
ended (in_command l ws o) = read (line_of l (finished ws o) ∷ [])
ended (in_escape l ws v q) = fault (BadWord q)
ended (in_single l ws v q) = fault (OpenQuote q)
ended (in_double l ws v q) = fault (OpenQuote q)
ended (in_pair l ws v q) = fault (OpenQuote q)

abbrev pub told : Mode → ℕ → Outcome → Outcome
told in_gap b r = r
told in_comment b r = r
told (in_command l ws o) b r = if ends_command b then add (line_of l (finished ws o)) r else r
told (in_escape l ws v q) b r = r
told (in_single l ws v q) b r = r
told (in_double l ws v q) b r = r
told (in_pair l ws v q) b r = r

-- what comes of the bytes, whose last line has the number top
abbrev pub run : ℕ → Mode → List ℕ → Outcome
run top m [] = ended m
run top m (b ∷ bytes) = told m b (run top (next m (top - newlines (b ∷ bytes)) b) bytes)

if_true : {A : Type 0} (t : Bool) (x y : A) → t ≡ true → (if t then x else y) ≡ x
if_true true x y h = refl
if_true false x y h = absurd (let n : false ≡ true = h in cc)

if_false : {A : Type 0} (t : Bool) (x y : A) → t ≡ false → (if t then x else y) ≡ y
if_false false x y h = refl
if_false true x y h = absurd (let n : true ≡ false = h in cc)

not_true : (t : Bool) → not t ≡ true → t ≡ false
not_true false h = refl
not_true true h = absurd (let n : false ≡ true = h in cc)

-- the bytes of a run
single_runs : (top l q : ℕ) (ws : List (List ℕ)) (v bytes rest : List ℕ) → AllIn Quotable bytes → run top (in_single l ws v q) (bytes ++ rest) ≡ run top (in_single l ws (v ++ bytes) q) rest
single_runs top l q ws v [] rest p = ap (λ (z : List ℕ). run top (in_single l ws z q) rest) (sym (append-nil v))
single_runs top l q ws v (b ∷ bytes) rest p =
    ap (λ (m : Mode). run top m (bytes ++ rest)) (if_false (nat_eq b 39) (in_command l ws (Some v)) (in_single l ws (v ++ b ∷ []) q) (not_true (nat_eq b 39) p.0))
    ∙ single_runs top l q ws (v ++ b ∷ []) bytes rest p.1
    ∙ ap (λ (z : List ℕ). run top (in_single l ws z q) rest) (append_assoc v (b ∷ []) bytes)

no_double : (b : ℕ) → is_in DoubleQuotable b ≡ true → nat_eq b 34 ≡ false
no_double b h = grind (arith, nat_tests)

no_backslash : (b : ℕ) → is_in DoubleQuotable b ≡ true → nat_eq b 92 ≡ false
no_backslash b h = grind (arith, nat_tests)

kept_runs : (top l q : ℕ) (ws : List (List ℕ)) (v bytes rest : List ℕ) → AllIn DoubleQuotable bytes → run top (in_double l ws v q) (bytes ++ rest) ≡ run top (in_double l ws (v ++ bytes) q) rest
kept_runs top l q ws v [] rest p = ap (λ (z : List ℕ). run top (in_double l ws z q) rest) (sym (append-nil v))
kept_runs top l q ws v (b ∷ bytes) rest p =
    ap (λ (m : Mode). run top m (bytes ++ rest)) (if_false (nat_eq b 34) (in_command l ws (Some v)) (if nat_eq b 92 then in_pair l ws v q else in_double l ws (v ++ b ∷ []) q) (no_double b p.0)
    ∙ if_false (nat_eq b 92) (in_pair l ws v q) (in_double l ws (v ++ b ∷ []) q) (no_backslash b p.0))
    ∙ kept_runs top l q ws (v ++ b ∷ []) bytes rest p.1
    ∙ ap (λ (z : List ℕ). run top (in_double l ws z q) rest) (append_assoc v (b ∷ []) bytes)

inner_runs : (top l q : ℕ) (ws : List (List ℕ)) (v : List ℕ) (inner : List Inner) (rest : List ℕ) → AllByRecursion IsInner inner → run top (in_double l ws v q) (flat_map inner_text inner ++ rest)
    ≡ run top (in_double l ws (v ++ flat_map inner_value inner) q) rest
inner_runs top l q ws v [] rest p = ap (λ (z : List ℕ). run top (in_double l ws z q) rest) (sym (append-nil v))
inner_runs top l q ws v (kept bytes ∷ inner) rest p =
    ap (λ (z : List ℕ). run top (in_double l ws v q) z) (append_assoc bytes (flat_map inner_text inner) rest)
    ∙ kept_runs top l q ws v bytes (flat_map inner_text inner ++ rest) p.0
    ∙ inner_runs top l q ws (v ++ bytes) inner rest p.1
    ∙ ap (λ (z : List ℕ). run top (in_double l ws z q) rest) (append_assoc v bytes (flat_map inner_value inner))
inner_runs top l q ws v (pair b ∷ inner) rest p =
    inner_runs top l q ws (v ++ escaped_value b) inner rest p.1
    ∙ ap (λ (z : List ℕ). run top (in_double l ws z q) rest) (append_assoc v (escaped_value b) (flat_map inner_value inner))

plain_mode : (l p : ℕ) (ws : List (List ℕ)) (v : List ℕ) (b : ℕ) → is_in Plain b ≡ true → word_mode l ws v p b ≡ in_command l ws (Some (v ++ b ∷ []))
plain_mode l p ws v b h =
    let x : nat_eq b 39 ≡ false = grind (arith, nat_tests) in
    let y : nat_eq b 34 ≡ false = grind (arith, nat_tests) in
    let z : nat_eq b 92 ≡ false = grind (arith, nat_tests) in
    if_false (nat_eq b 39) (in_single l ws v p) (if nat_eq b 34 then in_double l ws v p else if nat_eq b 92 then in_escape l ws v p else in_command l ws (Some (v ++ b ∷ []))) x
    ∙ if_false (nat_eq b 34) (in_double l ws v p) (if nat_eq b 92 then in_escape l ws v p else in_command l ws (Some (v ++ b ∷ []))) y
    ∙ if_false (nat_eq b 92) (in_escape l ws v p) (in_command l ws (Some (v ++ b ∷ []))) z

-- a byte that ends no word goes on with the word, or begins one
word_step : (top l : ℕ) (ws : List (List ℕ)) (o : Option (List ℕ)) (b : ℕ) (rest : List ℕ) → ends_word b ≡ false → run top (in_command l ws o) (b ∷ rest) ≡ run top (word_mode l ws (begun o) (top - newlines (b ∷ rest)) b) rest
word_step top l ws o b rest h =
    let e : ends_command b ≡ false = grind (arith, nat_tests) in
    let s : is_separator b ≡ false = grind (arith, nat_tests) in
    let n : nat_eq b 35 ≡ false = grind (arith, nat_tests) in
    let w : is_space b ≡ false = grind (arith, nat_tests) in
    let p : ℕ = top - newlines (b ∷ rest) in
    if_false (ends_command b) (add (line_of l (finished ws o)) (run top (next (in_command l ws o) p b) rest)) (run top (next (in_command l ws o) p b) rest) e
    ∙ ap (λ (m : Mode). run top m rest) (
    if_false (is_separator b) in_gap (if nat_eq b 35 then in_comment else if is_space b then in_command l (finished ws o) None else word_mode l ws (begun o) p b) s
    ∙ if_false (nat_eq b 35) in_comment (if is_space b then in_command l (finished ws o) None else word_mode l ws (begun o) p b) n
    ∙ if_false (is_space b) (in_command l (finished ws o) None) (word_mode l ws (begun o) p b) w)

gap_step : (top b : ℕ) (rest : List ℕ) → ends_word b ≡ false → run top in_gap (b ∷ rest) ≡ run top (word_mode (top - newlines (b ∷ rest)) [] [] (top - newlines (b ∷ rest)) b) rest
gap_step top b rest h =
    let s : is_in Blank b ≡ false = grind (arith, nat_tests) in
    let n : nat_eq b 35 ≡ false = grind (arith, nat_tests) in
    let p : ℕ = top - newlines (b ∷ rest) in
    ap (λ (m : Mode). run top m rest) (
    if_false (is_in Blank b) in_gap (if nat_eq b 35 then in_comment else word_mode p [] [] p b) s
    ∙ if_false (nat_eq b 35) in_comment (word_mode p [] [] p b) n)

-- a command begins at a byte that ends no word
pub command_begins : (top : ℕ) (text : List ℕ) → BeginsOutside ends_word text → run top in_gap text ≡ run top (in_command (top - newlines text) [] None) text
command_begins top [] h = absurd h
command_begins top (b ∷ rest) h = gap_step top b rest h ∙ sym (word_step top (top - newlines (b ∷ rest)) [] None b rest h)

plain_no_word_end : (b : ℕ) → is_in Plain b ≡ true → ends_word b ≡ false
plain_no_word_end b h = grind (arith, nat_tests)

plain_step : (top l : ℕ) (ws : List (List ℕ)) (o : Option (List ℕ)) (b : ℕ) (rest : List ℕ) → is_in Plain b ≡ true → run top (in_command l ws o) (b ∷ rest) ≡ run top (in_command l ws (Some (begun o ++ b ∷ []))) rest
plain_step top l ws o b rest h = word_step top l ws o b rest (plain_no_word_end b h) ∙ ap (λ (m : Mode). run top m rest) (plain_mode l (top - newlines (b ∷ rest)) ws (begun o) b h)

plain_runs : (top l : ℕ) (ws : List (List ℕ)) (v bytes rest : List ℕ) → AllIn Plain bytes → run top (in_command l ws (Some v)) (bytes ++ rest) ≡ run top (in_command l ws (Some (v ++ bytes))) rest
plain_runs top l ws v [] rest p = ap (λ (z : List ℕ). run top (in_command l ws (Some z)) rest) (sym (append-nil v))
plain_runs top l ws v (b ∷ bytes) rest p =
    plain_step top l ws (Some v) b (bytes ++ rest) p.0
    ∙ plain_runs top l ws (v ++ b ∷ []) bytes rest p.1
    ∙ ap (λ (z : List ℕ). run top (in_command l ws (Some z)) rest) (append_assoc v (b ∷ []) bytes)

pub piece_runs : (top l : ℕ) (ws : List (List ℕ)) (o : Option (List ℕ)) (piece : Piece) (rest : List ℕ) → IsPiece piece → run top (in_command l ws o) (piece_text piece ++ rest)
    ≡ run top (in_command l ws (Some (begun o ++ piece_value piece))) rest
piece_runs top l ws o (plain []) rest p =
    let n : 0 < length {A = ℕ} [] = p.0 in
    absurd (omega arith)
piece_runs top l ws o (plain (b ∷ bytes)) rest p =
    plain_step top l ws o b (bytes ++ rest) p.1.0
    ∙ plain_runs top l ws (begun o ++ b ∷ []) bytes rest p.1.1
    ∙ ap (λ (z : List ℕ). run top (in_command l ws (Some z)) rest) (append_assoc (begun o) (b ∷ []) bytes)
piece_runs top l ws o (escaped b) rest p = refl
piece_runs top l ws o (single bytes) rest p =
    ap (λ (z : List ℕ). run top (in_command l ws o) (39 ∷ z)) (append_assoc bytes (39 ∷ []) rest)
    ∙ single_runs top l (top - newlines (39 ∷ bytes ++ 39 ∷ rest)) ws (begun o) bytes (39 ∷ rest) p
piece_runs top l ws o (double inner) rest p =
    ap (λ (z : List ℕ). run top (in_command l ws o) (34 ∷ z)) (append_assoc (flat_map inner_text inner) (34 ∷ []) rest)
    ∙ inner_runs top l (top - newlines (34 ∷ flat_map inner_text inner ++ 34 ∷ rest)) ws (begun o) inner (34 ∷ rest) p

pieces_run : (top l : ℕ) (ws : List (List ℕ)) (v : List ℕ) (pieces : List Piece) (rest : List ℕ) → AllByRecursion IsPiece pieces → run top (in_command l ws (Some v)) (word_text pieces ++ rest)
    ≡ run top (in_command l ws (Some (v ++ word_value pieces))) rest
pieces_run top l ws v [] rest p = ap (λ (z : List ℕ). run top (in_command l ws (Some z)) rest) (sym (append-nil v))
pieces_run top l ws v (piece ∷ pieces) rest p =
    ap (λ (z : List ℕ). run top (in_command l ws (Some v)) z) (append_assoc (piece_text piece) (word_text pieces) rest)
    ∙ piece_runs top l ws (Some v) piece (word_text pieces ++ rest) p.0
    ∙ pieces_run top l ws (v ++ piece_value piece) pieces rest p.1
    ∙ ap (λ (z : List ℕ). run top (in_command l ws (Some z)) rest) (append_assoc v (piece_value piece) (word_value pieces))

-- a word, where none is begun
word_runs : (top l : ℕ) (ws : List (List ℕ)) (pieces : List Piece) (rest : List ℕ) → IsWord pieces → run top (in_command l ws None) (word_text pieces ++ rest) ≡ run top (in_command l ws (Some (word_value pieces))) rest
word_runs top l ws [] rest w =
    let n : 0 < length {A = Piece} [] = w.some in
    absurd (omega arith)
word_runs top l ws (piece ∷ pieces) rest w =
    ap (λ (z : List ℕ). run top (in_command l ws None) z) (append_assoc (piece_text piece) (word_text pieces) rest)
    ∙ piece_runs top l ws None piece (word_text pieces ++ rest) w.each.0
    ∙ pieces_run top l ws (piece_value piece) pieces rest w.each.1

-- white space
pub space_step : (top l : ℕ) (ws : List (List ℕ)) (o : Option (List ℕ)) (b : ℕ) (rest : List ℕ) → is_space b ≡ true → run top (in_command l ws o) (b ∷ rest) ≡ run top (in_command l (finished ws o) None) rest
space_step top l ws o b rest h =
    let e : ends_command b ≡ false = grind (arith, nat_tests) in
    let s : is_separator b ≡ false = grind (arith, nat_tests) in
    let n : nat_eq b 35 ≡ false = grind (arith, nat_tests) in
    let p : ℕ = top - newlines (b ∷ rest) in
    if_false (ends_command b) (add (line_of l (finished ws o)) (run top (next (in_command l ws o) p b) rest)) (run top (next (in_command l ws o) p b) rest) e
    ∙ ap (λ (m : Mode). run top m rest) (
    if_false (is_separator b) in_gap (if nat_eq b 35 then in_comment else if is_space b then in_command l (finished ws o) None else word_mode l ws (begun o) p b) s
    ∙ if_false (nat_eq b 35) in_comment (if is_space b then in_command l (finished ws o) None else word_mode l ws (begun o) p b) n
    ∙ if_true (is_space b) (in_command l (finished ws o) None) (word_mode l ws (begun o) p b) h)

spaces_run : (top l : ℕ) (ws : List (List ℕ)) (spaces rest : List ℕ) → AllIn Space spaces → run top (in_command l ws None) (spaces ++ rest) ≡ run top (in_command l ws None) rest
spaces_run top l ws [] rest p = refl
spaces_run top l ws (b ∷ spaces) rest p = space_step top l ws None b (spaces ++ rest) p.0 ∙ spaces_run top l ws spaces rest p.1

spaces_end_word : (top l : ℕ) (ws : List (List ℕ)) (v spaces rest : List ℕ) → 0 < length spaces → AllIn Space spaces → run top (in_command l ws (Some v)) (spaces ++ rest) ≡ run top (in_command l (ws ++ v ∷ []) None) rest
spaces_end_word top l ws v [] rest n p = absurd (omega arith)
spaces_end_word top l ws v (b ∷ spaces) rest n p = space_step top l ws (Some v) b (spaces ++ rest) p.0 ∙ spaces_run top l (ws ++ v ∷ []) spaces rest p.1

-- the machine is in a word, behind which these words are finished
record InWord (top l : ℕ) (ws : List (List ℕ)) (v : List ℕ) (others : List Spaced) (rest : List ℕ) : Type 0 where
  words : List (List ℕ)
  value : List ℕ
  same : run top (in_command l ws (Some v)) (flat_map spaced_text others ++ rest) ≡ run top (in_command l words (Some value)) rest
  finish : words ++ value ∷ [] ≡ ws ++ v ∷ map (λ (word : Spaced). word_value word.pieces) others

others_run : (top l : ℕ) (ws : List (List ℕ)) (v : List ℕ) (others : List Spaced) (rest : List ℕ) → AllByRecursion IsSpaced others → InWord top l ws v others rest
others_run top l ws v [] rest p = record { words = ws; value = v; same = refl; finish = refl }
others_run top l ws v (w ∷ others) rest p =
    let more : List ℕ = flat_map spaced_text others ++ rest in
    let r : InWord top l (ws ++ v ∷ []) (word_value w.pieces) others rest = others_run top l (ws ++ v ∷ []) (word_value w.pieces) others rest p.1 in
    let cut : ((w.spaces ++ word_text w.pieces) ++ flat_map spaced_text others) ++ rest ≡ w.spaces ++ (word_text w.pieces ++ more) = append_assoc (w.spaces ++ word_text w.pieces) (flat_map spaced_text others) rest
    ∙ append_assoc w.spaces (word_text w.pieces) more in
    record {
      words = r.words;
      value = r.value;
      same =
          ap (λ (z : List ℕ). run top (in_command l ws (Some v)) z) cut
          ∙ spaces_end_word top l ws v w.spaces (word_text w.pieces ++ more) p.0.apart p.0.spaces
          ∙ word_runs top l (ws ++ v ∷ []) w.pieces more p.0.is
          ∙ r.same;
      finish = r.finish ∙ append_assoc ws (v ∷ []) (word_value w.pieces ∷ map (λ (word : Spaced). word_value word.pieces) others);
    }

-- what ends a command is a newline, `;` or `#`
ends_cases : (b : ℕ) → ends_command b ≡ true → (b ≡ 10) ⊎ ((b ≡ 59) ⊎ (b ≡ 35))
ends_cases b h = go (nat_eq b 10) (nat_eq b 59) refl refl
  where
    go : (x y : Bool) → nat_eq b 10 ≡ x → nat_eq b 59 ≡ y → (b ≡ 10) ⊎ ((b ≡ 59) ⊎ (b ≡ 35))
    go true y e f = inl (let i : b ≡ 10 = grind (arith, nat_tests) in i)
    go false true e f = inr (inl (let i : b ≡ 59 = grind (arith, nat_tests) in i))
    go false false e f = inr (inr (let i : b ≡ 35 = grind (arith, nat_tests) in i))

command_ends : (top l : ℕ) (ws : List (List ℕ)) (o : Option (List ℕ)) (rest : List ℕ) → IsAtEndOr ends_command rest → run top (in_command l ws o) rest ≡ add (line_of l (finished ws o)) (run top in_gap rest)
command_ends top l ws o [] h = refl
command_ends top l ws o (b ∷ rest) h =
    let P : ℕ → Type 0 = λ z. run top (in_command l ws o) (z ∷ rest) ≡ add (line_of l (finished ws o)) (run top in_gap (z ∷ rest)) in
    elim (ends_cases b h) [ inl e ↦ subst P (sym e) refl | inr f ↦ elim f [ inl e ↦ subst P (sym e) refl | inr e ↦ subst P (sym e) refl ] ]

last_runs : (top l : ℕ) (ws : List (List ℕ)) (v last rest : List ℕ) → AllIn Space last → IsAtEndOr ends_command rest → run top (in_command l ws (Some v)) (last ++ rest) ≡ add (line_of l (ws ++ v ∷ [])) (run top in_gap rest)
last_runs top l ws v [] rest p e = command_ends top l ws (Some v) rest e
last_runs top l ws v (b ∷ last) rest p e = spaces_end_word top l ws v (b ∷ last) rest (omega arith) p ∙ command_ends top l (ws ++ v ∷ []) None rest e

-- gaps
pub blank_runs : (top : ℕ) (bytes rest : List ℕ) → AllIn Blank bytes → run top in_gap (bytes ++ rest) ≡ run top in_gap rest
blank_runs top [] rest p = refl
blank_runs top (b ∷ bytes) rest p =
    ap (λ (m : Mode). run top m (bytes ++ rest)) (if_true (is_in Blank b) in_gap (if nat_eq b 35 then in_comment else word_mode (top - newlines (b ∷ bytes ++ rest)) [] [] (top - newlines (b ∷ bytes ++ rest)) b) p.0)
    ∙ blank_runs top bytes rest p.1

comment_runs : (top : ℕ) (bytes rest : List ℕ) → AllIn InLine bytes → run top in_comment (bytes ++ rest) ≡ run top in_comment rest
comment_runs top [] rest p = refl
comment_runs top (b ∷ bytes) rest p =
    ap (λ (m : Mode). run top m (bytes ++ rest)) (if_false (nat_eq b 10) in_gap in_comment (not_true (nat_eq b 10) p.0))
    ∙ comment_runs top bytes rest p.1

comment_ends : (top : ℕ) (rest : List ℕ) → IsAtEndOr (λ byte. nat_eq byte 10) rest → run top in_comment rest ≡ run top in_gap rest
comment_ends top [] h = refl
comment_ends top (b ∷ rest) h =
    let P : ℕ → Type 0 = λ z. run top in_comment (z ∷ rest) ≡ run top in_gap (z ∷ rest) in
    let e : b ≡ 10 = grind (arith, nat_tests) in
    subst P (sym e) refl

fillers_run : (top : ℕ) (fillers : List Filler) (rest : List ℕ) → AreFillers fillers rest → run top in_gap (gap_text fillers ++ rest) ≡ run top in_gap rest
fillers_run top [] rest h = refl
fillers_run top (blank bytes ∷ fillers) rest h =
    ap (λ (z : List ℕ). run top in_gap z) (append_assoc bytes (gap_text fillers) rest)
    ∙ blank_runs top bytes (gap_text fillers ++ rest) h.0
    ∙ fillers_run top fillers rest h.1
fillers_run top (comment bytes ∷ fillers) rest h =
    ap (λ (z : List ℕ). run top in_comment z) (append_assoc bytes (gap_text fillers) rest)
    ∙ comment_runs top bytes (gap_text fillers ++ rest) h.0
    ∙ comment_ends top (gap_text fillers ++ rest) h.1
    ∙ fillers_run top fillers rest h.2

pub gap_runs : (top : ℕ) (gap rest : List ℕ) → IsGap gap rest → run top in_gap (gap ++ rest) ≡ run top in_gap rest
gap_runs top gap rest g = ap (λ (z : List ℕ). run top in_gap (z ++ rest)) g.whole ∙ fillers_run top g.fillers rest g.each

-- a piece, a word and a command begin with a byte that ends no word
pub piece_begins : (piece : Piece) (rest : List ℕ) → IsPiece piece → BeginsOutside ends_word (piece_text piece ++ rest)
piece_begins (plain []) rest p =
    let n : 0 < length {A = ℕ} [] = p.0 in
    absurd (omega arith)
piece_begins (plain (b ∷ bytes)) rest p = plain_no_word_end b p.1.0
piece_begins (escaped b) rest p = refl
piece_begins (single bytes) rest p = refl
piece_begins (double inner) rest p = refl

word_begins : (pieces : List Piece) (rest : List ℕ) → IsWord pieces → BeginsOutside ends_word (word_text pieces ++ rest)
word_begins [] rest w =
    let n : 0 < length {A = Piece} [] = w.some in
    absurd (omega arith)
word_begins (piece ∷ pieces) rest w =
    let P : List ℕ → Type 0 = λ z. BeginsOutside ends_word z in
    subst P (sym (append_assoc (piece_text piece) (word_text pieces) rest)) (piece_begins piece (word_text pieces ++ rest) w.each.0)

pub command_runs : (top : ℕ) (extent behind : List ℕ) (words : List (List ℕ)) → SpellsCommand extent behind words → run top in_gap (extent ++ behind) ≡ add (line_of (top - newlines (extent ++ behind)) words) (run top in_gap behind)
command_runs top extent behind words s =
    let c : Command = s.command in
    let tail : List ℕ = s.gap ++ behind in
    let after : List ℕ = flat_map spaced_text c.others ++ (c.last ++ tail) in
    let cut : extent ++ behind ≡ word_text c.first ++ after = ap (λ (z : List ℕ). z ++ behind) s.whole ∙ simp append_assoc in
    let P : List ℕ → Type 0 = λ z. BeginsOutside ends_word z in
    let l : ℕ = top - newlines (extent ++ behind) in
    let r : InWord top l [] (word_value c.first) c.others (c.last ++ tail) = others_run top l [] (word_value c.first) c.others (c.last ++ tail) s.is.others in
    let ws : r.words ++ r.value ∷ [] ≡ words = r.finish ∙ sym s.words_are in
    command_begins top (extent ++ behind) (subst P (sym cut) (word_begins c.first after s.is.first))
    ∙ ap (λ (z : List ℕ). run top (in_command l [] None) z) cut
    ∙ word_runs top l [] c.first after s.is.first
    ∙ r.same
    ∙ last_runs top l r.words r.value c.last tail s.is.last s.end
    ∙ ap (λ (z : List (List ℕ)). add (line_of l z) (run top in_gap tail)) ws
    ∙ ap (λ (z : Outcome). add (line_of l words) z) (gap_runs top s.gap behind s.gap_is)

pub newlines-append : (a b : List ℕ) → newlines (a ++ b) ≡ newlines a + newlines b
newlines-append a b = sum_by-append (λ (byte : ℕ). cond (nat_eq byte 10) 1 0) a b

lines_run : (lines : List Line) (top number : ℕ) (text : List ℕ) → SpellsLines number text lines → top ≡ number + newlines text → run top in_gap text ≡ read lines
lines_run [] top number text s t = ap (λ (z : List ℕ). run top in_gap z) s
lines_run (line ∷ lines) top number text s t =
    let n : newlines text ≡ newlines s.extent + newlines s.behind = ap newlines s.whole ∙ newlines-append s.extent s.behind in
    let w : newlines (s.extent ++ s.behind) ≡ newlines text = ap newlines (sym s.whole) in
    let here : top - newlines (s.extent ++ s.behind) ≡ line.line = (let e : top - newlines (s.extent ++ s.behind) ≡ number = omega arith in e ∙ sym s.place) in
    let rest : run top in_gap s.behind ≡ read lines = lines_run lines top (number + newlines s.extent) s.behind s.rest (omega arith) in
    ap (λ (z : List ℕ). run top in_gap z) s.whole
    ∙ command_runs top s.extent s.behind line.words s.spelled
    ∙ ap (λ (z : ℕ). add (line_of z line.words) (run top in_gap s.behind)) here
    ∙ ap (λ (z : Outcome). add line z) rest

pub reading_runs : (text : List ℕ) (lines : List Line) → Spells text lines → run (newlines text + 1) in_gap text ≡ read lines
reading_runs text lines s =
    let n : newlines text ≡ newlines s.gap + newlines s.behind = ap newlines s.whole ∙ newlines-append s.gap s.behind in
    ap (λ (z : List ℕ). run (newlines text + 1) in_gap z) s.whole
    ∙ gap_runs (newlines text + 1) s.gap s.behind s.front
    ∙ lines_run lines (newlines text + 1) (newlines s.gap + 1) s.behind s.commands (omega arith)

pub open_runs : (top l : ℕ) (ws : List (List ℕ)) (b : Option (List ℕ)) (o : Open) → IsOpen o → run top (in_command l ws b) (open_text o) ≡ fault (open_error o (top - newlines (open_text o)))
open_runs top l ws b (open_single bytes) p =
    ap (λ (z : List ℕ). run top (in_single l ws (begun b) (top - newlines (39 ∷ bytes))) z) (sym (append-nil bytes))
    ∙ single_runs top l (top - newlines (39 ∷ bytes)) ws (begun b) bytes [] p
open_runs top l ws b (open_double inner) p =
    ap (λ (z : List ℕ). run top (in_double l ws (begun b) (top - newlines (34 ∷ flat_map inner_text inner))) z) (sym (append-nil (flat_map inner_text inner)))
    ∙ inner_runs top l (top - newlines (34 ∷ flat_map inner_text inner)) ws (begun b) inner [] p
open_runs top l ws b (open_pair inner) p = inner_runs top l (top - newlines (34 ∷ flat_map inner_text inner ++ 92 ∷ [])) ws (begun b) inner (92 ∷ []) p
open_runs top l ws b last_backslash p = refl
