-- Every text has a reading or a first fault.
use Rattle.std.proofs.Common.{ℕ, zero, suc, ◌≡◌, ◌≢◌, ◌<◌, ◌≤◌, ◌+◌, List, [], ◌∷◌, ◌++◌, length, Bool, true, false, not, arith, sym, refl, subst, ap, ◌∙◌, length-append, nat_eq, ◌⊎◌, inl, inr}
use Rattle.std.proofs.lemmas.List.{append-nil}
use Rattle.std.proofs.lemmas.Bool.Decides.{nat_tests}
use Rattle.uci_text.specs.declared.line.Line.{Line}
use Rattle.uci_text.specs.declared.stop.Stop.{Stop}
use Rattle.uci_text.specs.declared.stop.Stop.TheVariants.{Quote, Backslash}
use Rattle.uci_text.specs.declared.text_error.TextError.{TextError}
use Rattle.uci_text.specs.declared.text_error.TextError.TheVariants.{BadWord}
use Rattle.uci_text.specs.declared.byte_class.ByteClass.{ByteClass}
use Rattle.uci_text.specs.declared.byte_class.ByteClass.TheVariants.{Space, Blank, InLine, Plain, Quotable, DoubleQuotable, NotZero}
use Rattle.uci_text.specs.ByteClass.{is_in, AllIn, IsAtEndOr, SplitsBehind, newlines, ends_word, ends_command}
use Rattle.uci_text.specs.Piece.{kept, escaped_value}
use Rattle.uci_text.specs.Open.{last_backslash}
use Rattle.uci_text.specs.Text.{Spells}
use Rattle.uci_text.specs.FirstFault.{open_error, HasFault, no_end, IsFirstFault}
use Rattle.uci_text.specs.Found.{BeginsOutside, TakesPiece, IsOpenPiece, TakesWord, IsOpenWord, TakesCommand, HasNoEnd, TakesGap, ReadsExtent, RefusesExtent}
use Rattle.uci_text.proofs.PieceLemmas.{DoubleSoFar, double_none, double_more, double_pair, double_closes, double_open, double_open_pair, single_takes, single_open, escaped_takes, plain_takes}
use Rattle.uci_text.proofs.WordLemmas.{WordSoFar, WordThrough, word_none, word_more, word_done, word_open, piece_shortens, word_shortens}
use Rattle.uci_text.proofs.GapLemmas.{GapSoFar, gap_none, gap_blank, gap_comment, gap_done, gap_ends}
use Rattle.uci_text.proofs.CommandLemmas.{CommandSoFar, CommandNext, next_none, next_word, next_more, command_done, command_open}
use Rattle.uci_text.proofs.ExtentLemmas.{Between, between, reads, refuses, refuses_open, refuses_gap, zero_found}
use Rattle.uci_text.proofs.ReadLemmas.{ReadSoFar, read_none, read_more, read_all, read_refused, gap_refused, read_begins, extent_shortens}

-- the longest front of a class
record Split (class : ByteClass) (bytes : List ℕ) : Type 0 where
  front : List ℕ
  rest : List ℕ
  is : SplitsBehind class bytes front rest

split : (class : ByteClass) (bytes : List ℕ) → Split class bytes
split class [] = record { front = []; rest = []; is = record { whole = refl; within = tt; outside = tt } }
split class (b ∷ bytes) = go (is_in class b) refl (split class bytes)
  where
    go : (t : Bool) → is_in class b ≡ t → Split class bytes → Split class (b ∷ bytes)
    go true e s = record { front = b ∷ s.front; rest = s.rest; is = record { whole = ap (λ (z : List ℕ). b ∷ z) s.is.whole; within = (e, s.is.within); outside = s.is.outside } }
    go false e s = record { front = []; rest = b ∷ bytes; is = record { whole = refl; within = tt; outside = ap not e } }

split_shortens : (class : ByteClass) (bytes : List ℕ) (s : Split class bytes) → length s.rest ≤ length bytes
split_shortens class bytes s =
    let e : length bytes ≡ length s.front + length s.rest = ap length s.is.whole ∙ length-append s.front s.rest in
    omega arith

ends_or_begins : (test : ℕ → Bool) (bytes : List ℕ) → IsAtEndOr test bytes ⊎ BeginsOutside test bytes
ends_or_begins test [] = inl tt
ends_or_begins test (b ∷ bytes) = go (test b) refl
  where
    go : (t : Bool) → test b ≡ t → IsAtEndOr test (b ∷ bytes) ⊎ BeginsOutside test (b ∷ bytes)
    go true e = inl e
    go false e = inr e

is_byte : (b n : ℕ) → nat_eq b n ≡ true → b ≡ n
is_byte b n e = grind (arith, nat_tests)

is_not_byte : (b n : ℕ) → nat_eq b n ≡ false → b ≢ n
is_not_byte b n e i = absurd (let x : ⊥ = grind (arith, nat_tests) in x)

-- a piece stands in front, or an open one is all that is left
data PieceAt (bytes old : List ℕ) : Type 0 where
  piece_there : (new rest : List ℕ) → TakesPiece bytes old new rest → PieceAt bytes old
  piece_open : (stop : Stop) → IsOpenPiece bytes stop → PieceAt bytes old

is_kept : (b : ℕ) → nat_eq b 34 ≡ false → nat_eq b 92 ≡ false → is_in DoubleQuotable b ≡ true
is_kept b e f = grind (arith, nat_tests)

no_kept : (b : ℕ) → nat_eq b 92 ≡ true → not (is_in DoubleQuotable b) ≡ true
no_kept b f = grind (arith, nat_tests)

double_at : (fuel : ℕ) (inside rest old new : List ℕ) → length rest ≤ fuel → DoubleSoFar inside rest old new → PieceAt (34 ∷ inside) old
double_at fuel inside [] old new l r = piece_open (Quote (length inside + 1)) (double_open inside [] old new (length inside + 1) r refl refl)
double_at zero inside (b ∷ rest) old new l r = absurd (omega arith)
double_at (suc fuel) inside (b ∷ rest) old new l r = go (nat_eq b 34) (nat_eq b 92) refl refl rest l r (λ next grown m s. double_at fuel inside next old grown m s)
  where
    go : (x y : Bool) → nat_eq b 34 ≡ x → nat_eq b 92 ≡ y → (more : List ℕ) → length (b ∷ more) ≤ suc fuel → DoubleSoFar inside (b ∷ more) old new
        → ((next grown : List ℕ) → length next ≤ fuel → DoubleSoFar inside next old grown → PieceAt (34 ∷ inside) old) → PieceAt (34 ∷ inside) old
    go true y e f more k s rec = piece_there new more (double_closes inside (b ∷ more) more old new b s refl (is_byte b 34 e))
    go false true e f [] k s rec = piece_open (Quote (length inside + 1)) (double_open_pair inside (b ∷ []) [] old new (length inside + 1) b s (no_kept b f) refl (is_not_byte b 34 e) refl refl)
    go false true e f (c ∷ more) k s rec = rec more (new ++ escaped_value c) (omega arith) (double_pair inside (b ∷ c ∷ more) (c ∷ more) more old new (new ++ escaped_value c) b c s (no_kept b f) refl (is_not_byte b 34 e) refl refl)
    go false false e f more k s rec = rec more (new ++ b ∷ []) (omega arith) (double_more inside more old new (kept (b ∷ [])) s (is_kept b e f, tt))

single_at : (inside old : List ℕ) → PieceAt (39 ∷ inside) old
single_at inside old = go s.front s.rest s.is
  where
    s : Split Quotable inside
    s = split Quotable inside

    go : (front rest : List ℕ) → SplitsBehind Quotable inside front rest → PieceAt (39 ∷ inside) old
    go front [] i = piece_open (Quote (length inside + 1)) (single_open inside front [] (length inside + 1) i refl refl)
    go front (c ∷ rest) i = piece_there (old ++ front) rest (single_takes inside front (c ∷ rest) rest old (old ++ front) c i refl refl)

escaped_at : (inside old : List ℕ) → PieceAt (92 ∷ inside) old
escaped_at [] old = piece_open Backslash (record { open_piece = last_backslash; whole = refl; is = tt; stop_is = refl })
escaped_at (c ∷ inside) old = piece_there (old ++ escaped_value c) inside (escaped_takes (c ∷ inside) inside old (old ++ escaped_value c) c refl refl)

piece_at : (bytes old : List ℕ) → BeginsOutside ends_word bytes → PieceAt bytes old
piece_at [] old h = absurd h
piece_at (b ∷ inside) old h = go (nat_eq b 39) (nat_eq b 34) (nat_eq b 92) refl refl refl
  where
    P : ℕ → Type 0
    P z = PieceAt (z ∷ inside) old

    go : (x y z : Bool) → nat_eq b 39 ≡ x → nat_eq b 34 ≡ y → nat_eq b 92 ≡ z → PieceAt (b ∷ inside) old
    go true y z e f g = subst (λ (n : ℕ). PieceAt (n ∷ inside) old) (sym (is_byte b 39 e)) (single_at inside old)
    go false true z e f g = subst (λ (n : ℕ). PieceAt (n ∷ inside) old) (sym (is_byte b 34 f)) (double_at (length inside) inside inside old old (omega arith) (double_none inside old))
    go false false true e f g = subst (λ (n : ℕ). PieceAt (n ∷ inside) old) (sym (is_byte b 92 g)) (escaped_at inside old)
    go false false false e f g =
        let s : Split Plain (b ∷ inside) = split Plain (b ∷ inside) in
        piece_there (old ++ s.front) s.rest (plain_takes (b ∷ inside) s.front s.rest inside old (old ++ s.front) b s.is refl h (is_not_byte b 39 e) (is_not_byte b 34 f) (is_not_byte b 92 g) refl)

-- a word stands in front, or one that does not end
data WordAt (bytes : List ℕ) : Type 0 where
  word_there : (value rest : List ℕ) → TakesWord bytes value rest → WordAt bytes
  word_unended : (stop : Stop) → IsOpenWord bytes stop → WordAt bytes

word_at : (fuel : ℕ) (bytes rest value : List ℕ) → length rest ≤ fuel → BeginsOutside ends_word rest → WordSoFar bytes rest value → WordAt bytes
word_at zero bytes [] value l h r = absurd h
word_at zero bytes (b ∷ rest) value l h r = absurd (omega arith)
word_at (suc fuel) bytes rest value l h r = go (piece_at rest value h) (λ next grown m k s. word_at fuel bytes next grown m k s)
  where
    go : PieceAt rest value → ((next grown : List ℕ) → length next ≤ fuel → BeginsOutside ends_word next → WordSoFar bytes next grown → WordAt bytes) → WordAt bytes
    go (piece_open stop o) rec = word_unended stop (word_open bytes rest value stop r o)
    go (piece_there new next t) rec =
        let w : WordThrough bytes next new = word_more bytes rest next value new r t in
        let n : length next < length rest = piece_shortens rest value new next t in
        elim (ends_or_begins ends_word next) [ inl e ↦ word_there new next (word_done bytes next new new w e refl) | inr b ↦ rec next new (omega arith) b w.so_far ]

-- a gap stands in front
pub record GapAt (bytes : List ℕ) : Type 0 where
  pub behind : List ℕ
  pub is : TakesGap bytes behind

gap_at : (fuel : ℕ) (bytes rest : List ℕ) → length rest ≤ fuel → GapSoFar bytes rest → GapAt bytes
gap_at zero bytes [] l r = record { behind = []; is = gap_ends bytes [] r refl }
gap_at zero bytes (b ∷ rest) l r = absurd (omega arith)
gap_at (suc fuel) bytes rest l r =
    let s : Split Blank rest = split Blank rest in
    let m : length s.rest ≤ length rest = split_shortens Blank rest s in
    go s.rest (omega arith) (gap_blank bytes rest s.front s.rest r s.is) s.is.outside (λ next n k. gap_at fuel bytes next n k)
  where
    sign : (b : ℕ) (next : List ℕ) (t : Bool) → nat_eq b 35 ≡ t → length (b ∷ next) ≤ suc fuel → GapSoFar bytes (b ∷ next) → IsAtEndOr (λ byte. not (is_in Blank byte)) (b ∷ next)
        → ((more : List ℕ) → length more ≤ fuel → GapSoFar bytes more → GapAt bytes) → GapAt bytes
    sign b next false e m s o rec = record { behind = b ∷ next; is = gap_done bytes (b ∷ next) next b s o refl (is_not_byte b 35 e) }
    sign b next true e m s o rec =
        let p : Split InLine next = split InLine next in
        let n : length p.rest ≤ length next = split_shortens InLine next p in
        rec p.rest (omega arith) (gap_comment bytes (b ∷ next) p.front p.rest next b s refl (is_byte b 35 e) p.is)

    go : (next : List ℕ) → length next ≤ suc fuel → GapSoFar bytes next → IsAtEndOr (λ byte. not (is_in Blank byte)) next → ((more : List ℕ) → length more ≤ fuel → GapSoFar bytes more → GapAt bytes) → GapAt bytes
    go [] m s o rec = record { behind = []; is = gap_ends bytes [] s refl }
    go (b ∷ next) m s o rec = sign b next (nat_eq b 35) refl m s o rec

pub gap_in : (bytes : List ℕ) → GapAt bytes
gap_in bytes = gap_at (length bytes) bytes bytes (omega arith) (gap_none bytes)

-- a command stands in front, or one that does not end
data CommandAt (bytes : List ℕ) : Type 0 where
  command_there : (words : List (List ℕ)) (rest : List ℕ) → TakesCommand bytes words rest → CommandAt bytes
  command_unended : (stop : Stop) → HasNoEnd bytes stop → CommandAt bytes

command_at : (fuel : ℕ) (bytes rest : List ℕ) (words : List (List ℕ)) → length rest ≤ fuel → CommandNext bytes words rest → CommandAt bytes
command_at zero bytes [] words l n = absurd n.begins
command_at zero bytes (b ∷ rest) words l n = absurd (omega arith)
command_at (suc fuel) bytes rest words l n = go (word_at (length rest) rest rest [] (omega arith) n.begins (word_none rest)) (λ next more m k. command_at fuel bytes next more m k)
  where
    go : WordAt rest → ((next : List ℕ) (more : List (List ℕ)) → length next ≤ fuel → CommandNext bytes more next → CommandAt bytes) → CommandAt bytes
    go (word_unended stop o) rec = command_unended stop (command_open bytes rest words stop n o)
    go (word_there value behind t) rec =
        let c : CommandSoFar bytes (words ++ value ∷ []) behind = next_word bytes rest value behind words n t in
        let s : Split Space behind = split Space behind in
        let a : length behind < length rest = word_shortens rest value behind t in
        let b : length s.rest ≤ length behind = split_shortens Space behind s in
        elim (ends_or_begins ends_command s.rest) [
          | inl e ↦ command_there (words ++ value ∷ []) s.rest (command_done bytes behind s.front s.rest (words ++ value ∷ []) c s.is e)
          | inr k ↦ rec s.rest (words ++ value ∷ []) (omega arith) (next_more bytes behind s.front s.rest (words ++ value ∷ []) c t.end s.is k)
        ]

command_in : (bytes : List ℕ) → BeginsOutside ends_word bytes → CommandAt bytes
command_in bytes h = command_at (length bytes) bytes bytes [] (omega arith) (next_none bytes h)

pub length_test : (bytes : List ℕ) → 0 < length bytes → nat_eq (length bytes) 0 ≡ false
length_test bytes l = grind (arith, nat_tests)

-- the extent has no zero byte, or this fault
pub clean_or_fault : (number : ℕ) (extent : List ℕ) → AllIn NotZero extent ⊎ ((error : TextError) × HasFault number extent error)
clean_or_fault number extent = go s.rest s.is
  where
    s : Split NotZero extent
    s = split NotZero extent

    go : (rest : List ℕ) → SplitsBehind NotZero extent s.front rest → AllIn NotZero extent ⊎ ((error : TextError) × HasFault number extent error)
    go [] i =
        let P : List ℕ → Type 0 = λ z. AllIn NotZero z in
        inl (subst P (sym (i.whole ∙ append-nil s.front)) i.within)
    go (b ∷ rest) i = inr (BadWord (number + newlines s.front), zero_found number extent s.front (b ∷ rest) (BadWord (number + newlines s.front)) i (length_test (b ∷ rest) (omega arith)) refl)

-- the extent of a command without a fault stands in front, or one with a fault
pub data ExtentAt (number : ℕ) (bytes : List ℕ) : Type 0 where
  extent_there : (line : Line) (behind : List ℕ) (next : ℕ) → ReadsExtent number bytes line behind next → ExtentAt number bytes
  extent_refused : (error : TextError) → RefusesExtent number bytes error → ExtentAt number bytes

pub extent_in : (number : ℕ) (bytes : List ℕ) → BeginsOutside ends_word bytes → ExtentAt number bytes
extent_in number bytes h = go (command_in bytes h)
  where
    go : CommandAt bytes → ExtentAt number bytes
    go (command_unended stop o) = elim (clean_or_fault number bytes) [
      | inl c ↦ extent_refused (open_error o.open_piece (number + newlines o.before)) (refuses_open number bytes stop (open_error o.open_piece (number + newlines o.before)) o (no_end o.before o.open_piece c o.is refl))
      | inr f ↦ extent_refused f.0 (refuses_open number bytes stop f.0 o f.1)
    ]
    go (command_there words after t) =
        let g : GapAt after = gap_in after in
        let b : Between bytes words g.behind = between bytes after g.behind words t g.is in
        elim (clean_or_fault number b.extent) [
          | inl c ↦ extent_there (record { line = number; words = words }) g.behind (number + newlines b.extent) (reads number (number + newlines b.extent) bytes g.behind b.extent words b refl c refl)
          | inr f ↦ extent_refused f.0 (refuses number bytes g.behind b.extent words f.0 b refl f.1)
        ]

abbrev IsJudged : List ℕ → Type 0
IsJudged text = ((lines : List Line) × Spells text lines) ⊎ ((error : TextError) × IsFirstFault text error)

lines_at : (fuel : ℕ) (text rest : List ℕ) (number : ℕ) (lines : List Line) → length rest ≤ fuel → ReadSoFar text rest number lines → IsJudged text
lines_at fuel text [] number lines l r = inl (lines, read_all text [] number lines r refl)
lines_at zero text (b ∷ rest) number lines l r = absurd (omega arith)
lines_at (suc fuel) text (b ∷ rest) number lines l r = go (extent_in number (b ∷ rest) (read_begins text (b ∷ rest) number lines r (length_test (b ∷ rest) (omega arith)))) (λ next n more m k. lines_at fuel text next n more m k)
  where
    go : ExtentAt number (b ∷ rest) → ((next : List ℕ) (n : ℕ) (more : List Line) → length next ≤ fuel → ReadSoFar text next n more → IsJudged text) → IsJudged text
    go (extent_refused error f) rec = inr (error, read_refused text (b ∷ rest) number lines error r f)
    go (extent_there line behind next e) rec =
        let s : length behind < length (b ∷ rest) = extent_shortens number next (b ∷ rest) behind line e in
        rec behind next (lines ++ line ∷ []) (omega arith) (read_more text (b ∷ rest) behind number next lines line r e)

pub reading_or_fault : (text : List ℕ) → ((lines : List Line) × Spells text lines) ⊎ ((error : TextError) × IsFirstFault text error)
reading_or_fault text = elim (clean_or_fault 1 g.is.gap) [
  | inl c ↦ lines_at (length g.behind) text g.behind (newlines g.is.gap + 1) [] (omega arith)
      (read_none text g.behind (newlines g.is.gap + 1) [] (record { gap = g.is.gap; whole = g.is.whole; is = g.is.is; clean = c; number_is = refl }) refl)
  | inr f ↦ inr (f.0, gap_refused text f.0 (refuses_gap text g.behind g.is.gap f.0 g.is refl f.1))
]
  where
    g : GapAt text
    g = gap_in text
