-- A text is split into the extents of its commands in one way.
use Rattle.std.proofs.Common.{ℕ, ◌≡◌, ◌<◌, ◌+◌, ◌-◌, List, [], ◌∷◌, ◌++◌, length, Bool, true, false, not, Some, None, arith, sym, refl, subst, ap, ◌∙◌, append_assoc, length-append, nat_eq}
use Rattle.std.specs.Prelude.{if◌then◌else◌, ◌||◌}
use Rattle.std.specs.List.{flat_map}
use Rattle.std.proofs.lemmas.List.{append-nil}
use Rattle.std.proofs.lemmas.List.Concat.{flat_map-append}
use Rattle.uci_text.specs.declared.line.Line.{Line}
use Rattle.uci_text.specs.ByteClass.{IsAtEndOr, newlines, is_space, is_separator, ends_command, ends_word}
use Rattle.uci_text.specs.Piece.{pair, inner_text, IsInner, Piece, escaped, single, double, piece_text, IsPiece, escaped_value}
use Rattle.uci_text.specs.Word.{word_text, spaced_text}
use Rattle.uci_text.specs.Gap.{Filler, blank, comment, gap_text, AreFillers, IsGap}
use Rattle.uci_text.specs.Command.{SpellsCommand}
use Rattle.uci_text.specs.Open.{Open, open_single, open_double, open_pair, last_backslash, open_text, IsOpen, IsOpenCommand, IsExtent, ended, unended}
use Rattle.uci_text.specs.Found.{BeginsOutside}
use Rattle.uci_text.proofs.ClassLemmas.{each-append}
use Rattle.uci_text.proofs.WordLemmas.{word_length}
use Rattle.uci_text.proofs.RunLemmas.{Mode, in_gap, in_comment, in_command, in_escape, in_single, in_double, in_pair, Outcome, read, fault, run, add, ended as outcome, line_of, next, begun, finished, word_mode, gap_runs, command_begins}
use Rattle.uci_text.proofs.RunLemmas.{command_runs}
use Rattle.uci_text.proofs.FaultLemmas.{IsOutside, Comes, piece_from, loose_from, command_read, gap_read, bad_length}

-- within a command, the machine reads one or refuses
abbrev IsInside : Mode → Type 0
IsInside in_gap = ⊥
IsInside in_comment = ⊥
IsInside (in_command l ws o) = Unit {0}
IsInside (in_escape l ws v q) = Unit {0}
IsInside (in_single l ws v q) = Unit {0}
IsInside (in_double l ws v q) = Unit {0}
IsInside (in_pair l ws v q) = Unit {0}

add_some : (line : Line) (r : Outcome) → add line r ≡ read [] → ⊥
add_some line (read lines) e = cc
add_some line (fault error) e = cc

told_some : (t : Bool) (line : Line) (r : Outcome) → (t ≡ false → r ≡ read [] → ⊥) → (if t then add line r else r) ≡ read [] → ⊥
told_some true line r h e = add_some line r e
told_some false line r h e = h refl e

either_inside : (t : Bool) (m n : Mode) → IsInside m → IsInside n → IsInside (if t then m else n)
either_inside true m n i j = i
either_inside false m n i j = j

next_inside : (x y z : Bool) (m n : Mode) → (x || y) ≡ false → IsInside m → IsInside n → IsInside (if x then in_gap else if y then in_comment else if z then m else n)
next_inside true y z m n h i j = absurd (let e : true ≡ false = h in cc)
next_inside false true z m n h i j = absurd (let e : true ≡ false = h in cc)
next_inside false false z m n h i j = either_inside z m n i j

word_inside : (l : ℕ) (ws : List (List ℕ)) (v : List ℕ) (p b : ℕ) → IsInside (word_mode l ws v p b)
word_inside l ws v p b = either_inside (nat_eq b 39) _ _ tt (either_inside (nat_eq b 34) _ _ tt (either_inside (nat_eq b 92) _ _ tt tt))

inside_some : (top : ℕ) (bytes : List ℕ) (m : Mode) → IsInside m → run top m bytes ≡ read [] → ⊥
inside_some top bytes in_gap i e = i
inside_some top bytes in_comment i e = i
inside_some top [] (in_command l ws o) i e = let x : read (line_of l (finished ws o) ∷ []) ≡ read [] = e in cc
inside_some top [] (in_escape l ws v q) i e = cc
inside_some top [] (in_single l ws v q) i e = cc
inside_some top [] (in_double l ws v q) i e = cc
inside_some top [] (in_pair l ws v q) i e = cc
inside_some top (b ∷ bytes) (in_command l ws o) i e =
    let p : ℕ = top - newlines (b ∷ bytes) in
    told_some (ends_command b) (line_of l (finished ws o)) (run top (next (in_command l ws o) p b) bytes)
    (λ f. inside_some top bytes (next (in_command l ws o) p b) (next_inside (is_separator b) (nat_eq b 35) (is_space b) (in_command l (finished ws o) None) (word_mode l ws (begun o) p b) f tt (word_inside l ws (begun o) p b)))
    e
inside_some top (b ∷ bytes) (in_escape l ws v q) i e = inside_some top bytes (in_command l ws (Some (v ++ escaped_value b))) tt e
inside_some top (b ∷ bytes) (in_single l ws v q) i e = inside_some top bytes (next (in_single l ws v q) (top - newlines (b ∷ bytes)) b) (either_inside (nat_eq b 39) _ _ tt tt) e
inside_some top (b ∷ bytes) (in_double l ws v q) i e = inside_some top bytes (next (in_double l ws v q) (top - newlines (b ∷ bytes)) b) (either_inside (nat_eq b 34) _ _ tt (either_inside (nat_eq b 92) _ _ tt tt)) e
inside_some top (b ∷ bytes) (in_pair l ws v q) i e = inside_some top bytes (in_double l ws (v ++ escaped_value b) q) tt e

begins_some : (top : ℕ) (bytes : List ℕ) → BeginsOutside ends_word bytes → run top in_gap bytes ≡ read [] → ⊥
begins_some top bytes h e = inside_some top bytes (in_command (top - newlines bytes) [] None) tt (sym (command_begins top bytes h) ∙ e)

-- behind a line, nothing is read where the machine read one line at most
last_one : (line : Line) (r : Outcome) (m : Mode) → IsOutside m → add line r ≡ outcome m → r ≡ read []
last_one line r in_gap i e = absurd (add_some line r e)
last_one line (read lines) (in_command l ws o) i e =
    let x : read (line ∷ lines) ≡ read (line_of l (finished ws o) ∷ []) = e in
    let y : lines ≡ [] = cc in
    ap read y
last_one line (fault error) (in_command l ws o) i e = absurd (let x : fault error ≡ read (line_of l (finished ws o) ∷ []) = e in cc)
last_one line r _ i e = absurd i

-- bytes that end an open piece
abbrev closing : Open → List ℕ
closing (open_single bytes) = 39 ∷ []
closing (open_double inner) = 34 ∷ []
closing (open_pair inner) = 0 ∷ 34 ∷ []
closing last_backslash = 0 ∷ []

abbrev closed : Open → Piece
closed (open_single bytes) = single bytes
closed (open_double inner) = double inner
closed (open_pair inner) = double (inner ++ pair 0 ∷ [])
closed last_backslash = escaped 0

closed_text : (o : Open) → open_text o ++ closing o ≡ piece_text (closed o)
closed_text (open_single bytes) = refl
closed_text (open_double inner) = refl
closed_text (open_pair inner) = ap (λ (z : List ℕ). 34 ∷ z) (append_assoc (flat_map inner_text inner) (92 ∷ []) (0 ∷ 34 ∷ []) ∙ sym (append_assoc (flat_map inner_text inner) (92 ∷ 0 ∷ []) (34 ∷ []))
    ∙ ap (λ (z : List ℕ). z ++ 34 ∷ []) (sym (flat_map-append inner_text inner (pair 0 ∷ []))))
closed_text last_backslash = refl

closed_is : (o : Open) → IsOpen o → IsPiece (closed o)
closed_is (open_single bytes) h = h
closed_is (open_double inner) h = h
closed_is (open_pair inner) h = each-append IsInner inner (pair 0 ∷ []) h (tt, tt)
closed_is last_backslash h = tt

-- a command whose end is mended
record Mended (extent : List ℕ) : Type 0 where
  end : List ℕ
  mode : Mode
  outside : IsOutside mode
  same : run 0 in_gap (extent ++ end) ≡ outcome mode

mended : (extent before : List ℕ) (o : Open) → IsOpenCommand extent before o → Mended extent
mended extent before o h =
    let rest : List ℕ = piece_text (closed o) ++ [] in
    let a : Comes 0 in_gap (flat_map spaced_text h.front ++ rest) rest = loose_from 0 in_gap h.front rest tt h.loose in
    let b : Comes 0 a.mode rest [] = piece_from 0 a.mode (closed o) [] a.outside (closed_is o h.open_is) in
    record {
      end = closing o;
      mode = b.mode;
      outside = b.outside;
      same =
          ap (λ (z : List ℕ). run 0 in_gap z)
          (ap (λ (z : List ℕ). z ++ closing o) (h.whole ∙ ap (λ (z : List ℕ). z ++ open_text o) h.before_is)
          ∙ append_assoc (flat_map spaced_text h.front) (open_text o) (closing o)
          ∙ ap (λ (z : List ℕ). flat_map spaced_text h.front ++ z) (closed_text o ∙ sym (append-nil (piece_text (closed o)))))
          ∙ a.same ∙ b.same;
    }

-- what is behind an extent tells by its first byte alone
at_end-same : (test : ℕ → Bool) (bytes : List ℕ) (byte : ℕ) (a b : List ℕ) → IsAtEndOr test (bytes ++ byte ∷ a) → IsAtEndOr test (bytes ++ byte ∷ b)
at_end-same test [] byte a b h = h
at_end-same test (x ∷ bytes) byte a b h = h

fillers-same : (fillers : List Filler) (byte : ℕ) (a b : List ℕ) → AreFillers fillers (byte ∷ a) → AreFillers fillers (byte ∷ b)
fillers-same [] byte a b h = tt
fillers-same (blank bytes ∷ fillers) byte a b h = (h.0, fillers-same fillers byte a b h.1)
fillers-same (comment bytes ∷ fillers) byte a b h = (h.0, at_end-same (λ byte. nat_eq byte 10) (gap_text fillers) byte a b h.1, fillers-same fillers byte a b h.2)

gap-same : (gap : List ℕ) (byte : ℕ) (a b : List ℕ) → IsGap gap (byte ∷ a) → IsGap gap (byte ∷ b)
gap-same gap byte a b g = record { fillers = g.fillers; whole = g.whole; each = fillers-same g.fillers byte a b g.each; next = g.next }

command-same : (extent : List ℕ) (byte : ℕ) (a b : List ℕ) (words : List (List ℕ)) → SpellsCommand extent (byte ∷ a) words → SpellsCommand extent (byte ∷ b) words
command-same extent byte a b words s = record {
  command = s.command;
  gap = s.gap;
  whole = s.whole;
  is = s.is;
  end = at_end-same ends_command s.gap byte a b s.end;
  gap_is = gap-same s.gap byte a b s.gap_is;
  words_are = s.words_are;
}

not_false : (t : Bool) → not t ≡ true → t ≡ false
not_false false h = refl
not_false true h = absurd (let n : false ≡ true = h in cc)

-- no extent goes on where the next command begins
no_more : (extent : List ℕ) (byte : ℕ) (more behind : List ℕ) (words : List (List ℕ)) → SpellsCommand extent (byte ∷ (more ++ behind)) words → IsExtent (extent ++ byte ∷ more) behind → ⊥
no_more extent byte more behind words s (ended others t) =
    let u : SpellsCommand extent (byte ∷ more) words = command-same extent byte (more ++ behind) more words s in
    let l : Line = line_of (0 - newlines (extent ++ byte ∷ more)) words in
    let whole : List ℕ = (extent ++ byte ∷ more) ++ [] in
    let r : run 0 in_gap (byte ∷ more) ≡ read [] = last_one l (run 0 in_gap (byte ∷ more)) (in_command (0 - newlines whole) others None) tt
    (sym (command_runs 0 extent (byte ∷ more) words u) ∙ command_read (extent ++ byte ∷ more) behind others t) in
    begins_some 0 (byte ∷ more) (not_false (ends_word byte) s.gap_is.next) r
no_more extent byte more behind words s (unended before o h e) =
    let m : Mended (extent ++ byte ∷ more) = mended (extent ++ byte ∷ more) before o h in
    let rest : List ℕ = byte ∷ (more ++ m.end) in
    let u : SpellsCommand extent rest words = command-same extent byte (more ++ behind) (more ++ m.end) words s in
    let l : Line = line_of (0 - newlines (extent ++ rest)) words in
    let r : run 0 in_gap rest ≡ read [] = last_one l (run 0 in_gap rest) m.mode m.outside (sym (command_runs 0 extent rest words u) ∙ ap (λ (z : List ℕ). run 0 in_gap z) (sym (append_assoc extent (byte ∷ more) m.end)) ∙ m.same) in
    begins_some 0 rest (not_false (ends_word byte) s.gap_is.next) r

no_longer : (extent more behind : List ℕ) → IsExtent extent (more ++ behind) → IsExtent (extent ++ more) behind → more ≡ []
no_longer extent [] behind a b = refl
no_longer extent (byte ∷ more) behind (ended words s) b = absurd (no_more extent byte more behind words s b)
no_longer extent (byte ∷ more) behind (unended before o h e) b = absurd (cc)

no_longer_gap : (gap more behind : List ℕ) → IsGap gap (more ++ behind) → IsGap (gap ++ more) behind → more ≡ []
no_longer_gap gap [] behind a b = refl
no_longer_gap gap (byte ∷ more) behind a b = absurd (begins_some 0 (byte ∷ more) (not_false (ends_word byte) a.next) (sym (gap_runs 0 gap (byte ∷ more) (gap-same gap byte (more ++ behind) more a)) ∙ gap_read (gap ++ byte ∷ more) behind b))

-- of two fronts of a text, one goes on with the other
data Overlap (a b x y : List ℕ) : Type 0 where
  longer : (more : List ℕ) → b ≡ a ++ more → x ≡ more ++ y → Overlap a b x y
  shorter : (more : List ℕ) → a ≡ b ++ more → y ≡ more ++ x → Overlap a b x y

overlap : (a b x y : List ℕ) → a ++ x ≡ b ++ y → Overlap a b x y
overlap [] b x y e = longer b refl e
overlap (c ∷ a) [] x y e = shorter (c ∷ a) refl (sym e)
overlap (c ∷ a) (d ∷ b) x y e =
    let heads : d ≡ c = cc in
    let tails : a ++ x ≡ b ++ y = cc in
    go heads (overlap a b x y tails)
  where
    go : d ≡ c → Overlap a b x y → Overlap (c ∷ a) (d ∷ b) x y
    go h (longer more w v) = longer more (cc (h, w)) v
    go h (shorter more w v) = shorter more (cc (h, w)) v

-- the fronts are one, and so is what is behind them
pub record SameSplit (a b x y : List ℕ) : Type 0 where
  pub front : b ≡ a
  pub rest : y ≡ x

same-longer : (a b x y more : List ℕ) → b ≡ a ++ more → x ≡ more ++ y → more ≡ [] → SameSplit a b x y
same-longer a b x y more w v e = record { front = w ∙ ap (λ (z : List ℕ). a ++ z) e ∙ append-nil a; rest = sym (v ∙ ap (λ (z : List ℕ). z ++ y) e) }

same-shorter : (a b x y more : List ℕ) → a ≡ b ++ more → y ≡ more ++ x → more ≡ [] → SameSplit a b x y
same-shorter a b x y more w v e = record { front = sym (w ∙ ap (λ (z : List ℕ). b ++ z) e ∙ append-nil b); rest = v ∙ ap (λ (z : List ℕ). z ++ x) e }

along : (Is : List ℕ → List ℕ → Type 0) (a b x y : List ℕ) → a ≡ b → x ≡ y → Is a x → Is b y
along Is a b x y e f h =
    let P : List ℕ → Type 0 = λ z. Is z x in
    let Q : List ℕ → Type 0 = λ z. Is b z in
    subst Q f (subst P e h)

pub one_extent : (a b x y : List ℕ) → IsExtent a x → IsExtent b y → a ++ x ≡ b ++ y → SameSplit a b x y
one_extent a b x y p q e = go (overlap a b x y e)
  where
    go : Overlap a b x y → SameSplit a b x y
    go (longer more w v) = same-longer a b x y more w v (no_longer a more y (along IsExtent a a x (more ++ y) refl v p) (along IsExtent b (a ++ more) y y w refl q))
    go (shorter more w v) = same-shorter a b x y more w v (no_longer b more x (along IsExtent b b y (more ++ x) refl v q) (along IsExtent a (b ++ more) x x w refl p))

pub one_gap : (a b x y : List ℕ) → IsGap a x → IsGap b y → a ++ x ≡ b ++ y → SameSplit a b x y
one_gap a b x y p q e = go (overlap a b x y e)
  where
    go : Overlap a b x y → SameSplit a b x y
    go (longer more w v) = same-longer a b x y more w v (no_longer_gap a more y (along IsGap a a x (more ++ y) refl v p) (along IsGap b (a ++ more) y y w refl q))
    go (shorter more w v) = same-shorter a b x y more w v (no_longer_gap b more x (along IsGap b b y (more ++ x) refl v q) (along IsGap a (b ++ more) x x w refl p))

-- an extent has a byte
pub extent_length : (extent behind : List ℕ) → IsExtent extent behind → 0 < length extent
extent_length extent behind (unended before o h e) = bad_length extent before o h
extent_length extent behind (ended words s) =
    let c = s.command in
    let others : List ℕ = flat_map spaced_text c.others in
    let l : 0 < length (word_text c.first) = word_length c.first s.is.first in
    let x : length extent ≡ length ((word_text c.first ++ others) ++ c.last) + length s.gap = ap length s.whole ∙ length-append ((word_text c.first ++ others) ++ c.last) s.gap in
    let y : length ((word_text c.first ++ others) ++ c.last) ≡ length (word_text c.first ++ others) + length c.last = length-append (word_text c.first ++ others) c.last in
    let z : length (word_text c.first ++ others) ≡ length (word_text c.first) + length others = length-append (word_text c.first) others in
    omega arith
