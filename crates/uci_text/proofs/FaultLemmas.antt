-- Faults: no command has one that ended and has no zero byte, and a text has one first fault.
use Rattle.std.proofs.Common.{ℕ, ◌≡◌, ◌<◌, ◌+◌, ◌-◌, List, [], ◌∷◌, ◌++◌, length, Bool, true, false, not, None, arith, sym, refl, subst, ap, ◌∙◌, append_assoc, length-append, nat_eq, ◌⊎◌, inl, inr}
use Rattle.std.specs.List.{AllByRecursion, flat_map, concat}
use Rattle.std.proofs.lemmas.List.{append-nil}
use Rattle.std.proofs.lemmas.Bool.Decides.{nat_tests}
use Rattle.uci_text.specs.declared.line.Line.{Line}
use Rattle.uci_text.specs.declared.text_error.TextError.{TextError}
use Rattle.uci_text.specs.declared.text_error.TextError.TheVariants.{BadWord}
use Rattle.uci_text.specs.declared.byte_class.ByteClass.TheVariants.{Space, NotZero, Blank}
use Rattle.uci_text.specs.ByteClass.{is_in, AllIn, IsAtEndOr, newlines, is_space, ends_command, ends_word}
use Rattle.uci_text.specs.Piece.{Piece, IsPiece, piece_text}
use Rattle.uci_text.specs.Word.{Spaced, word_text, spaced_text}
use Rattle.uci_text.specs.Gap.{Filler, blank, comment, gap_text, AreFillers, IsGap}
use Rattle.uci_text.specs.Command.{SpellsCommand}
use Rattle.uci_text.specs.Open.{Open, open_single, open_double, open_pair, last_backslash, open_text, IsOpen, IsLoose, IsOpenCommand, IsExtent, ended, unended, AreExtents, AreFirst}
use Rattle.uci_text.specs.Text.{Spells}
use Rattle.uci_text.specs.FirstFault.{open_error, HasFault, zero_byte, no_end, IsFreeOf, IsFirstFault}
use Rattle.uci_text.specs.Found.{BeginsOutside}
use Rattle.uci_text.proofs.ClassLemmas.{all_in-append, all_in-right}
use Rattle.uci_text.proofs.RunLemmas.{Mode, in_gap, in_command, Outcome, read, fault, run, add, line_of, finished, blank_runs, gap_runs, command_begins, command_runs, space_step, piece_begins, piece_runs, open_runs, newlines-append}
use Rattle.uci_text.proofs.RunLemmas.{reading_runs}

-- the machine is between commands or in one
abbrev pub IsOutside : Mode → Type 0
IsOutside in_gap = Unit {0}
IsOutside (in_command l ws o) = Unit {0}
IsOutside _ = ⊥

-- it comes to the rest outside quotes
pub record Comes (top : ℕ) (m : Mode) (text rest : List ℕ) : Type 0 where
  pub mode : Mode
  pub outside : IsOutside mode
  pub same : run top m text ≡ run top mode rest

blank_space : (b : ℕ) → is_space b ≡ true → is_in Blank b ≡ true
blank_space b h = grind (arith, nat_tests)

space_from : (top : ℕ) (m : Mode) (b : ℕ) (rest : List ℕ) → IsOutside m → is_space b ≡ true → Comes top m (b ∷ rest) rest
space_from top in_gap b rest i h = record { mode = in_gap; outside = tt; same = blank_runs top (b ∷ []) rest (blank_space b h, tt) }
space_from top (in_command l ws o) b rest i h = record { mode = in_command l (finished ws o) None; outside = tt; same = space_step top l ws o b rest h }
space_from top _ b rest i h = absurd i

pub piece_from : (top : ℕ) (m : Mode) (piece : Piece) (rest : List ℕ) → IsOutside m → IsPiece piece → Comes top m (piece_text piece ++ rest) rest
piece_from top in_gap piece rest i p =
    let l : ℕ = top - newlines (piece_text piece ++ rest) in
    record {
      mode = in_command l [] _;
      outside = tt;
      same = command_begins top (piece_text piece ++ rest) (piece_begins piece rest p) ∙ piece_runs top l [] None piece rest p;
    }
piece_from top (in_command l ws o) piece rest i p = record { mode = in_command l ws _; outside = tt; same = piece_runs top l ws o piece rest p }
piece_from top _ piece rest i p = absurd i

spaces_from : (top : ℕ) (m : Mode) (spaces rest : List ℕ) → IsOutside m → AllIn Space spaces → Comes top m (spaces ++ rest) rest
spaces_from top m [] rest i p = record { mode = m; outside = i; same = refl }
spaces_from top m (b ∷ spaces) rest i p =
    let a : Comes top m (b ∷ spaces ++ rest) (spaces ++ rest) = space_from top m b (spaces ++ rest) i p.0 in
    let r : Comes top a.mode (spaces ++ rest) rest = spaces_from top a.mode spaces rest a.outside p.1 in
    record { mode = r.mode; outside = r.outside; same = a.same ∙ r.same }

pieces_from : (top : ℕ) (m : Mode) (pieces : List Piece) (rest : List ℕ) → IsOutside m → AllByRecursion IsPiece pieces → Comes top m (word_text pieces ++ rest) rest
pieces_from top m [] rest i p = record { mode = m; outside = i; same = refl }
pieces_from top m (piece ∷ pieces) rest i p =
    let a : Comes top m (piece_text piece ++ (word_text pieces ++ rest)) (word_text pieces ++ rest) = piece_from top m piece (word_text pieces ++ rest) i p.0 in
    let r : Comes top a.mode (word_text pieces ++ rest) rest = pieces_from top a.mode pieces rest a.outside p.1 in
    record {
      mode = r.mode;
      outside = r.outside;
      same = ap (λ (z : List ℕ). run top m z) (append_assoc (piece_text piece) (word_text pieces) rest) ∙ a.same ∙ r.same;
    }

pub loose_from : (top : ℕ) (m : Mode) (front : List Spaced) (rest : List ℕ) → IsOutside m → AllByRecursion IsLoose front → Comes top m (flat_map spaced_text front ++ rest) rest
loose_from top m [] rest i p = record { mode = m; outside = i; same = refl }
loose_from top m (w ∷ front) rest i p =
    let more : List ℕ = flat_map spaced_text front ++ rest in
    let a : Comes top m (w.spaces ++ (word_text w.pieces ++ more)) (word_text w.pieces ++ more) = spaces_from top m w.spaces (word_text w.pieces ++ more) i p.0.spaces in
    let b : Comes top a.mode (word_text w.pieces ++ more) more = pieces_from top a.mode w.pieces more a.outside p.0.pieces in
    let r : Comes top b.mode more rest = loose_from top b.mode front rest b.outside p.1 in
    record {
      mode = r.mode;
      outside = r.outside;
      same =
          ap (λ (z : List ℕ). run top m z) (append_assoc (w.spaces ++ word_text w.pieces) (flat_map spaced_text front) rest ∙ append_assoc w.spaces (word_text w.pieces) more)
          ∙ a.same ∙ b.same ∙ r.same;
    }

open_begins : (o : Open) → BeginsOutside ends_word (open_text o)
open_begins (open_single bytes) = refl
open_begins (open_double inner) = refl
open_begins (open_pair inner) = refl
open_begins last_backslash = refl

open_from : (top : ℕ) (m : Mode) (o : Open) → IsOutside m → IsOpen o → run top m (open_text o) ≡ fault (open_error o (top - newlines (open_text o)))
open_from top in_gap o i p = command_begins top (open_text o) (open_begins o) ∙ open_runs top (top - newlines (open_text o)) [] None o p
open_from top (in_command l ws b) o i p = open_runs top l ws b o p
open_from top _ o i p = absurd i

-- a command that does not end is refused
pub open_refused : (top : ℕ) (extent before : List ℕ) (o : Open) → IsOpenCommand extent before o → run top in_gap extent ≡ fault (open_error o (top - newlines (open_text o)))
open_refused top extent before o h =
    let a : Comes top in_gap (flat_map spaced_text h.front ++ open_text o) (open_text o) = loose_from top in_gap h.front (open_text o) tt h.loose in
    ap (λ (z : List ℕ). run top in_gap z) (h.whole ∙ ap (λ (z : List ℕ). z ++ open_text o) h.before_is)
    ∙ a.same
    ∙ open_from top a.mode o a.outside h.open_is

-- an extent by itself
at_end-left : (test : ℕ → Bool) (xs ys : List ℕ) → IsAtEndOr test (xs ++ ys) → IsAtEndOr test (xs ++ [])
at_end-left test [] ys h = tt
at_end-left test (x ∷ xs) ys h = h

fillers-alone : (fillers : List Filler) (behind : List ℕ) → AreFillers fillers behind → AreFillers fillers []
fillers-alone [] behind h = tt
fillers-alone (blank bytes ∷ fillers) behind h = (h.0, fillers-alone fillers behind h.1)
fillers-alone (comment bytes ∷ fillers) behind h = (h.0, at_end-left (λ byte. nat_eq byte 10) (gap_text fillers) behind h.1, fillers-alone fillers behind h.2)

pub gap-alone : (gap behind : List ℕ) → IsGap gap behind → IsGap gap []
gap-alone gap behind g = record { fillers = g.fillers; whole = g.whole; each = fillers-alone g.fillers behind g.each; next = tt }

pub command-alone : (extent behind : List ℕ) (words : List (List ℕ)) → SpellsCommand extent behind words → SpellsCommand extent [] words
command-alone extent behind words s = record {
  command = s.command;
  gap = s.gap;
  whole = s.whole;
  is = s.is;
  end = at_end-left ends_command s.gap behind s.end;
  gap_is = gap-alone s.gap behind s.gap_is;
  words_are = s.words_are;
}

pub command_read : (extent behind : List ℕ) (words : List (List ℕ)) → SpellsCommand extent behind words → run 0 in_gap extent ≡ read (line_of (0 - newlines (extent ++ [])) words ∷ [])
command_read extent behind words s = ap (λ (z : List ℕ). run 0 in_gap z) (sym (append-nil extent)) ∙ command_runs 0 extent [] words (command-alone extent behind words s)

pub gap_read : (gap behind : List ℕ) → IsGap gap behind → run 0 in_gap gap ≡ read []
gap_read gap behind g = ap (λ (z : List ℕ). run 0 in_gap z) (sym (append-nil gap)) ∙ gap_runs 0 gap [] (gap-alone gap behind g)

pub no_both : (lines : List Line) (error : TextError) (r : Outcome) → r ≡ read lines → r ≡ fault error → ⊥
no_both lines error r a b =
    let n : read lines ≡ fault error = sym a ∙ b in
    cc

pub no_zero : (extent before behind : List ℕ) → AllIn NotZero extent → extent ≡ before ++ 0 ∷ behind → ⊥
no_zero extent before behind c e =
    let P : List ℕ → Type 0 = λ z. AllIn NotZero z in
    let h : AllIn NotZero (0 ∷ behind) = all_in-right NotZero before (0 ∷ behind) (subst P e c) in
    let n : false ≡ true = h.0 in
    cc

pub command_faultless : (extent behind : List ℕ) (words : List (List ℕ)) → SpellsCommand extent behind words → AllIn NotZero extent → IsFreeOf HasFault extent
command_faultless extent behind words s c number error (zero_byte before more w k e) = no_zero extent before more c w
command_faultless extent behind words s c number error (no_end before o d h e) = no_both _ _ (run 0 in_gap extent) (command_read extent behind words s) (open_refused 0 extent before o h)

pub gap_faultless : (gap behind : List ℕ) → IsGap gap behind → AllIn NotZero gap → IsFreeOf HasFault gap
gap_faultless gap behind g c number error (zero_byte before more w k e) = no_zero gap before more c w
gap_faultless gap behind g c number error (no_end before o d h e) = no_both _ _ (run 0 in_gap gap) (gap_read gap behind g) (open_refused 0 gap before o h)

-- where the first zero byte is
record ZeroAt (bytes : List ℕ) : Type 0 where
  before : List ℕ
  behind : List ℕ
  whole : bytes ≡ before ++ 0 ∷ behind
  clean : AllIn NotZero before

zero_test : (b : ℕ) → nat_eq b 0 ≡ true → b ≡ 0
zero_test b h = grind (arith, nat_tests)

zero_or_none : (bytes : List ℕ) → AllIn NotZero bytes ⊎ ZeroAt bytes
zero_or_none [] = inl tt
zero_or_none (b ∷ bytes) = go (nat_eq b 0) refl (zero_or_none bytes)
  where
    go : (t : Bool) → nat_eq b 0 ≡ t → AllIn NotZero bytes ⊎ ZeroAt bytes → AllIn NotZero (b ∷ bytes) ⊎ ZeroAt (b ∷ bytes)
    go true e r = inr (record { before = []; behind = bytes; whole = ap (λ (z : ℕ). z ∷ bytes) (zero_test b e); clean = tt })
    go false e (inl c) = inl (ap not e, c)
    go false e (inr z) = inr (record { before = b ∷ z.before; behind = z.behind; whole = ap (λ (x : List ℕ). b ∷ x) z.whole; clean = (ap not e, z.clean) })

faultless_clean : (extent : List ℕ) → IsFreeOf HasFault extent → AllIn NotZero extent
faultless_clean extent h = elim (zero_or_none extent) [ inl c ↦ c | inr z ↦ absurd (h 0 (BadWord (0 + newlines z.before)) (zero_byte z.before z.behind z.whole z.clean refl)) ]

all_clean : (good : List (List ℕ)) → AllByRecursion (λ extent. IsFreeOf HasFault extent) good → AllIn NotZero (concat good)
all_clean [] h = tt
all_clean (extent ∷ good) h = all_in-append NotZero extent (concat good) (faultless_clean extent h.0) (all_clean good h.1)

-- commands before a last one that is refused
concat-last : (extents : List (List ℕ)) (bad : List ℕ) → concat (extents ++ bad ∷ []) ++ [] ≡ concat extents ++ bad
concat-last [] bad = append-nil (bad ++ []) ∙ append-nil bad
concat-last (extent ∷ extents) bad = append_assoc extent (concat (extents ++ bad ∷ [])) [] ∙ ap (λ (z : List ℕ). extent ++ z) (concat-last extents bad) ∙ sym (append_assoc extent (concat extents) bad)

no_end_behind : (front bad : List ℕ) → 0 < length bad → front ++ bad ≡ [] → ⊥
no_end_behind front bad l e =
    let a : length (front ++ bad) ≡ length front + length bad = length-append front bad in
    let b : length (front ++ bad) ≡ 0 = ap length e in
    omega arith

extents_refused : (top : ℕ) (good : List (List ℕ)) (bad : List ℕ) (error : TextError) → 0 < length bad → AreExtents (good ++ bad ∷ []) [] → run top in_gap bad ≡ fault error → run top in_gap (concat good ++ bad) ≡ fault error
extents_refused top [] bad error l h r = r
extents_refused top (extent ∷ good) bad error l h r =
    let rest : run top in_gap (concat good ++ bad) ≡ fault error = extents_refused top good bad error l h.1 r in
    ap (λ (z : List ℕ). run top in_gap z) (append_assoc extent (concat good) bad) ∙ first h.0 rest
  where
    first : IsExtent extent (concat (good ++ bad ∷ []) ++ []) → run top in_gap (concat good ++ bad) ≡ fault error → run top in_gap (extent ++ (concat good ++ bad)) ≡ fault error
    first (ended words s) rest =
        let P : List ℕ → Type 0 = λ z. SpellsCommand extent z words in
        command_runs top extent (concat good ++ bad) words (subst P (concat-last good bad) s)
        ∙ ap (λ (z : Outcome). add (line_of (top - newlines (extent ++ (concat good ++ bad))) words) z) rest
    first (unended before o i e) rest = absurd (no_end_behind (concat good) bad l (sym (concat-last good bad) ∙ e))

-- what comes of a text with this first fault
data Verdict (text : List ℕ) (error : TextError) : Type 0 where
  zero_first : (before behind : List ℕ) → text ≡ before ++ 0 ∷ behind → AllIn NotZero before → error ≡ BadWord (newlines before + 1) → Verdict text error
  open_last : AllIn NotZero text → run (newlines text + 1) in_gap text ≡ fault error → Verdict text error

open_length : (o : Open) → 0 < length (open_text o)
open_length (open_single bytes) = omega arith
open_length (open_double inner) = omega arith
open_length (open_pair inner) = omega arith
open_length last_backslash = omega arith

pub bad_length : (bad before : List ℕ) (o : Open) → IsOpenCommand bad before o → 0 < length bad
bad_length bad before o h =
    let a : length bad ≡ length before + length (open_text o) = ap length h.whole ∙ length-append before (open_text o) in
    let b : 0 < length (open_text o) = open_length o in
    omega arith

-- an open command is the last one
open_behind : (bad behind before : List ℕ) (o : Open) → IsExtent bad behind → IsOpenCommand bad before o → behind ≡ []
open_behind bad behind before o (ended words s) h = absurd (no_both _ _ (run 0 in_gap bad) (command_read bad behind words s) (open_refused 0 bad before o h))
open_behind bad behind before o (unended b p i e) h = e

last_extent : (extents : List (List ℕ)) (bad behind : List ℕ) → AreExtents (extents ++ bad ∷ []) behind → IsExtent bad behind
last_extent [] bad behind h = h.0
last_extent (e ∷ extents) bad behind h = last_extent extents bad behind h.1

first_behind : (good : List (List ℕ)) (bad behind before : List ℕ) (o : Open) → AreFirst (good ++ bad ∷ []) behind → IsOpenCommand bad before o → behind ≡ []
first_behind [] bad behind before o a h = absurd (no_both _ _ (run 0 in_gap bad) (gap_read bad behind a.0) (open_refused 0 bad before o h))
first_behind (gap ∷ good) bad behind before o a h = open_behind bad behind before o (last_extent good bad behind a.1) h

first_refused : (top : ℕ) (good : List (List ℕ)) (bad before : List ℕ) (o : Open) (error : TextError) → AreFirst (good ++ bad ∷ []) [] → IsOpenCommand bad before o → run top in_gap bad ≡ fault error → run top in_gap (concat good ++ bad)
    ≡ fault error
first_refused top [] bad before o error a h r = r
first_refused top (gap ∷ good) bad before o error a h r =
    let P : List ℕ → Type 0 = λ z. IsGap gap z in
    ap (λ (z : List ℕ). run top in_gap z) (append_assoc gap (concat good) bad)
    ∙ gap_runs top gap (concat good ++ bad) (subst P (concat-last good bad) a.0)
    ∙ extents_refused top good bad error (bad_length bad before o h) a.1 r

verdict : (text : List ℕ) (error : TextError) → IsFirstFault text error → Verdict text error
verdict text error f = go f.fault
  where
    go : HasFault (newlines (concat f.good) + 1) f.bad error → Verdict text error
    go (zero_byte before behind w c e) =
        let n : newlines (concat f.good ++ before) ≡ newlines (concat f.good) + newlines before = newlines-append (concat f.good) before in
        let number : newlines (concat f.good) + 1 + newlines before ≡ newlines (concat f.good ++ before) + 1 = omega arith in
        zero_first (concat f.good ++ before) (behind ++ f.behind)
        (f.whole ∙ ap (λ (z : List ℕ). concat f.good ++ z ++ f.behind) w ∙ simp append_assoc)
        (all_in-append NotZero (concat f.good) before (all_clean f.good f.free) c)
        (e ∙ ap BadWord number)
    go (no_end before o c h e) =
        let last : f.behind ≡ [] = first_behind f.good f.bad f.behind before o f.extents h in
        let P : List ℕ → Type 0 = λ z. AreFirst (f.good ++ f.bad ∷ []) z in
        let Q : List ℕ → Type 0 = λ z. AllIn NotZero z in
        let w : text ≡ concat f.good ++ f.bad = f.whole ∙ ap (λ (z : List ℕ). concat f.good ++ f.bad ++ z) last ∙ append-nil (concat f.good ++ f.bad) in
        let top : ℕ = newlines text + 1 in
        let n : newlines text ≡ newlines (concat f.good) + newlines f.bad = ap newlines w ∙ newlines-append (concat f.good) f.bad in
        let m : newlines f.bad ≡ newlines before + newlines (open_text o) = ap newlines h.whole ∙ newlines-append before (open_text o) in
        let number : newlines text + 1 - newlines (open_text o) ≡ newlines (concat f.good) + 1 + newlines before = omega arith in
        let r : run top in_gap f.bad ≡ fault error = open_refused top f.bad before o h ∙ ap (λ (z : ℕ). fault (open_error o z)) number ∙ ap fault (sym e) in
        open_last
        (subst Q (sym w) (all_in-append NotZero (concat f.good) f.bad (all_clean f.good f.free) c))
        (ap (λ (z : List ℕ). run top in_gap z) w ∙ first_refused top f.good f.bad before o error (subst P last f.extents) h r)

-- the first zero byte is one
pub one_zero : (a b x y : List ℕ) → AllIn NotZero a → AllIn NotZero b → a ++ 0 ∷ x ≡ b ++ 0 ∷ y → b ≡ a
one_zero [] [] x y p q e = refl
one_zero [] (c ∷ b) x y p q e =
    let h : c ≡ 0 = cc in
    let P : ℕ → Type 0 = λ z. is_in NotZero z ≡ true in
    let n : false ≡ true = subst P h q.0 in
    absurd (cc)
one_zero (c ∷ a) [] x y p q e =
    let h : c ≡ 0 = cc in
    let P : ℕ → Type 0 = λ z. is_in NotZero z ≡ true in
    let n : false ≡ true = subst P h p.0 in
    absurd (cc)
one_zero (c ∷ a) (d ∷ b) x y p q e =
    let heads : d ≡ c = cc in
    let tails : a ++ 0 ∷ x ≡ b ++ 0 ∷ y = cc in
    let rest : b ≡ a = one_zero a b x y p.1 q.1 tails in
    cc

same_verdict : (text : List ℕ) (error other : TextError) → Verdict text error → Verdict text other → other ≡ error
same_verdict text error other (zero_first b x w c e) (zero_first d y v g f) =
    let s : d ≡ b = one_zero b d x y c g (sym w ∙ v) in
    f ∙ ap (λ (z : List ℕ). BadWord (newlines z + 1)) s ∙ sym e
same_verdict text error other (zero_first b x w c e) (open_last g r) = absurd (no_zero text b x g w)
same_verdict text error other (open_last g r) (zero_first b x w c e) = absurd (no_zero text b x g w)
same_verdict text error other (open_last g r) (open_last h s) =
    let both : fault other ≡ fault error = sym s ∙ r in
    cc

pub fault_is_one : (text : List ℕ) (error other : TextError) → IsFirstFault text error → IsFirstFault text other → other ≡ error
fault_is_one text error other f g = same_verdict text error other (verdict text error f) (verdict text other g)

no_reading_of : (text : List ℕ) (error : TextError) (lines : List Line) → Verdict text error → Spells text lines → ⊥
no_reading_of text error lines (zero_first b x w c e) s = no_zero text b x s.clean w
no_reading_of text error lines (open_last g r) s = no_both lines error (run (newlines text + 1) in_gap text) (reading_runs text lines s) r

pub no_reading : (text : List ℕ) (error : TextError) (lines : List Line) → IsFirstFault text error → Spells text lines → ⊥
no_reading text error lines f s = no_reading_of text error lines (verdict text error f) s

pub reading_is_one : (text : List ℕ) (lines others : List Line) → Spells text lines → Spells text others → others ≡ lines
reading_is_one text lines others s t =
    let both : read others ≡ read lines = sym (reading_runs text others t) ∙ reading_runs text lines s in
    cc
