-- Gaps between commands.
use Rattle.std.proofs.Common.{ℕ, ◌≡◌, ◌≢◌, List, [], ◌∷◌, ◌++◌, true, not, arith, sym, refl, subst, ap, ◌∙◌, append_assoc, nat_eq}
use Rattle.std.proofs.lemmas.List.{append-nil}
use Rattle.std.proofs.lemmas.List.Concat.{flat_map-append}
use Rattle.std.proofs.lemmas.Bool.Decides.{nat_tests}
use Rattle.uci_text.specs.declared.byte_class.ByteClass.TheVariants.{Blank, InLine}
use Rattle.uci_text.specs.ByteClass.{is_in, IsAtEndOr, SplitsBehind, ends_word}
use Rattle.uci_text.specs.Gap.{Filler, blank, comment, filler_text, gap_text, AreFillers}
use Rattle.uci_text.specs.Found.{TakesGap}

-- the fillers so far
pub record GapSoFar (bytes rest : List ℕ) : Type 0 where
  pub fillers : List Filler
  pub whole : bytes ≡ gap_text fillers ++ rest
  pub each : AreFillers fillers rest

pub gap_none : (bytes : List ℕ) → GapSoFar bytes bytes
gap_none bytes = record { fillers = []; whole = refl; each = tt }

gap_text-append : (fillers : List Filler) (filler : Filler) (rest : List ℕ) → gap_text (fillers ++ filler ∷ []) ++ rest ≡ gap_text fillers ++ (filler_text filler ++ rest)
gap_text-append fillers filler rest =
    let texts : gap_text (fillers ++ filler ∷ []) ≡ gap_text fillers ++ (filler_text filler ++ []) = flat_map-append filler_text fillers (filler ∷ []) in
    rw texts (simp (append_assoc, append-nil))

fillers-append : (fillers : List Filler) (filler : Filler) (rest : List ℕ) → AreFillers fillers (filler_text filler ++ rest) → AreFillers (filler ∷ []) rest → AreFillers (fillers ++ filler ∷ []) rest
fillers-append [] filler rest h f = f
fillers-append (blank bytes ∷ fillers) filler rest h f = (h.0, fillers-append fillers filler rest h.1 f)
fillers-append (comment bytes ∷ fillers) filler rest h f =
    let P : List ℕ → Type 0 = λ z. IsAtEndOr (λ byte. nat_eq byte 10) z in
    (h.0, subst P (sym (gap_text-append fillers filler rest)) h.1, fillers-append fillers filler rest h.2 f)

pub gap_more : (bytes rest : List ℕ) (filler : Filler) → GapSoFar bytes (filler_text filler ++ rest) → AreFillers (filler ∷ []) rest → GapSoFar bytes rest
gap_more bytes rest filler r f = record {
  fillers = r.fillers ++ filler ∷ [];
  whole = r.whole ∙ sym (gap_text-append r.fillers filler rest);
  each = fillers-append r.fillers filler rest r.each f;
}

pub gap_blank : (bytes rest front behind : List ℕ) → GapSoFar bytes rest → SplitsBehind Blank rest front behind → GapSoFar bytes behind
gap_blank bytes rest front behind r s =
    let P : List ℕ → Type 0 = λ z. GapSoFar bytes z in
    gap_more bytes behind (blank front) (subst P s.whole r) (s.within, tt)

-- a byte that ends a line
newline_ends : (byte : ℕ) → not (is_in InLine byte) ≡ true → nat_eq byte 10 ≡ true
newline_ends byte h = grind (arith, nat_tests)

line_ends : (rest : List ℕ) → IsAtEndOr (λ byte. not (is_in InLine byte)) rest → IsAtEndOr (λ byte. nat_eq byte 10) rest
line_ends [] h = tt
line_ends (b ∷ rest) h = newline_ends b h

pub gap_comment : (bytes rest front behind text : List ℕ) (mark : ℕ) → GapSoFar bytes rest → rest ≡ mark ∷ text → mark ≡ 35 → SplitsBehind InLine text front behind → GapSoFar bytes behind
gap_comment bytes rest front behind text mark r e m s =
    let P : List ℕ → Type 0 = λ z. GapSoFar bytes z in
    let w : rest ≡ 35 ∷ front ++ behind = e ∙ ap (λ (z : ℕ). z ∷ text) m ∙ ap (λ (z : List ℕ). 35 ∷ z) s.whole in
    gap_more bytes behind (comment front) (subst P w r) (s.within, line_ends behind s.outside, tt)

-- a byte that is no blank and no `#` begins a command
command_begins : (byte : ℕ) → not (is_in Blank byte) ≡ true → byte ≢ 35 → not (ends_word byte) ≡ true
command_begins byte h n = grind (arith, nat_tests)

pub gap_done : (bytes rest behind : List ℕ) (mark : ℕ) → GapSoFar bytes rest → IsAtEndOr (λ byte. not (is_in Blank byte)) rest → rest ≡ mark ∷ behind → mark ≢ 35 → TakesGap bytes rest
gap_done bytes rest behind mark r o e n =
    let P : List ℕ → Type 0 = λ z. IsAtEndOr (λ byte. not (is_in Blank byte)) z in
    let Q : List ℕ → Type 0 = λ z. IsAtEndOr (λ byte. not (ends_word byte)) z in
    record {
      gap = gap_text r.fillers;
      whole = r.whole;
      is = record { fillers = r.fillers; whole = refl; each = r.each; next = subst Q (sym e) (command_begins mark (subst P e o) n) };
    }

pub gap_ends : (bytes rest : List ℕ) → GapSoFar bytes rest → rest ≡ [] → TakesGap bytes rest
gap_ends bytes rest r e =
    let Q : List ℕ → Type 0 = λ z. IsAtEndOr (λ byte. not (ends_word byte)) z in
    record {
      gap = gap_text r.fillers;
      whole = r.whole;
      is = record { fillers = r.fillers; whole = refl; each = r.each; next = subst Q (sym e) tt };
    }
