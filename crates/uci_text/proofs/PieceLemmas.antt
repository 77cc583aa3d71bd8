-- Pieces: what stands between double quotes, and open pieces.
use Rattle.std.proofs.Common.{ℕ, ◌≡◌, ◌≢◌, ◌<◌, ◌+◌, List, [], ◌∷◌, ◌++◌, length, true, false, not, arith, sym, refl, subst, ap, ◌∙◌, append_assoc}
use Rattle.std.specs.List.{AllByRecursion, flat_map}
use Rattle.std.proofs.lemmas.List.{append-nil}
use Rattle.std.proofs.lemmas.List.Concat.{flat_map-append}
use Rattle.std.proofs.lemmas.Bool.Decides.{nat_tests}
use Rattle.uci_text.specs.declared.stop.Stop.{Stop}
use Rattle.uci_text.specs.declared.stop.Stop.TheVariants.{Quote}
use Rattle.uci_text.specs.declared.byte_class.ByteClass.TheVariants.{Quotable, DoubleQuotable, Plain}
use Rattle.uci_text.specs.ByteClass.{is_in, IsAtEndOr, SplitsBehind, ends_word}
use Rattle.uci_text.specs.Piece.{Inner, kept, pair, inner_text, inner_value, IsInner, plain, escaped, single, double, escaped_value}
use Rattle.uci_text.specs.Open.{open_single, open_double, open_pair}
use Rattle.uci_text.specs.Found.{BeginsOutside, TakesPiece, IsOpenPiece}
use Rattle.uci_text.proofs.ClassLemmas.{each-append}

-- the parts so far between double quotes, and what they give
pub record DoubleSoFar (inside rest old new : List ℕ) : Type 0 where
  pub inner : List Inner
  pub whole : inside ≡ flat_map inner_text inner ++ rest
  pub each : AllByRecursion IsInner inner
  pub value : new ≡ old ++ flat_map inner_value inner

pub double_none : (inside old : List ℕ) → DoubleSoFar inside inside old old
double_none inside old = record { inner = []; whole = refl; each = tt; value = sym (append-nil old) }

pub double_more : (inside rest old new : List ℕ) (part : Inner) → DoubleSoFar inside (inner_text part ++ rest) old new → IsInner part → DoubleSoFar inside rest old (new ++ inner_value part)
double_more inside rest old new part r is =
    let texts : flat_map inner_text (r.inner ++ part ∷ []) ≡ flat_map inner_text r.inner ++ (inner_text part ++ []) = flat_map-append inner_text r.inner (part ∷ []) in
    let values : flat_map inner_value (r.inner ++ part ∷ []) ≡ flat_map inner_value r.inner ++ (inner_value part ++ []) = flat_map-append inner_value r.inner (part ∷ []) in
    record {
      inner = r.inner ++ part ∷ [];
      whole = r.whole ∙ rw texts (simp (append_assoc, append-nil));
      each = each-append IsInner r.inner (part ∷ []) r.each (is, tt);
      value = rw values (rw (r.value) (simp (append_assoc, append-nil)));
    }

pub double_run : (inside rest bytes behind old new grown : List ℕ) → DoubleSoFar inside rest old new → SplitsBehind DoubleQuotable rest bytes behind → grown ≡ new ++ bytes → DoubleSoFar inside behind old grown
double_run inside rest bytes behind old new grown r s e =
    let P : List ℕ → Type 0 = λ z. DoubleSoFar inside z old new in
    let Q : List ℕ → Type 0 = λ z. DoubleSoFar inside behind old z in
    subst Q (sym e) (double_more inside behind old new (kept bytes) (subst P s.whole r) s.within)

-- a byte that is neither in a run between double quotes nor a double quote is a backslash
is_backslash : (byte : ℕ) → not (is_in DoubleQuotable byte) ≡ true → byte ≢ 34 → byte ≡ 92
is_backslash byte o n = grind (arith, nat_tests)

backslash_at : (rest after : List ℕ) (mark : ℕ) → IsAtEndOr (λ b. not (is_in DoubleQuotable b)) rest → rest ≡ mark ∷ after → mark ≢ 34 → rest ≡ 92 ∷ after
backslash_at rest after mark o e n =
    let P : List ℕ → Type 0 = λ z. IsAtEndOr (λ b. not (is_in DoubleQuotable b)) z in
    e ∙ ap (λ (b : ℕ). b ∷ after) (is_backslash mark (subst P e o) n)

pub double_pair : (inside rest after next old new grown : List ℕ) (mark byte : ℕ) → DoubleSoFar inside rest old new → IsAtEndOr (λ b. not (is_in DoubleQuotable b)) rest → rest ≡ mark ∷ after → mark ≢ 34 → after ≡ byte ∷ next → grown ≡ new
    ++ escaped_value byte → DoubleSoFar inside next old grown
double_pair inside rest after next old new grown mark byte r o e n f g =
    let P : List ℕ → Type 0 = λ z. DoubleSoFar inside z old new in
    let Q : List ℕ → Type 0 = λ z. DoubleSoFar inside next old z in
    let w : rest ≡ 92 ∷ byte ∷ next = backslash_at rest after mark o e n ∙ ap (λ (z : List ℕ). 92 ∷ z) f in
    subst Q (sym g) (double_more inside next old new (pair byte) (subst P w r) tt)

pub double_closes : (inside rest after old new : List ℕ) (mark : ℕ) → DoubleSoFar inside rest old new → rest ≡ mark ∷ after → mark ≡ 34 → TakesPiece (34 ∷ inside) old new after
double_closes inside rest after old new mark r e m =
    let w : rest ≡ 34 ∷ after = e ∙ ap (λ (b : ℕ). b ∷ after) m in
    record {
      piece = double r.inner;
      whole = ap (λ (z : List ℕ). 34 ∷ z) (r.whole ∙ ap (λ (z : List ℕ). flat_map inner_text r.inner ++ z) w ∙ sym (append_assoc (flat_map inner_text r.inner) (34 ∷ []) after));
      is = r.each;
      value = r.value;
    }

pub double_open : (inside rest old new : List ℕ) (left : ℕ) → DoubleSoFar inside rest old new → rest ≡ [] → left ≡ length inside + 1 → IsOpenPiece (34 ∷ inside) (Quote left)
double_open inside rest old new left r e l =
    let w : inside ≡ flat_map inner_text r.inner = r.whole ∙ ap (λ (z : List ℕ). flat_map inner_text r.inner ++ z) e ∙ append-nil (flat_map inner_text r.inner) in
    let s : length inside ≡ length (flat_map inner_text r.inner) = ap length w in
    let n : left ≡ length (34 ∷ flat_map inner_text r.inner) = omega arith in
    record { open_piece = open_double r.inner; whole = ap (λ (z : List ℕ). 34 ∷ z) w; is = r.each; stop_is = ap Quote n }

pub double_open_pair : (inside rest after old new : List ℕ) (left mark : ℕ) → DoubleSoFar inside rest old new → IsAtEndOr (λ b. not (is_in DoubleQuotable b)) rest → rest ≡ mark ∷ after → mark ≢ 34 → after ≡ [] → left ≡ length inside + 1
    → IsOpenPiece (34 ∷ inside) (Quote left)
double_open_pair inside rest after old new left mark r o e n f l =
    let b : rest ≡ 92 ∷ [] = backslash_at rest after mark o e n ∙ ap (λ (z : List ℕ). 92 ∷ z) f in
    let w : inside ≡ flat_map inner_text r.inner ++ 92 ∷ [] = r.whole ∙ ap (λ (z : List ℕ). flat_map inner_text r.inner ++ z) b in
    let s : length inside ≡ length (flat_map inner_text r.inner ++ 92 ∷ []) = ap length w in
    let n : left ≡ length (34 ∷ flat_map inner_text r.inner ++ 92 ∷ []) = omega arith in
    record { open_piece = open_pair r.inner; whole = ap (λ (z : List ℕ). 34 ∷ z) w; is = r.each; stop_is = ap Quote n }

pub is_single : (byte : ℕ) → not (is_in Quotable byte) ≡ true → byte ≡ 39
is_single byte o = grind (arith, nat_tests)

pub single_takes : (inside bytes behind rest old new : List ℕ) (byte : ℕ) → SplitsBehind Quotable inside bytes behind → behind ≡ byte ∷ rest → new ≡ old ++ bytes → TakesPiece (39 ∷ inside) old new rest
single_takes inside bytes behind rest old new byte s e v =
    let P : List ℕ → Type 0 = λ z. IsAtEndOr (λ b. not (is_in Quotable b)) z in
    let q : byte ≡ 39 = is_single byte (subst P e s.outside) in
    let f : behind ≡ 39 ∷ rest = e ∙ ap (λ (b : ℕ). b ∷ rest) q in
    record {
      piece = single bytes;
      whole = ap (λ (z : List ℕ). 39 ∷ z) (s.whole ∙ ap (λ (z : List ℕ). bytes ++ z) f ∙ sym (append_assoc bytes (39 ∷ []) rest));
      is = s.within;
      value = v;
    }

pub single_open : (inside bytes behind : List ℕ) (left : ℕ) → SplitsBehind Quotable inside bytes behind → behind ≡ [] → left ≡ length inside + 1 → IsOpenPiece (39 ∷ inside) (Quote left)
single_open inside bytes behind left s e l =
    let w : inside ≡ bytes = s.whole ∙ ap (λ (z : List ℕ). bytes ++ z) e ∙ append-nil bytes in
    let size : length inside ≡ length bytes = ap length w in
    let n : left ≡ length (39 ∷ bytes) = omega arith in
    record { open_piece = open_single bytes; whole = ap (λ (z : List ℕ). 39 ∷ z) w; is = s.within; stop_is = ap Quote n }

-- a byte that ends no word and is no quote and no backslash is plain
pub plain_begins : (byte : ℕ) → ends_word byte ≡ false → byte ≢ 39 → byte ≢ 34 → byte ≢ 92 → is_in Plain byte ≡ true
plain_begins byte e s d b = grind (arith, nat_tests)

-- an error is told as it is
pub stopped : (bytes : List ℕ) (stop other : Stop) → IsOpenPiece bytes stop → stop ≡ other → IsOpenPiece bytes other
stopped bytes stop other o e =
    let P : Stop → Type 0 = λ z. IsOpenPiece bytes z in
    subst P e o

pub escaped_takes : (inside rest old new : List ℕ) (byte : ℕ) → inside ≡ byte ∷ rest → new ≡ old ++ escaped_value byte → TakesPiece (92 ∷ inside) old new rest
escaped_takes inside rest old new byte e v = record { piece = escaped byte; whole = ap (λ (z : List ℕ). 92 ∷ z) e; is = tt; value = v }

plain_run : (bytes run rest inside : List ℕ) (mark : ℕ) → SplitsBehind Plain bytes run rest → bytes ≡ mark ∷ inside → is_in Plain mark ≡ true → 0 < length run
plain_run bytes [] rest inside mark s e p =
    let P : List ℕ → Type 0 = λ z. IsAtEndOr (λ b. not (is_in Plain b)) z in
    let o : not (is_in Plain mark) ≡ true = subst P (sym s.whole ∙ e) s.outside in
    let n : not true ≡ true = ap not (sym p) ∙ o in
    absurd (let x : false ≡ true = n in cc)
plain_run bytes (b ∷ run) rest inside mark s e p = omega arith

pub plain_takes : (bytes run rest inside old new : List ℕ) (mark : ℕ) → SplitsBehind Plain bytes run rest → bytes ≡ mark ∷ inside → BeginsOutside ends_word bytes → mark ≢ 39 → mark ≢ 34 → mark ≢ 92 → new ≡ old ++ run
    → TakesPiece bytes old new rest
plain_takes bytes run rest inside old new mark s e b x y z v =
    let P : List ℕ → Type 0 = λ w. BeginsOutside ends_word w in
    let p : is_in Plain mark ≡ true = plain_begins mark (subst P e b) x y z in
    record { piece = plain run; whole = s.whole; is = (plain_run bytes run rest inside mark s e p, s.within); value = v }
