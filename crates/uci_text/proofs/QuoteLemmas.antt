-- A quoted value is a word that spells it.
use Rattle.std.proofs.Common.{ℕ, ◌≡◌, List, [], ◌∷◌, ◌++◌, Bool, true, false, not, cond, arith, sym, refl, subst, ap, ◌∙◌, append_assoc, nat_eq}
use Rattle.std.specs.List.{flat_map}
use Rattle.std.proofs.lemmas.List.{append-nil}
use Rattle.std.proofs.lemmas.Bool.Decides.{nat_tests}
use Rattle.uci_text.specs.declared.byte_class.ByteClass.TheVariants.{Quotable, NotZero}
use Rattle.uci_text.specs.ByteClass.{is_in, AllIn}
use Rattle.uci_text.specs.Piece.{single, escaped}
use Rattle.uci_text.specs.Word.{SpellsWord, word_text}
use Rattle.uci_text.specs.Quote.{quoted_byte, quoted}
use Rattle.uci_text.proofs.ClassLemmas.{all_in-append}

quote_byte : (b : ℕ) → nat_eq b 39 ≡ true → quoted_byte b ≡ 39 ∷ 92 ∷ 39 ∷ 39 ∷ []
quote_byte b e = ap (λ (t : Bool). cond t (39 ∷ 92 ∷ 39 ∷ 39 ∷ []) (b ∷ [])) e

other_byte : (b : ℕ) → nat_eq b 39 ≡ false → quoted_byte b ≡ b ∷ []
other_byte b e = ap (λ (t : Bool). cond t (39 ∷ 92 ∷ 39 ∷ 39 ∷ []) (b ∷ [])) e

is_quote : (b : ℕ) → nat_eq b 39 ≡ true → b ≡ 39
is_quote b e = grind (arith, nat_tests)

-- a single quote behind a run, and the rest of the value
quote_next : (b : ℕ) (value run : List ℕ) → AllIn Quotable run → nat_eq b 39 ≡ true → SpellsWord (39 ∷ (flat_map quoted_byte value ++ 39 ∷ [])) value
    → SpellsWord (39 ∷ run ++ ((quoted_byte b ++ flat_map quoted_byte value) ++ 39 ∷ [])) (run ++ b ∷ value)
quote_next b value run p e r = record {
  pieces = single run ∷ escaped 39 ∷ r.pieces;
  whole =
      ap (λ (z : List ℕ). 39 ∷ run ++ ((z ++ flat_map quoted_byte value) ++ 39 ∷ [])) (quote_byte b e)
      ∙ ap (λ (z : List ℕ). 39 ∷ run ++ 39 ∷ 92 ∷ 39 ∷ z) r.whole
      ∙ ap (λ (z : List ℕ). 39 ∷ z) (sym (append_assoc run (39 ∷ []) (92 ∷ 39 ∷ word_text r.pieces)));
  is = record { some = omega arith; each = (p, (tt, r.is.each)) };
  value_is = ap (λ (z : ℕ). run ++ z ∷ value) (is_quote b e) ∙ ap (λ (z : List ℕ). run ++ 39 ∷ z) r.value_is;
}

-- another byte goes on with the run
other_next : (b : ℕ) (value run : List ℕ) → nat_eq b 39 ≡ false → SpellsWord (39 ∷ (run ++ b ∷ []) ++ (flat_map quoted_byte value ++ 39 ∷ [])) ((run ++ b ∷ []) ++ value)
    → SpellsWord (39 ∷ run ++ ((quoted_byte b ++ flat_map quoted_byte value) ++ 39 ∷ [])) (run ++ b ∷ value)
other_next b value run e r = record {
  pieces = r.pieces;
  whole =
      ap (λ (z : List ℕ). 39 ∷ run ++ ((z ++ flat_map quoted_byte value) ++ 39 ∷ [])) (other_byte b e)
      ∙ ap (λ (z : List ℕ). 39 ∷ z) (sym (append_assoc run (b ∷ []) (flat_map quoted_byte value ++ 39 ∷ [])))
      ∙ r.whole;
  is = r.is;
  value_is = sym (append_assoc run (b ∷ []) value) ∙ r.value_is;
}

-- a run behind the opening quote, and the rest of the value
quoted_word : (value run : List ℕ) → AllIn Quotable run → SpellsWord (39 ∷ run ++ (flat_map quoted_byte value ++ 39 ∷ [])) (run ++ value)
quoted_word [] run p = record {
  pieces = single run ∷ [];
  whole = sym (append-nil (39 ∷ run ++ 39 ∷ []));
  is = record { some = omega arith; each = (p, tt) };
  value_is = refl;
}
quoted_word (b ∷ value) run p = go (nat_eq b 39) refl (quoted_word value [] tt) (λ q. quoted_word value (run ++ b ∷ []) q)
  where
    go : (t : Bool) → nat_eq b 39 ≡ t → SpellsWord (39 ∷ (flat_map quoted_byte value ++ 39 ∷ [])) value
        → (AllIn Quotable (run ++ b ∷ []) → SpellsWord (39 ∷ (run ++ b ∷ []) ++ (flat_map quoted_byte value ++ 39 ∷ [])) ((run ++ b ∷ []) ++ value))
        → SpellsWord (39 ∷ run ++ ((quoted_byte b ++ flat_map quoted_byte value) ++ 39 ∷ [])) (run ++ b ∷ value)
    go true e x y = quote_next b value run p e x
    go false e x y =
        let q : not (nat_eq b 39) ≡ true = ap not e in
        other_next b value run e (y (all_in-append Quotable run (b ∷ []) p (q, tt)))

pub quoted_spells : (value : List ℕ) → SpellsWord (quoted value) value
quoted_spells value = quoted_word value [] tt

byte_clean : (b : ℕ) → is_in NotZero b ≡ true → (t : Bool) → nat_eq b 39 ≡ t → AllIn NotZero (quoted_byte b)
byte_clean b h true e =
    let P : List ℕ → Type 0 = λ z. AllIn NotZero z in
    subst P (sym (quote_byte b e)) (refl, (refl, (refl, (refl, tt))))
byte_clean b h false e =
    let P : List ℕ → Type 0 = λ z. AllIn NotZero z in
    subst P (sym (other_byte b e)) (h, tt)

bytes_clean : (value : List ℕ) → AllIn NotZero value → AllIn NotZero (flat_map quoted_byte value)
bytes_clean [] h = tt
bytes_clean (b ∷ value) h = all_in-append NotZero (quoted_byte b) (flat_map quoted_byte value) (byte_clean b h.0 (nat_eq b 39) refl) (bytes_clean value h.1)

pub quoted_clean : (value : List ℕ) → AllIn NotZero value → AllIn NotZero (quoted value)
quoted_clean value h = (refl, all_in-append NotZero (flat_map quoted_byte value) (39 ∷ []) (bytes_clean value h) (refl, tt))
