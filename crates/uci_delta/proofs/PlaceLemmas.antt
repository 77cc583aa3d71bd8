-- The place that digits write.
use Rattle.std.proofs.Common.{ℕ, ◌≡◌, ◌≢◌, ◌<◌, ◌^◌, Bool, true, false, not, ◌&&◌, cond, nat_eq, nat_lt, List, [], ◌∷◌, length, get_or, Option, Some, None, Result, Ok, Err, refl, sym, ap, subst, ◌∙◌, arith}
use Rattle.std.specs.List.{list_all, starts_with}
use Rattle.std.specs.Char.{digit_value}
use Rattle.std.specs.Str.{IsUtf8}
use Rattle.std.specs.Str.Parse.{AllDigits, digits_value, ParsesUnsigned}
use Rattle.std.proofs.lemmas.Bool.Decides.{nat_tests}
use Rattle.std.proofs.lemmas.Fmt.{IsAscii-from_digits}
use Rattle.std.proofs.lemmas.Str.{IsUtf8-from_ascii}
use Rattle.std.proofs.lemmas.Result.{OkIff-at_ok, OkIff-at_err}
use Rattle.std.proofs.lemmas.Str.Parse.{numerals_by_value, tells_digits, parse_plain, IsNumeralModel}
use Rattle.uci_tree.proofs.PathLemmas.{no_plus}
use Rattle.uci_delta.specs.Place.{are_digits, place_of}
use Rattle.uci_delta.proofs.NameLemmas.{both, first_true, second_true, not_empty, some_from}

own : IsNumeralModel (AllDigits 10) (digits_value 10)
own = numerals_by_value (AllDigits 10) tells_digits

digit_passes : (b : ℕ) → digit_value b < 10 → nat_lt (digit_value b) 10 ≡ true
digit_passes b h = grind (arith, nat_tests)

digit_from : (b : ℕ) → nat_lt (digit_value b) 10 ≡ true → digit_value b < 10
digit_from b h = grind (arith, nat_tests)

small_passes : (n : ℕ) → n < 2 ^ 32 → nat_lt n (2 ^ 32) ≡ true
small_passes n h = grind (arith, nat_tests)

small_from : (n : ℕ) → nat_lt n (2 ^ 32) ≡ true → n < 2 ^ 32
small_from n h = grind (arith, nat_tests)

digits_pass : (text : List ℕ) → AllDigits 10 text → list_all (λ byte. nat_lt (digit_value byte) 10) text ≡ true
digits_pass [] h = refl
digits_pass (b ∷ text) h = both (nat_lt (digit_value b) 10) (list_all (λ byte. nat_lt (digit_value byte) 10) text) (digit_passes b h.0) (digits_pass text h.1)

digits_from : (text : List ℕ) → list_all (λ byte. nat_lt (digit_value byte) 10) text ≡ true → AllDigits 10 text
digits_from [] e = tt
digits_from (b ∷ text) e = (
  digit_from b (first_true (nat_lt (digit_value b) 10) (list_all (λ byte. nat_lt (digit_value byte) 10) text) e),
  digits_from text (second_true (nat_lt (digit_value b) 10) (list_all (λ byte. nat_lt (digit_value byte) 10) text) e),
)

-- digits of a number of 32 bits
abbrev pub IsPlace : List ℕ → Type 0
IsPlace text = AllDigits 10 text × (0 < length text) × (digits_value 10 text < 2 ^ 32)

abbrev tests : List ℕ → Bool
tests text = are_digits text && nat_lt (digits_value 10 text) (2 ^ 32)

place_passes : (text : List ℕ) → IsPlace text → tests text ≡ true
place_passes text h =
    both (are_digits text) (nat_lt (digits_value 10 text) (2 ^ 32))
    (both (not (nat_eq (length text) 0)) (list_all (λ byte. nat_lt (digit_value byte) 10) text) (not_empty text h.1) (digits_pass text h.0))
    (small_passes (digits_value 10 text) h.2)

place_from : (text : List ℕ) → tests text ≡ true → IsPlace text
place_from text e =
    let d : are_digits text ≡ true = first_true (are_digits text) (nat_lt (digits_value 10 text) (2 ^ 32)) e in (
      digits_from text (second_true (not (nat_eq (length text) 0)) (list_all (λ byte. nat_lt (digit_value byte) 10) text) d),
      some_from text (first_true (not (nat_eq (length text) 0)) (list_all (λ byte. nat_lt (digit_value byte) 10) text) d),
      small_from (digits_value 10 text) (second_true (are_digits text) (nat_lt (digits_value 10 text) (2 ^ 32)) e),
    )

pub no_place : (text : List ℕ) → (IsPlace text → ⊥) → ◌≡◌ {A = Option ℕ} None (place_of text)
no_place text n = go (tests text) refl
  where
    go : (t : Bool) → tests text ≡ t → ◌≡◌ {A = Option ℕ} None (cond {A = Option ℕ} t (Some (digits_value 10 text)) None)
    go true e = absurd (n (place_from text e))
    go false e = refl

pub some_place : (text : List ℕ) (n : ℕ) → IsPlace text → n ≡ digits_value 10 text → Some n ≡ place_of text
some_place text n h e = ap Some e ∙ ap (λ (t : Bool). cond {A = Option ℕ} t (Some (digits_value 10 text)) None) (sym (place_passes text h))

pub not_text : (text : List ℕ) → (IsUtf8 text → ⊥) → ◌≡◌ {A = Option ℕ} None (place_of text)
not_text text n = no_place text (λ h. n (IsUtf8-from_ascii text (IsAscii-from_digits text h.0)))

pub plus_place : (text : List ℕ) (r : Bool) → r ≡ starts_with nat_eq text (43 ∷ []) → r ≡ true → ◌≡◌ {A = Option ℕ} None (place_of text)
plus_place [] r e t = no_place [] (λ h. absurd (omega (arith, h.1)))
plus_place (c ∷ text) r e t = no_place (c ∷ text) (λ h. plus_digit c text r e t h.0.0)
  where
    plus_digit : (c : ℕ) (text : List ℕ) (r : Bool) → r ≡ starts_with nat_eq (c ∷ text) (43 ∷ []) → r ≡ true → digit_value c < 10 → ⊥
    plus_digit c text r e t h = go (nat_eq 43 c) refl (sym e ∙ t)
      where
        go : (b : Bool) → nat_eq 43 c ≡ b → (b && true) ≡ true → ⊥
        go true s u =
            let w : c ≡ 43 = grind (arith, nat_tests) in
            let P : ℕ → Type 0 = λ z. digit_value z < 10 in
            let x : digit_value 43 < 10 = subst P w h in
            absurd (omega (arith, x))
        go false s u = absurd (let f : false ≡ true = u in cc)

pub parsed_place : {E : Type 0} (digits text : List ℕ) (r : Result ℕ E) (n : ℕ) (b : Bool) → text ≡ digits → ParsesUnsigned 32 10 text r → b ≡ starts_with nat_eq digits (43 ∷ []) → b ≡ false → r ≡ Ok n → Some n ≡ place_of digits
parsed_place digits text r n b same p s f o =
    let plus : get_or text 0 0 ≢ 43 = no_plus text b (s ∙ ap (λ (z : List ℕ). starts_with nat_eq z (43 ∷ [])) (sym same)) f in
    let g = OkIff-at_ok r _ _ n (parse_plain own 32 text r p plus) o in
    let P : List ℕ → Type 0 = λ z. Some n ≡ place_of z in
    subst P same (some_place text n g.0 g.1)

pub unparsed_place : {E : Type 0} (digits text : List ℕ) (r : Result ℕ E) (error : E) (b : Bool) → text ≡ digits → ParsesUnsigned 32 10 text r → b ≡ starts_with nat_eq digits (43 ∷ []) → b ≡ false → r ≡ Err error
    → ◌≡◌ {A = Option ℕ} None (place_of digits)
unparsed_place digits text r error b same p s f o =
    let plus : get_or text 0 0 ≢ 43 = no_plus text b (s ∙ ap (λ (z : List ℕ). starts_with nat_eq z (43 ∷ [])) (sym same)) f in
    let g = OkIff-at_err r _ _ error (parse_plain own 32 text r p plus) o in
    let P : List ℕ → Type 0 = λ z. ◌≡◌ {A = Option ℕ} None (place_of z) in
    subst P same (no_place text g)

pub place_found : (bytes digits : List ℕ) (result answer : Option ℕ) → result ≡ place_of bytes → bytes ≡ digits → result ≡ answer → place_of digits ≡ answer
place_found bytes digits result answer h b e = ap place_of (sym b) ∙ sym h ∙ e
