-- Decimals as std reads them.
use Rattle.std.proofs.Common.{ℕ, ◌≡◌, ◌<◌, Bool, true, false, List, [], ◌∷◌, length, Some, None, Result, Ok, refl, sym, ◌∙◌, ap, arith, ◌⊎◌, inl, inr}
use Rattle.std.specs.Prelude.{nat_lt, if◌then◌else◌, ◌==◌}
use Rattle.std.specs.List.{list_all}
use Rattle.std.specs.Char.{is_ascii_digit}
use Rattle.std.specs.Str.{all_ascii_digits, IsUtf8}
use Rattle.std.proofs.lemmas.Str.{IsUtf8-from_ascii}
use Rattle.std.specs.Str.Parse.{digits_value, ParsesUnsigned}
use Rattle.std.proofs.lemmas.Bool.{eqb-false, ltb-true, lt-ltb}
use Rattle.std.proofs.lemmas.Result.{OkIff-at_ok}
use Rattle.std.proofs.lemmas.Fmt.{IsAscii-from_digits}
use Rattle.std.proofs.lemmas.Str.Parse.{IsDigitsTest, IsNumeralModel, numerals_by_value, tells_all_ascii_digits, parse_gives, parse_digits}
use Rattle.net_rows.specs.Number.{is_numeral, of_32_bits, decimal_of}

all_same : (ds : List ℕ) → list_all is_ascii_digit ds ≡ all_ascii_digits ds
all_same [] = refl
all_same (c ∷ cs) = rw (all_same cs) refl

tells : IsDigitsTest (λ ds. list_all is_ascii_digit ds ≡ true)
tells = record {
  empty = refl;
  parts = λ c cs e. let k = tells_all_ascii_digits.parts c cs (sym (all_same (c ∷ cs)) ∙ e) in (k.0, all_same cs ∙ k.1);
  more = λ c cs k e. all_same (c ∷ cs) ∙ tells_all_ascii_digits.more c cs k (sym (all_same cs) ∙ e);
}

own : IsNumeralModel (λ ds. list_all is_ascii_digit ds ≡ true) (digits_value 10)
own = numerals_by_value (λ ds. list_all is_ascii_digit ds ≡ true) tells

if_not : (b digits : Bool) → (if b then false else digits) ≡ true → (b ≡ false) × (digits ≡ true)
if_not true digits h = absurd cc
if_not false digits h = (refl, h)

digits_in : (text : List ℕ) → is_numeral text ≡ true → list_all is_ascii_digit text ≡ true
digits_in text numeral = (if_not (length text == 0) (list_all is_ascii_digit text) numeral).1

some_digit : (text : List ℕ) → is_numeral text ≡ true → 0 < length text
some_digit text numeral =
    let some : length text ≡ 0 → ⊥ = eqb-false (length text) 0 (if_not (length text == 0) (list_all is_ascii_digit text) numeral).0 in
    omega arith

pub numeral_is_utf8 : (text : List ℕ) → is_numeral text ≡ true → IsUtf8 text
numeral_is_utf8 text numeral = IsUtf8-from_ascii text (IsAscii-from_digits text (own.to text (digits_in text numeral)))

too_long : {E : Type 0} (text : List ℕ) (r : Result ℕ E) → is_numeral text ≡ true → ParsesUnsigned 32 10 text r → ((n : ℕ) → r ≡ Ok n → ⊥)
    → (nat_lt (digits_value 10 text) 4294967296 ≡ true) ⊎ (nat_lt (digits_value 10 text) 4294967296 ≡ false) → None ≡ of_32_bits (digits_value 10 text)
too_long text r numeral parses bad (inl fits) = absurd (bad (digits_value 10 text) (parse_gives own 32 text r parses (digits_in text numeral) (some_digit text numeral) (ltb-true (digits_value 10 text) 4294967296 fits)))
too_long text r numeral parses bad (inr long) = rw long refl

-- a numeral that std does not read has more than 32 bits
pub no_decimal : {E : Type 0} (text : List ℕ) (r : Result ℕ E) → is_numeral text ≡ true → ParsesUnsigned 32 10 text r → ((n : ℕ) → r ≡ Ok n → ⊥) → None ≡ decimal_of text
no_decimal text r numeral parses bad = rw numeral (too_long text r numeral parses bad (bool_cases (nat_lt (digits_value 10 text) 4294967296)))
  where
    bool_cases : (b : Bool) → (b ≡ true) ⊎ (b ≡ false)
    bool_cases true = inl refl
    bool_cases false = inr refl

-- and one that it reads is that number
pub decimal_is : {E : Type 0} (text : List ℕ) (r : Result ℕ E) (n : ℕ) → is_numeral text ≡ true → ParsesUnsigned 32 10 text r → r ≡ Ok n → Some n ≡ decimal_of text
decimal_is text r n numeral parses read =
    let is = OkIff-at_ok r _ _ n (parse_digits own 32 text r parses (digits_in text numeral)) read in
    rw (numeral, lt-ltb (digits_value 10 text) 4294967296 is.0.1) (ap Some is.1)
