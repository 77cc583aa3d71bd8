-- Lengths of 1 to 19 digits, as std reads them.
use Rattle.std.proofs.Common.{ℕ, ◌≡◌, ◌≤◌, ◌<◌, Bool, true, false, List, [], ◌∷◌, length, Some, None, Result, Ok, refl, sym, ◌∙◌, ap, arith}
use Rattle.std.specs.Prelude.{nat_lt, if◌then◌else◌, ◌==◌}
use Rattle.std.specs.List.{list_all}
use Rattle.std.specs.Char.{is_ascii_digit}
use Rattle.std.specs.Str.{all_ascii_digits, IsUtf8}
use Rattle.std.proofs.lemmas.Str.{IsUtf8-from_ascii}
use Rattle.std.specs.Str.Parse.{digits_value, ParsesUnsigned}
use Rattle.std.proofs.lemmas.Bool.{eqb-false, ltb-false}
use Rattle.std.proofs.lemmas.Result.{OkIff-at_ok}
use Rattle.std.proofs.lemmas.Fmt.{IsAscii-from_digits}
use Rattle.std.proofs.lemmas.Str.Parse.{IsDigitsTest, IsNumeralModel, numerals_by_value, tells_all_ascii_digits, parse_gives, parse_digits, digits_value_short}
use Rattle.http_requests.specs.Fields.{is_length, length_of}

all_same : (ds : List ℕ) → list_all is_ascii_digit ds ≡ all_ascii_digits ds
all_same [] = refl
all_same (c ∷ cs) = rw (all_same cs) refl

tells : IsDigitsTest (λ ds. list_all is_ascii_digit ds ≡ true)
tells = record {
  empty = refl;
  parts = λ c cs e. let k = tells_all_ascii_digits.parts c cs (sym (all_same (c ∷ cs)) ∙ e) in (k.0, all_same cs ∙ k.1);
  more = λ c cs k e. all_same (c ∷ cs) ∙ tells_all_ascii_digits.more c cs k (sym (all_same cs) ∙ e);
}

own : IsNumeralModel (λ ds. list_all is_ascii_digit ds ≡ true) (digits_value 10)
own = numerals_by_value (λ ds. list_all is_ascii_digit ds ≡ true) tells

if_not : (b digits : Bool) → (if b then false else digits) ≡ true → (b ≡ false) × (digits ≡ true)
if_not true digits h = absurd cc
if_not false digits h = (refl, h)

parts_of : (text : List ℕ) → is_length text ≡ true → ((length text == 0) ≡ false) × (nat_lt 19 (length text) ≡ false) × (list_all is_ascii_digit text ≡ true)
parts_of text is =
    let some = if_not (length text == 0) _ is in
    let few = if_not (nat_lt 19 (length text)) _ some.1 in
    (some.0, few.0, few.1)

pub length_is_utf8 : (text : List ℕ) → is_length text ≡ true → IsUtf8 text
length_is_utf8 text is = IsUtf8-from_ascii text (IsAscii-from_digits text (own.to text (parts_of text is).2))

-- std reads such a text
pub reads : {E : Type 0} (text : List ℕ) (r : Result ℕ E) → is_length text ≡ true → ParsesUnsigned 64 10 text r → r ≡ Ok (digits_value 10 text)
reads text r is parses =
    let parts = parts_of text is in
    let some : length text ≡ 0 → ⊥ = eqb-false (length text) 0 parts.0 in
    let few : length text ≤ 19 = ltb-false 19 (length text) parts.1 in
    parse_gives own 64 text r parses parts.2 (omega arith) (omega (arith, digits_value_short own text 19 parts.2 few))

-- and what it reads is the length
pub length_is : {E : Type 0} (text : List ℕ) (r : Result ℕ E) (n : ℕ) → is_length text ≡ true → ParsesUnsigned 64 10 text r → r ≡ Ok n → Some n ≡ length_of text
length_is text r n is parses read =
    let value = OkIff-at_ok r _ _ n (parse_digits own 64 text r parses (parts_of text is).2) read in
    rw is (ap Some value.1)
