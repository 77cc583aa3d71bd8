-- A text of at most 38 decimal digits is read by std.
use Rattle.std.proofs.Common.{ℕ, ℤ, pos, ◌≡◌, ◌==◌, ◌<◌, ◌^◌, ◌&&◌, Bool, true, false, List, [], ◌∷◌, length, Result, Ok, refl, sym, ◌∙◌, arith, ne_eqb}
use Rattle.std.specs.Prelude.{nat_le, if◌then◌else◌}
use Rattle.std.specs.List.{list_all}
use Rattle.std.specs.Char.{is_ascii_digit}
use Rattle.std.specs.Str.{all_ascii_digits}
use Rattle.std.specs.Str.Parse.{IsNumeral, AllDigits, digits_value, ParsesSigned}
use Rattle.std.proofs.lemmas.Bool.{eqb-false, leb-true}
use Rattle.std.proofs.lemmas.Result.{Ok-from_Ok_iff}
use Rattle.std.proofs.lemmas.Str.Parse.{IsNumeralModel, numerals_by_value, tells_digits, tells_all_ascii_digits, parse_signed_digits, digits_value_short}
use mir.Syntax.{w128}
use Rattle.net_rows.specs.Number.{is_numeral}
use Rattle.uci_types.specs.Number.{is_natural}

pub both : (a b : Bool) → (a && b) ≡ true → (a ≡ true) × (b ≡ true)
both true b h = (refl, h)
both false b h = absurd (let e : false ≡ true = h in cc)

all_same : (digits : List ℕ) → list_all is_ascii_digit digits ≡ all_ascii_digits digits
all_same [] = refl
all_same (c ∷ cs) = rw (all_same cs) refl

own : IsNumeralModel (λ digits. all_ascii_digits digits ≡ true) (digits_value 10)
own = numerals_by_value (λ digits. all_ascii_digits digits ≡ true) tells_all_ascii_digits

numerals : IsNumeralModel (AllDigits 10) (digits_value 10)
numerals = numerals_by_value (AllDigits 10) tells_digits

if_not : (b digits : Bool) → (if b then false else digits) ≡ true → (b ≡ false) × (digits ≡ true)
if_not true digits e = absurd cc
if_not false digits e = (refl, e)

-- a numeral by its test, and as std has it
pub numeral_is : (digits : List ℕ) → is_numeral digits ≡ true → IsNumeral 10 digits
numeral_is digits e =
    let parts = if_not (length digits == 0) (list_all is_ascii_digit digits) e in
    let some : length digits ≡ 0 → ⊥ = eqb-false (length digits) 0 parts.0 in
    (omega arith, own.to digits (sym (all_same digits) ∙ parts.1))

pub numeral_from : (digits : List ℕ) → IsNumeral 10 digits → is_numeral digits ≡ true
numeral_from [] h = absurd (omega (arith, h.0))
numeral_from (c ∷ cs) h = rw (ne_eqb (length (c ∷ cs)) 0 (omega arith)) (all_same (c ∷ cs) ∙ own.from (c ∷ cs) h.1)

-- such a text is read by `parse` at 128 bits with a sign
pub natural_is_read : {E : Type 0} (text : List ℕ) (r : Result ℤ E) → is_natural text ≡ true → ParsesSigned w128 10 text r → r ≡ Ok (pos (digits_value 10 text))
natural_is_read text r natural parses =
    let parts = both (is_numeral text) (nat_le (length text) 38) natural in
    let numeral = numeral_is text parts.0 in
    let short = digits_value_short numerals text 38 numeral.1 (leb-true (length text) 38 parts.1) in
    let fits : digits_value 10 text < 2 ^ 127 = omega (arith, short) in
    Ok-from_Ok_iff r _ _ (parse_signed_digits numerals w128 text r parses numeral.1) (numeral.0, fits)
