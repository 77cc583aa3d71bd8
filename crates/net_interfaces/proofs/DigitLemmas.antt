-- Decimal digits by a test and as a numeral.
use Rattle.std.proofs.Common.{ℕ, ◌≡◌, ◌==◌, ◌∙◌, Bool, true, false, List, [], ◌∷◌, length, refl, sym, arith, ne_eqb}
use Rattle.std.specs.Prelude.{if◌then◌else◌}
use Rattle.std.specs.List.{list_all}
use Rattle.std.specs.Char.{is_ascii_digit}
use Rattle.std.specs.Str.{all_ascii_digits}
use Rattle.std.specs.Str.Parse.{IsNumeral, digits_value}
use Rattle.std.proofs.lemmas.Bool.{eqb-false}
use Rattle.std.proofs.lemmas.Str.Parse.{IsNumeralModel, numerals_by_value, tells_all_ascii_digits}
use Rattle.net_rows.specs.Number.{is_numeral}

all_same : (digits : List ℕ) → list_all is_ascii_digit digits ≡ all_ascii_digits digits
all_same [] = refl
all_same (c ∷ cs) = rw (all_same cs) refl

own : IsNumeralModel (λ digits. all_ascii_digits digits ≡ true) (digits_value 10)
own = numerals_by_value (λ digits. all_ascii_digits digits ≡ true) tells_all_ascii_digits

if_not : (b digits : Bool) → (if b then false else digits) ≡ true → (b ≡ false) × (digits ≡ true)
if_not true digits e = absurd cc
if_not false digits e = (refl, e)

pub numeral_is : (digits : List ℕ) → is_numeral digits ≡ true → IsNumeral 10 digits
numeral_is digits e =
    let parts = if_not (length digits == 0) (list_all is_ascii_digit digits) e in
    let some : length digits ≡ 0 → ⊥ = eqb-false (length digits) 0 parts.0 in
    (omega arith, own.to digits (sym (all_same digits) ∙ parts.1))

pub is_numeral_from : (digits : List ℕ) → IsNumeral 10 digits → is_numeral digits ≡ true
is_numeral_from [] h = absurd (omega (arith, h.0))
is_numeral_from (c ∷ cs) h = rw (ne_eqb (length (c ∷ cs)) 0 (omega arith)) (all_same (c ∷ cs) ∙ own.from (c ∷ cs) h.1)
