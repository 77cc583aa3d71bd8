-- Zeros in front of a number change nothing.
use Rattle.std.proofs.Common.{arith, ℕ, ◌≡◌, ◌<◌, ◌≤◌, ◌+◌, ◌*◌, ◌-◌, ◌^◌, zero, suc, List, ◌∷◌, ◌++◌, length, subst, lit≤}
use Rattle.std.specs.Prelude.{false, replicate}
use Rattle.std.specs.Char.{digit_value}
use Rattle.std.specs.Fmt.{digits}
use Rattle.std.specs.Str.Parse.{digits_value_after}
use Rattle.std.proofs.lemmas.Fmt.{digits_is_IsNumeral}
use Rattle.plane_words.specs.Numeral.{zero_digit, SpellsNumber, hex}

pub zero_in_front : (base number : ℕ) (text : List ℕ) → 2 ≤ base → SpellsNumber base text number → SpellsNumber base (zero_digit ∷ text) number
zero_in_front base number text wide spelled =
    let nothing : 0 ≡ 0 * base + digit_value zero_digit = omega arith in
    record {
      digits = (omega arith, (omega arith, spelled.digits.1));
      value = subst (λ before. digits_value_after base before text ≡ number) nothing spelled.value;
    }

zeros : (base number : ℕ) (text : List ℕ) → 2 ≤ base → (count : ℕ) → SpellsNumber base text number → SpellsNumber base (replicate count zero_digit ++ text) number
zeros base number text wide zero spelled = spelled
zeros base number text wide (suc count) spelled = zero_in_front base number (replicate count zero_digit ++ text) wide (zeros base number text wide count spelled)

pub hex_spelled : (width number : ℕ) → number < 16 ^ 64 → SpellsNumber 16 (hex width number) number
hex_spelled width number small =
    let found = digits_is_IsNumeral 16 false (lit≤ tt) (lit≤ tt) number small in
    zeros 16 number (digits 16 false number) (lit≤ tt) (width - length (digits 16 false number)) (record { digits = found.0; value = found.1 })
