-- one number more or less in a set of marks
use Rattle.std.proofs.Common.{arith, ℕ, ◌+◌, ◌*◌, ◌/◌, ◌%◌, ◌^◌, ◌<◌, ◌≤◌, ◌≡◌, ◌≢◌, List, length, slice_index, slice_set, bit_and, bit_or, w64, inl, inr, get_or-set_same, get_or-set_other, ap, ◌∙◌}
use Rattle.std.specs.Int.{bit_at, bit_not, trailing_zeros}
use Rattle.std.proofs.lemmas.Bool.{cases_eq, cases_lt}
use Rattle.std.proofs.lemmas.Nat.Bits.{bit_at-zero, bit_at-trailing_zeros, bit_at_set_same, bit_at_set_other, bit_at_clear_same, bit_at_clear_other}
use Rattle.use_counts.specs.Marked.{mark}
use Rattle.use_counts.specs.MarksInside.{IsNarrow}

mark-set_same : (words : List ℕ) (n word : ℕ) → n < 64 * length words → mark (slice_set words (n / 64) word) n ≡ bit_at word (n % 64)
mark-set_same words n word within = ap (λ w. bit_at w (n % 64)) (get_or-set_same words (n / 64) word 0 (omega arith))

mark-set_other : (words : List ℕ) (n word : ℕ) → n < 64 * length words → ((i : ℕ) → i < 64 → i ≢ n % 64 → bit_at word i ≡ bit_at (slice_index words (n / 64)) i) → (m : ℕ) → m ≢ n → mark (slice_set words (n / 64) word) m ≡ mark words m
mark-set_other words n word within kept m differs =
    elim (cases_eq (m / 64) (n / 64)) [
      | inl same ↦ rw (same, get_or-set_same words (n / 64) word 0 (omega arith)) (kept (m % 64) (omega arith) (λ index. differs (omega arith)))
      | inr apart ↦ ap (λ w. bit_at w (m % 64)) (get_or-set_other words (n / 64) (m / 64) word 0 apart)
    ]

abbrev pub with_bit : ℕ → ℕ → ℕ
with_bit word n = bit_or word (1 * 2 ^ (n % 64) % 2 ^ 64)

abbrev pub without_bit : ℕ → ℕ → ℕ
without_bit word n = bit_and word (bit_not w64 (1 * 2 ^ (n % 64) % 2 ^ 64))

pub inserted : (words : List ℕ) (n word : ℕ) → n < 64 * length words → mark (slice_set words (n / 64) (with_bit word n)) n ≡ 1
inserted words n word within = mark-set_same words n (with_bit word n) within ∙ bit_at_set_same w64 word (n % 64) (omega arith)

pub inserted_other : (words : List ℕ) (n word : ℕ) → n < 64 * length words → word ≡ slice_index words (n / 64) → (m : ℕ) → m ≢ n → mark (slice_set words (n / 64) (with_bit word n)) m ≡ mark words m
inserted_other words n word within is = mark-set_other words n (with_bit word n) within (λ i below differs. bit_at_set_other w64 word (n % 64) (omega arith) i differs ∙ ap (λ w. bit_at w i) is)

pub removed : (words : List ℕ) (n word : ℕ) → n < 64 * length words → mark (slice_set words (n / 64) (without_bit word n)) n ≡ 0
removed words n word within = mark-set_same words n (without_bit word n) within ∙ bit_at_clear_same w64 word (n % 64) (omega arith)

pub removed_other : (words : List ℕ) (n word : ℕ) → n < 64 * length words → word ≡ slice_index words (n / 64) → (m : ℕ) → m ≢ n → mark (slice_set words (n / 64) (without_bit word n)) m ≡ mark words m
removed_other words n word within is = mark-set_other words n (without_bit word n) within (λ i below differs. bit_at_clear_other w64 word (n % 64) (omega arith) i below differs ∙ ap (λ w. bit_at w i) is)

pub none_in_zero : (words : List ℕ) (m : ℕ) → slice_index words (m / 64) ≡ 0 → mark words m ≡ 0
none_in_zero words m is = ap (λ w. bit_at w (m % 64)) is ∙ bit_at-zero (m % 64)

-- the lowest bit of the first word that has one
pub lowest : (words : List ℕ) (w word : ℕ) → word ≡ slice_index words w → 0 < word → word < 2 ^ 64 → mark words (w * 64 + trailing_zeros w64 word) ≡ 1
lowest words w word is some fits =
    let t = bit_at-trailing_zeros w64 word some fits in
    let place : (w * 64 + trailing_zeros w64 word) / 64 ≡ w = omega (arith, t.0) in
    let index : (w * 64 + trailing_zeros w64 word) % 64 ≡ trailing_zeros w64 word = omega (arith, t.0) in
    rw (place, index, ← is) t.1

pub none_below : (words : List ℕ) (w word high m : ℕ) → IsNarrow words w high → word ≡ slice_index words w → 0 < word → word < 2 ^ 64 → m < w * 64 + trailing_zeros w64 word → mark words m ≡ 0
none_below words w word high m narrow is some fits before =
    elim (cases_lt (m / 64) w) [
      | inl lower ↦ none_in_zero words m (narrow.below (m / 64) lower)
      | inr here ↦
          let t = bit_at-trailing_zeros w64 word some fits in
          let same : m / 64 ≡ w = omega (arith, t.0) in
          rw (same, ← is) (t.2 (m % 64) (omega arith))
    ]

pub tail_fits : (words : List ℕ) (w word high : ℕ) → IsNarrow words w high → w < high → 64 * length words < 2 ^ 64 → 0 < word → word < 2 ^ 64 → w * 64 + trailing_zeros w64 word < 2 ^ 64
tail_fits words w word high narrow h small some fits = omega (arith, narrow.within, (bit_at-trailing_zeros w64 word some fits).0)

pub none_anywhere : (words : List ℕ) (low high m : ℕ) → IsNarrow words low high → high ≤ low → mark words m ≡ 0
none_anywhere words low high m narrow empty =
    elim (cases_lt (m / 64) low) [
      | inl lower ↦ none_in_zero words m (narrow.below (m / 64) lower)
      | inr here ↦ none_in_zero words m (narrow.above (m / 64) (omega arith))
    ]
