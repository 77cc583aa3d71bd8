-- One number more or less in a set of bits, and the least number in it from one on.
use Rattle.std.proofs.Common.{arith, ℕ, ◌+◌, ◌-◌, ◌*◌, ◌/◌, ◌%◌, ◌^◌, ◌<◌, ◌≤◌, ◌≡◌, ◌≢◌, List, [], ◌∷◌, ◌++◌, zero, suc, length, slice_index, slice_set, bit_and, bit_or, w64, inl, inr, Option, Some, None, IfSome, IfNone, true, false, refl}
use Rattle.std.proofs.Common.{get_or-set_same, get_or-set_other, ap, sym, ◌∙◌}
use Rattle.std.specs.Int.{bit_at, bit_not, trailing_zeros}
use Rattle.std.proofs.lemmas.Bool.{cases_eq, cases_lt}
use Rattle.std.proofs.lemmas.List.{get_or_past}
use Rattle.std.proofs.lemmas.Nat.{shr-shr, shr_le}
use Rattle.std.proofs.lemmas.Nat.Bits.{bit_at-zero, bit_at_above, bit_at-trailing_zeros, bit_at_set_same, bit_at_set_other, bit_at_clear_same, bit_at_clear_other}
use Rattle.graph_objects.specs.Bits.{bit, IsPut, NoneBetween, NoneFrom}

set_same : (words : List ℕ) (n word : ℕ) → n < 64 * length words → bit (slice_set words (n / 64) word) n ≡ bit_at word (n % 64)
set_same words n word within = ap (λ w. bit_at w (n % 64)) (get_or-set_same words (n / 64) word 0 (omega arith))

set_other : (words : List ℕ) (n word : ℕ) → n < 64 * length words → ((i : ℕ) → i < 64 → i ≢ n % 64 → bit_at word i ≡ bit_at (slice_index words (n / 64)) i) → (m : ℕ) → m ≢ n → bit (slice_set words (n / 64) word) m ≡ bit words m
set_other words n word within kept m differs =
    elim (cases_eq (m / 64) (n / 64)) [
      | inl same ↦ rw (same, get_or-set_same words (n / 64) word 0 (omega arith)) (kept (m % 64) (omega arith) (λ index. differs (omega arith)))
      | inr apart ↦ ap (λ w. bit_at w (m % 64)) (get_or-set_other words (n / 64) (m / 64) word 0 apart)
    ]

set_size : (words : List ℕ) (i word : ℕ) → length (slice_set words i word) ≡ length words
set_size [] i word = refl
set_size (w ∷ ws) zero word = refl
set_size (w ∷ ws) (suc i) word = ap suc (set_size ws i word)

abbrev pub with_bit : ℕ → ℕ → ℕ
with_bit word n = bit_or word (1 * 2 ^ (n % 64) % 2 ^ 64)

abbrev pub without_bit : ℕ → ℕ → ℕ
without_bit word n = bit_and word (bit_not w64 (1 * 2 ^ (n % 64) % 2 ^ 64))

module _ (words : List ℕ) (n word : ℕ) (within : n < 64 * length words) (is : word ≡ slice_index words (n / 64)) where
  pub inserted : IsPut words (slice_set words (n / 64) (with_bit word n)) n true
  inserted = record {
    here = set_same words n (with_bit word n) within ∙ bit_at_set_same w64 word (n % 64) (omega arith);
    others = set_other words n (with_bit word n) within (λ i below differs. bit_at_set_other w64 word (n % 64) (omega arith) i differs ∙ ap (λ w. bit_at w i) is);
    size = set_size words (n / 64) (with_bit word n);
  }

  pub removed : IsPut words (slice_set words (n / 64) (without_bit word n)) n false
  removed = record {
    here = set_same words n (without_bit word n) within ∙ bit_at_clear_same w64 word (n % 64) (omega arith);
    others = set_other words n (without_bit word n) within (λ i below differs. bit_at_clear_other w64 word (n % 64) (omega arith) i below differs ∙ ap (λ w. bit_at w i) is);
    size = set_size words (n / 64) (without_bit word n);
  }

none_in_zero : (words : List ℕ) (m : ℕ) → slice_index words (m / 64) ≡ 0 → bit words m ≡ 0
none_in_zero words m is = ap (λ w. bit_at w (m % 64)) is ∙ bit_at-zero (m % 64)

-- a word of zero more at the end
word_more : (words : List ℕ) (i : ℕ) → slice_index (words ++ 0 ∷ []) i ≡ slice_index words i
word_more [] zero = refl
word_more [] (suc i) = refl
word_more (w ∷ ws) zero = refl
word_more (w ∷ ws) (suc i) = word_more ws i

pub room_made : (words : List ℕ) (n : ℕ) → bit (words ++ 0 ∷ []) n ≡ bit words n
room_made words n = ap (λ w. bit_at w (n % 64)) (word_more words (n / 64))

-- the words up to an index have none
pub more_words : (words : List ℕ) (low index : ℕ) → NoneBetween words low (64 * index) → slice_index words index ≡ 0 → NoneBetween words low (64 * (index + 1))
more_words words low index before none m above below =
    elim (cases_lt (m / 64) index) [
      | inl lower ↦ before m above (omega arith)
      | inr here ↦ let same : m / 64 ≡ index = omega arith in none_in_zero words m (ap (slice_index words) same ∙ none)
    ]

pub all_words : (words : List ℕ) (low index : ℕ) → NoneBetween words low (64 * index) → length words ≤ index → NoneFrom words low
all_words words low index before all m above =
    elim (cases_lt (m / 64) index) [
      | inl lower ↦ before m above (omega arith)
      | inr here ↦ none_in_zero words m (get_or_past words (m / 64) 0 (omega arith))
    ]

pub no_words : (words : List ℕ) (low : ℕ) → length words ≤ low / 64 → NoneFrom words low
no_words words low all m above = none_in_zero words m (get_or_past words (m / 64) 0 (omega arith))

-- the lowest bit of the first word that has one
pub lowest_bit : (words : List ℕ) (low index word : ℕ) → NoneBetween words low (64 * index) → word ≡ slice_index words index → 0 < word → word < 2 ^ 64 → NoneBetween words low (index * 64 + trailing_zeros w64 word)
lowest_bit words low index word before is some fits m above below =
    elim (cases_lt (m / 64) index) [
      | inl lower ↦ before m above (omega arith)
      | inr here ↦
          let t = bit_at-trailing_zeros w64 word some fits in
          let same : m / 64 ≡ index = omega (arith, t.0) in
          rw (same, ← is) (t.2 (m % 64) (omega arith))
    ]

-- what is left of a word from a bit on
bit_of_rest : (word low i : ℕ) → bit_at (word / 2 ^ low) i ≡ bit_at word (low + i)
bit_of_rest word low i = ap (λ x. x % 2) (shr-shr word low i)

module _ (words : List ℕ) (start word rest : ℕ) (is : word ≡ slice_index words (start / 64)) (left : rest ≡ word / 2 ^ (start % 64)) where
  bit_in_rest : (m : ℕ) → start ≤ m → m / 64 ≡ start / 64 → bit words m ≡ bit_at rest (m - start)
  bit_in_rest m above same =
      let index : m % 64 ≡ start % 64 + (m - start) = omega arith in
      (λ i. bit_at (slice_index words (same i)) (index i))
      ∙ ap (λ w. bit_at w (start % 64 + (m - start))) (sym is)
      ∙ sym (ap (λ r. bit_at r (m - start)) left ∙ bit_of_rest word (start % 64) (m - start))

  pub none_in_rest : rest ≡ 0 → NoneBetween words start (64 * (start / 64 + 1))
  none_in_rest none m above below = bit_in_rest m above (omega arith) ∙ ap (λ r. bit_at r (m - start)) none ∙ bit_at-zero (m - start)

  module _ (some : 0 < rest) (small : word < 2 ^ 64) where
    fits : rest < 2 ^ 64
    fits = omega (arith, left, shr_le word (start % 64))

    lowest_in_rest : start % 64 + trailing_zeros w64 rest < 64
    lowest_in_rest =
        elim (cases_lt (start % 64 + trailing_zeros w64 rest) 64) [
          | inl below ↦ below
          | inr above ↦
              let t = bit_at-trailing_zeros w64 rest some fits in
              let one : bit_at word (start % 64 + trailing_zeros w64 rest) ≡ 1 = sym (ap (λ r. bit_at r (trailing_zeros w64 rest)) left ∙ bit_of_rest word (start % 64) (trailing_zeros w64 rest)) ∙ t.1 in
              let none = bit_at_above word 64 (start % 64 + trailing_zeros w64 rest) small above in
              absurd (cc (one, none))
        ]

    pub least_in_rest : NoneBetween words start (start + trailing_zeros w64 rest)
    least_in_rest m above below =
        let t = bit_at-trailing_zeros w64 rest some fits in
        bit_in_rest m above (omega (arith, lowest_in_rest)) ∙ t.2 (m - start) (omega arith)

-- none up to one, and none from it on
module _ (words : List ℕ) (low middle : ℕ) (first : NoneBetween words low middle) where
  pub some_joined : (r : Option ℕ) → IfSome r (NoneBetween words middle) → IfSome r (NoneBetween words low)
  some_joined None second = second
  some_joined (Some high) second = λ m above below. elim (cases_lt m middle) [ inl lower ↦ first m above lower | inr here ↦ second m here below ]

  pub none_joined : (r : Option ℕ) → IfNone r (NoneFrom words middle) → IfNone r (NoneFrom words low)
  none_joined None second = λ m above. elim (cases_lt m middle) [ inl lower ↦ first m above lower | inr here ↦ second m here ]
  none_joined (Some high) second = second
