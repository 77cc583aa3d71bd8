-- Sets of numbers as the bits of words.
use Rattle.std.specs.Prelude.{◌≡◌, ◌≢◌, ◌≤◌, ◌<◌, ℕ, ◌/◌, ◌%◌, List, Bool, length, slice_index, if◌then◌else◌}
use Rattle.std.specs.Int.{bit_at}

-- 1 where the number is in the set, else 0
abbrev pub bit : List ℕ → ℕ → ℕ
bit words n = bit_at (slice_index words (n / 64)) (n % 64)

-- a number is put in or taken out, and all others stay
pub record IsPut (old new : List ℕ) (number : ℕ) (is_in : Bool) : Type 0 where
  pub here : bit new number ≡ (if is_in then 1 else 0)
  pub others : (n : ℕ) → n ≢ number → bit new n ≡ bit old n
  pub size : length new ≡ length old

-- no number from the one up to the other is in the set
abbrev pub NoneBetween : List ℕ → ℕ → ℕ → Type 0
NoneBetween words low high = (n : ℕ) → low ≤ n → n < high → bit words n ≡ 0

-- no number from this one on is in the set
abbrev pub NoneFrom : List ℕ → ℕ → Type 0
NoneFrom words low = (n : ℕ) → low ≤ n → bit words n ≡ 0

-- a number comes first from the one up to the other
pub record IsFirstBetween (words : List ℕ) (low high number : ℕ) : Type 0 where
  pub from : low ≤ number
  pub within : number < high
  pub first : NoneBetween words low number
