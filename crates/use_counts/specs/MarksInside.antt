-- What a set of marks keeps of its words.
use Rattle.std.specs.Prelude.{◌≡◌, ◌≤◌, ◌<◌, ◌*◌, ◌^◌, ℕ, List, length, slice_index}

-- the words with a bit stand from one place up to another
pub record IsNarrow (words : List ℕ) (low high : ℕ) : Type 0 where
  pub within : high ≤ length words
  pub small : 64 * length words < 2 ^ 64
  pub below : (w : ℕ) → w < low → slice_index words w ≡ 0
  pub above : (w : ℕ) → high ≤ w → slice_index words w ≡ 0
