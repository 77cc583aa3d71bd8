-- The run of zero groups that `::` stands for in a printed IPv6 address (RFC 5952, 4.2).
use Rattle.std.specs.Prelude.{◌≡◌, ℕ, ◌+◌, ◌≤◌, List, length, take, drop, replicate}

-- `len` groups that are zero, from `start` on
abbrev pub IsZeroRun : List ℕ → ℕ → ℕ → Type 0
IsZeroRun groups start len = (start + len ≤ length groups)
    × (take len (drop start groups) ≡ replicate len 0)

-- a run of zero groups, given by its start and its length: none is longer, and none as long starts
-- before it
pub record IsFirstLongestRun (groups : List ℕ) (run : ℕ × ℕ) : Type 0 where
  pub zeros : IsZeroRun groups run.0 run.1
  pub longest : (start len : ℕ) → IsZeroRun groups start len → len ≤ run.1
  pub first : (start len : ℕ) → IsZeroRun groups start len → len ≡ run.1 → run.0 ≤ start
