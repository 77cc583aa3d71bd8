-- Counts of faults. A count is kept in 64 bits and stands still at its largest value, 2^64 - 1; a count that
-- stands there meets "it rose" at every call.
use Rattle.std.specs.Prelude.{ℕ, ◌+◌, ◌-◌, ◌^◌, ◌<◌, ◌≤◌, min, Result, OnErr}

-- one more, or the largest value of 64 bits
abbrev pub next_count : ℕ → ℕ
next_count count = min (count + 1) (2 ^ 64 - 1)

-- the count rose by at least n, or stands at its largest value
abbrev pub RoseBy : ℕ → ℕ → ℕ → Type 0
RoseBy n before now = min (before + n) (2 ^ 64 - 1) ≤ now

-- the count rose
abbrev pub Rose : ℕ → ℕ → Type 0
Rose before now = RoseBy 1 before now

-- the count did not rise
abbrev pub DidNotRise : ℕ → ℕ → Type 0
DidNotRise before now = now < next_count before

-- a call of a device never lowers its count of faults, and fails only where the count rose
pub record HasCause {T E : Type 0} (before now : ℕ) (result : Result T E) : Type 0 where
  pub later : before ≤ now
  pub failed : OnErr result (Rose before now)
