-- A clock in memory.
use Rattle.std.specs.Prelude.{ℕ, List}

-- the moments that are left, of which the last one stays, and the last moment that it gave
pub record ClockInMemory : Type 0 where
  pub moments : List ℕ
  pub last : ℕ
