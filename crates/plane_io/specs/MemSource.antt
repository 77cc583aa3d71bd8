-- A source in memory.
use Rattle.std.specs.Prelude.{ℕ, List}

-- the bytes that are left, the numbers of the calls that fail, the number of calls so far, and the faults
pub record SourceInMemory : Type 0 where
  pub left : List ℕ
  pub failing : List ℕ
  pub calls : ℕ
  pub faults : ℕ
