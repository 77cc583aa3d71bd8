-- A sink in memory.
use Rattle.std.specs.Prelude.{ℕ, List}

-- the bytes that it holds, how many it has room for, the numbers of the calls that fail, the number of calls so
-- far, the faults, and how many growths were refused
pub record SinkInMemory : Type 0 where
  pub bytes : List ℕ
  pub room : ℕ
  pub failing : List ℕ
  pub calls : ℕ
  pub faults : ℕ
  pub refused : ℕ
