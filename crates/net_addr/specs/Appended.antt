-- A text that is put after the first bytes of a buffer.
use Rattle.std.specs.Prelude.{◌≡◌, ℕ, ◌+◌, List, ◌++◌, length, take, drop}

-- the buffer keeps its first `at` bytes, has the text after them up to `end`, and keeps what
-- lies behind
pub record Appends (old : List ℕ) (at : ℕ) (text new : List ℕ) (end : ℕ) : Type 0 where
  pub ends : end ≡ at + length text
  pub written : take end new ≡ take at old ++ text
  pub behind : drop end new ≡ drop end old
