-- The contents of files, and what a call may do to one of them.
use Rattle.std.specs.Prelude.{ℕ, ◌≡◌, ◌≢◌, ◌+◌, ◌-◌, ◌≤◌, min, max, List, [], ◌++◌, length, take, drop, slice_index_or}
use Rattle.std.specs.Prelude.{slice_set}

-- the contents of the files, by their numbers
abbrev pub Files : Type 0
Files = List (List ℕ)

-- the bytes of one file
abbrev pub bytes_of : Files → ℕ → List ℕ
bytes_of files file = slice_index_or files file []

-- one file has these bytes, the others what they had
abbrev pub with_bytes : Files → ℕ → List ℕ → Files
with_bytes files file bytes = slice_set files file bytes

-- bytes written over others from a place on
abbrev pub put_at : List ℕ → ℕ → List ℕ → List ℕ
put_at old at bytes = take at old ++ bytes ++ drop (at + length bytes) old

-- a write of n bytes that was done wholly, in part or not at all: any bytes in its range and past the old end, the
-- same bytes elsewhere
pub record IsTorn (at n : ℕ) (old new : List ℕ) : Type 0 where
  pub before : take at new ≡ take at old
  pub behind : drop (at + n) new ≡ drop (at + n) old
  pub no_shorter : length old ≤ length new
  pub no_longer : length new ≤ max (length old) (at + n)

-- a cut to n bytes that was done wholly, in part or not at all: the front stays, and any bytes stand behind it
pub record IsCut (n : ℕ) (old new : List ℕ) : Type 0 where
  pub front : take n new ≡ take n old
  pub no_shorter : min n (length old) ≤ length new
  pub no_longer : length new ≤ length old

-- a step at one file, while the others stay
pub record AtFile (file : ℕ) (step : List ℕ → List ℕ → Type 0) (old new : Files) : Type 0 where
  pub count : length new ≡ length old
  pub here : step (bytes_of old file) (bytes_of new file)
  pub others : (other : ℕ) → other ≢ file → bytes_of new other ≡ bytes_of old other

-- a write or a cut of a file that may have been done in part
abbrev pub TornAt : ℕ → ℕ → ℕ → Files → Files → Type 0
TornAt file at n = AtFile file (IsTorn at n)

abbrev pub CutAt : ℕ → ℕ → Files → Files → Type 0
CutAt file size = AtFile file (IsCut size)

-- what a read of a file from a place on leaves in a buffer: as many bytes as the file has there, up to the buffer's
-- length, at its front
pub record Reads (bytes : List ℕ) (at count : ℕ) (old new : List ℕ) : Type 0 where
  pub counts : count ≡ min (length old) (length bytes - at)
  pub filled : new ≡ take count (drop at bytes) ++ drop count old
