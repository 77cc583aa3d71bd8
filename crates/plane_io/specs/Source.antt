-- What reading a source to its end gives.
use Rattle.std.specs.Prelude.{ℕ, ◌≡◌, ◌<◌, List, [], length, Option, Some, None, IfSome}

-- the bytes are all that a source had left, and nothing is left then, where it tells
abbrev pub IsAllThatWasLeft : Option (List ℕ) → Option (List ℕ) → List ℕ → Type 0
IsAllThatWasLeft None after bytes = after ≡ None
IsAllThatWasLeft (Some left) after bytes = (bytes ≡ left) × (after ≡ Some [])

-- a source had more than so many bytes left, where it tells
abbrev pub HadMoreThan : ℕ → Option (List ℕ) → Type 0
HadMoreThan limit before = IfSome before (λ left. limit < length left)
