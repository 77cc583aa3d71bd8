-- Numbers that a device gives, one a call.
use Rattle.std.specs.Prelude.{ℕ, ◌≡◌, ◌≤◌, ◌<◌, ◌+◌, ◌-◌, min, List, length, slice_index, Option, Some, None}

-- A device that told what the k-th call from now gives, for each k from 0, gave the first of these, and the others
-- follow.
abbrev pub Advances : Option (ℕ → ℕ) → Option (ℕ → ℕ) → ℕ → Type 0
Advances None new given = new ≡ None
Advances (Some old) new given =
    (given ≡ old 0) × ((next : ℕ → ℕ) × (new ≡ Some next) × ((k : ℕ) → next k ≡ old (k + 1)))

-- the numbers in order, then the last one again; 0 where there is none
abbrev pub nth_or_last : List ℕ → ℕ → ℕ
nth_or_last numbers k = slice_index numbers (min k (length numbers - 1))

-- no number is less than the one before it
abbrev pub NeverFalls : List ℕ → Type 0
NeverFalls numbers = (i : ℕ) → i + 1 < length numbers → slice_index numbers i ≤ slice_index numbers (i + 1)
