-- The random words that a call used, and the first of some.
use Rattle.std.specs.Prelude.{ℕ, List, [], ◌∷◌, Bool, if◌then◌else◌}

-- the word of a call, where it made a session
abbrev pub used_by : Bool → ℕ → List ℕ
used_by has_created word = if has_created then word ∷ [] else []

-- the first of some words
abbrev pub first_word : List ℕ → ℕ
first_word [] = 0
first_word (word ∷ words) = word
