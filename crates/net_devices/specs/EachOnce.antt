-- Lists in which each name or word stands once, at its first place.
use Rattle.std.specs.Prelude.{ℕ, Bool, List, [], ◌∷◌, ◌++◌, if◌then◌else◌, fold, bytes_eq}
use Rattle.std.specs.List.{list_any}

-- a name stands in a list
abbrev pub has : List (List ℕ) → List ℕ → Bool
has names name = list_any (λ other. bytes_eq other name) names

-- a list with a name at its end, where the list lacks it
abbrev pub with_name : List (List ℕ) → List ℕ → List (List ℕ)
with_name names name = if has names name then names else names ++ name ∷ []

-- a list with more names
abbrev pub with_names : List (List ℕ) → List (List ℕ) → List (List ℕ)
with_names names more = fold with_name names more

abbrev pub each_once : List (List ℕ) → List (List ℕ)
each_once names = with_names [] names
