-- Of several values with one key the first counts.
use Rattle.std.specs.Prelude.{ℕ, List, [], ◌∷◌, filter, not, bytes_eq}

-- the values whose key no earlier one has
abbrev pub firsts : {X : Type 0} → (X → List ℕ) → List X → List X
firsts key [] = []
firsts key (x ∷ xs) = x ∷ filter (λ y. not (bytes_eq (key y) (key x))) (firsts key xs)
