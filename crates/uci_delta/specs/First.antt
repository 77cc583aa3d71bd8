-- The first item of a list that passes a test.
use Rattle.std.specs.Prelude.{List, [], ◌∷◌, ◌++◌, Bool, Result, Ok, Err, if◌then◌else◌}
use Rattle.uci_delta.specs.declared.delta_error.DeltaError.{DeltaError}

-- what is made of an answer, where it is no refusal
abbrev pub made : {X Y : Type 0} → (X → Y) → Result X DeltaError → Result Y DeltaError
made make (Ok x) = Ok (make x)
made make (Err error) = Err error

-- the first item that passes gives way to what it becomes; where it is refused this is told, and where none passes, it
-- lacks
abbrev pub first_becomes : {X : Type 0} → (X → Bool) → DeltaError → (X → Result (List X) DeltaError) → List X
    → Result (List X) DeltaError
first_becomes test lack becomes [] = Err lack
first_becomes test lack becomes (x ∷ xs) = if test x then made (λ new. new ++ xs) (becomes x)
    else made (λ rest. x ∷ rest) (first_becomes test lack becomes xs)

-- the first item that passes, alone, and the others
abbrev pub first_alone : {X : Type 0} → (X → Bool) → List X → List X
first_alone test [] = []
first_alone test (x ∷ xs) = if test x then x ∷ [] else first_alone test xs

abbrev pub others : {X : Type 0} → (X → Bool) → List X → List X
others test [] = []
others test (x ∷ xs) = if test x then xs else x ∷ others test xs
