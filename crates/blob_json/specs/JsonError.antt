-- Numbers of errors, and where they stand.
use Rattle.std.specs.Prelude.{ℕ, List, [], ◌∷◌, ◌++◌, ◌==◌, if◌then◌else◌}
use Rattle.std.specs.List.{flat_map}
use Rattle.blob_json.specs.declared.json_error.JsonError.{JsonError}
use Rattle.blob_json.specs.declared.json_error.JsonError.TheVariants.{Fraction, Wide, Deep, NotTable, Memory}

-- 46 for a number that is not whole, 47 for one that is too wide, 45 for nesting too deep, 48 for a
-- value that is no object, 8 for memory
abbrev pub number_of : JsonError → ℕ
number_of (Fraction path) = 46
number_of (Wide path) = 47
number_of (Deep path) = 45
number_of NotTable = 48
number_of Memory = 8

-- a byte of a name in a path: `~0` for `~`, `~1` for `/` (RFC 6901)
abbrev pub escaped_byte : ℕ → List ℕ
escaped_byte byte =
    if byte == 126 then 126 ∷ 48 ∷ [] else (if byte == 47 then 126 ∷ 49 ∷ [] else byte ∷ [])

-- a name in a path
abbrev pub escaped : List ℕ → List ℕ
escaped name = flat_map escaped_byte name

-- the fault of a part of a value, seen from the value: its path goes through that part
abbrev pub inside : List ℕ → JsonError → JsonError
inside part (Fraction path) = Fraction (47 ∷ part ++ path)
inside part (Wide path) = Wide (47 ∷ part ++ path)
inside part (Deep path) = Deep (47 ∷ part ++ path)
inside part NotTable = NotTable
inside part Memory = Memory
