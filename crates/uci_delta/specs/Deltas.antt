-- The deltas of a delta file (OpenWrt's uci).
use Rattle.std.specs.Prelude.{ℕ, ◌≡◌, List, [], ◌∷◌, ◌++◌, Option, Some, None}
use Rattle.std.specs.List.{AllZip}
use Rattle.uci_delta.specs.declared.delta.Delta.{Delta}
use Rattle.uci_delta.specs.Line.{SpellsDelta}
use Rattle.uci_delta.specs.Parts.{AreParts}

-- a part gives the delta of the package that it is, and nothing where it is none
abbrev pub Gives : List ℕ → List ℕ → Option Delta → Type 0
Gives name part None = (delta : Delta) → delta.package ≡ name → SpellsDelta part delta → ⊥
Gives name part (Some delta) = (delta.package ≡ name) × SpellsDelta part delta

-- the deltas that were given
abbrev pub given : List (Option Delta) → List Delta
given [] = []
given (None ∷ found) = given found
given (Some delta ∷ found) = delta ∷ given found

-- the text has these deltas of the package of this name: what its parts give
pub record AreDeltas (name text : List ℕ) (deltas : List Delta) : Type 0 where
  pub parts : List (List ℕ)
  pub cut : AreParts text parts
  pub found : List (Option Delta)
  pub each : AllZip (Gives name) parts found
  pub are : deltas ≡ given found

-- the deltas grow by what the part gives
abbrev pub GivesTo : List ℕ → List ℕ → List Delta → List Delta → Type 0
GivesTo name part old new = (found : Option Delta) × Gives name part found × (new ≡ old ++ given (found ∷ []))
