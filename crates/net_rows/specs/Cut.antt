-- Texts that are cut at a byte.
use Rattle.std.specs.Prelude.{ℕ, ◌≡◌, ◌≢◌, ◌==◌, List, [], ◌∷◌, ◌++◌, Option, Some, None, if◌then◌else◌}
use Rattle.std.specs.List.{AllByRecursion}

-- none of the bytes is this one
abbrev pub HasNone : ℕ → List ℕ → Type 0
HasNone byte text = AllByRecursion (λ other. other ≢ byte) text

-- the text is cut at the first of these bytes, and at the last
pub record CutsAtFirst (byte : ℕ) (text front back : List ℕ) : Type 0 where
  pub whole : text ≡ front ++ byte ∷ back
  pub first : HasNone byte front

pub record CutsAtLast (byte : ℕ) (text front back : List ℕ) : Type 0 where
  pub whole : text ≡ front ++ byte ∷ back
  pub last : HasNone byte back

-- the cut of a text that has one more byte in front
abbrev pub cut_behind : ℕ → Option (List ℕ × List ℕ) → Option (List ℕ × List ℕ)
cut_behind byte None = None
cut_behind byte (Some cut) = Some (byte ∷ cut.0, cut.1)

-- what is in front of the first of these bytes, and what is behind it
abbrev pub first_cut : ℕ → List ℕ → Option (List ℕ × List ℕ)
first_cut byte [] = None
first_cut byte (other ∷ others) = if other == byte then Some ([], others) else cut_behind other (first_cut byte others)

-- a cut further on, or else one at this byte
abbrev pub cut_at_or_behind : ℕ → ℕ → List ℕ → Option (List ℕ × List ℕ) → Option (List ℕ × List ℕ)
cut_at_or_behind byte other others None = if other == byte then Some ([], others) else None
cut_at_or_behind byte other others (Some cut) = Some (other ∷ cut.0, cut.1)

-- what is in front of the last of these bytes, and what is behind it
abbrev pub last_cut : ℕ → List ℕ → Option (List ℕ × List ℕ)
last_cut byte [] = None
last_cut byte (other ∷ others) = cut_at_or_behind byte other others (last_cut byte others)
