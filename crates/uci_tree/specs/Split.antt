-- What the reader of paths finds in front of a byte and behind it.
use Rattle.std.specs.Prelude.{ℕ, ◌≡◌, ◌≢◌, List, ◌∷◌, ◌++◌, Option, Some, None}
use Rattle.std.specs.List.{AllByRecursion}
use Rattle.uci_text.specs.declared.byte_class.ByteClass.TheVariants.{Name}
use Rattle.uci_text.specs.Byte.{dot}
use Rattle.uci_text.specs.Table.{IsNameOf}

-- none of the bytes is this one
abbrev pub HasNone : ℕ → List ℕ → Type 0
HasNone byte text = AllByRecursion (λ other. other ≢ byte) text

-- the text is cut at the first of these bytes, and at the last
pub record CutsAtFirst (byte : ℕ) (text front back : List ℕ) : Type 0 where
  pub whole : text ≡ front ++ byte ∷ back
  pub first : HasNone byte front

pub record CutsAtLast (byte : ℕ) (text front back : List ℕ) : Type 0 where
  pub whole : text ≡ front ++ byte ∷ back
  pub last : HasNone byte back

-- the text is a section, and where this is a name, `.` and it as an option
abbrev pub CutsOption : List ℕ → List ℕ → Option (List ℕ) → Type 0
CutsOption text section None = (section ≡ text)
    × ((before name : List ℕ) → text ≡ before ++ dot ∷ name → IsNameOf Name name → ⊥)
CutsOption text section (Some name) = (text ≡ section ++ dot ∷ name) × IsNameOf Name name
