-- What stands on a name, and facts that differ at the device of one name.
use Rattle.std.specs.Prelude.{ℕ, ◌≡◌, List, Option, Some, None, Contains, ⊤}
use Rattle.net_rules.specs.Facts.{Facts}
use Rattle.net_rules.specs.Standing.{standing_at, lowers_of}

-- One name is the other or stands on it, by the rows and the ports of radios, over any number of
-- names. A broken name stands on nothing.
pub data IsAbove (facts : Facts) (base : List ℕ) : List ℕ → Type 0 where
  itself : IsAbove facts base base
  over : (upper lower : List ℕ) → Contains (lowers_of (standing_at facts upper)) lower
      → IsAbove facts base lower → IsAbove facts base upper

-- there is no name, or one that is not above the base
abbrev pub IsOffBase : Facts → List ℕ → Option (List ℕ) → Type 0
IsOffBase facts base None = ⊤
IsOffBase facts base (Some name) = IsAbove facts base name → ⊥

-- two facts that are the same but for the device of one name
pub record DiffersAt (base : List ℕ) (before now : Facts) : Type 0 where
  pub conf : now.conf ≡ before.conf
  pub device : (name : List ℕ) → (name ≡ base → ⊥) → now.device name ≡ before.device name
  pub operator_state : (name : List ℕ) → now.operator_state name ≡ before.operator_state name
  pub answer : (name : List ℕ) → now.answer name ≡ before.answer name
  pub ports : (name : List ℕ) → now.ports name ≡ before.ports name
