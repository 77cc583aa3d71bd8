-- A list that grows at its end, where it is kept.
use Rattle.std.specs.Prelude.{ℕ, ◌≤◌, ◌<◌, List, length, Option, Some, None, ⊤}

-- the items, where they are kept, and how many there is memory for
pub record KeptLog (T : Type 0) : Type 0 where
  pub items : Option (List T)
  pub most : ℕ

-- the list is kept, and there is no memory for one more
abbrev pub IsFull : {T : Type 0} → Option (List T) → ℕ → Type 0
IsFull None most = ⊥
IsFull (Some items) most = most ≤ length items

-- where the list is kept there is memory for one more
abbrev pub HasRoom : {T : Type 0} → Option (List T) → ℕ → Type 0
HasRoom None most = ⊤
HasRoom (Some items) most = length items < most
