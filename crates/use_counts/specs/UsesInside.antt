-- How marked ids are kept.
use Rattle.std.specs.Prelude.{◌≡◌, ◌<◌, ◌≤◌, ℕ, Bool, true, false, All, Contains, List, length, filter, slice_index_or}
use Rattle.std.specs.Prelude.{vec_capacity}
use Rattle.use_counts.specs.declared.uses.MarkedIds.TheInside.{Inside}
use Rattle.use_counts.specs.Uses.{Marking}

abbrev pub marking_of : Inside → Marking
marking_of m = record { ids = m.ids.items; room = length m.flags.items }

-- the flag of an id
abbrev pub flag_at : List Bool → ℕ → Bool
flag_at flags k = slice_index_or flags k false

-- how many flags are set
abbrev pub flags_set : List Bool → ℕ
flags_set flags = length (filter (λ b. b) flags)

-- each id with a flag is among the ids, which are as many as there are flags set, and there is room for
-- as many as there are flags
pub record AreFlagged (m : Inside) : Type 0 where
  pub flagged : (k : ℕ) → flag_at m.flags.items k ≡ true → Contains m.ids.items k
  pub within : All (λ id. id < length m.flags.items) m.ids.items
  pub few : length m.ids.items ≡ flags_set m.flags.items
  pub room : length m.flags.items ≤ vec_capacity m.ids
