-- Ids whose names' use changed, as marks.
use Rattle.std.specs.Prelude.{ℕ, ◌≡◌, ◌<◌, ◌⊎◌, true, length, Contains}
use Rattle.use_counts.specs.Uses.{Marking, Stay}
use Rattle.graph_rules.specs.State.{Known}
use Rattle.graph_rules.specs.Answers.{used_in}
use Rattle.graph_rules.specs.Edges.{differs}
use Rattle.graph_counts.specs.Counted.{name_of}

-- each id whose name's use differs is marked, marks stay, and none but ids of names are marked anew
pub record TellsUses (before after : Known) (old new : Marking) : Type 0 where
  pub all : (id : ℕ) → id < length before.names
      → differs (used_in before (name_of before id)) (used_in after (name_of after id)) ≡ true
      → Contains new.ids id
  pub only : (id : ℕ) → Contains new.ids id → Contains old.ids id ⊎ (id < length before.names)
  pub stay : Stay old new
