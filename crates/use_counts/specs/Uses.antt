-- Nodes whose use changed, as marked ids.
use Rattle.std.specs.Prelude.{ℕ, ◌≡◌, ◌<◌, ◌⊎◌, true, List, length, Contains}
use Rattle.use_counts.specs.declared.node.Node.{Node}
use Rattle.use_counts.specs.Held.{differs, used_at}
use Rattle.use_counts.specs.Network.{Network, used}

-- the marked ids in the order in which they came, and the number below which there is room for all
pub record Marking : Type 0 where
  pub ids : List ℕ
  pub room : ℕ

-- marked ids stay marked, and the room stays
pub record Stay (old new : Marking) : Type 0 where
  pub ids : (k : ℕ) → Contains old.ids k → Contains new.ids k
  pub room : new.room ≡ old.room

-- each node whose kept use differs is marked, marks stay, and none but nodes are marked anew
pub record AreMarked (before after : List Node) (old new : Marking) : Type 0 where
  pub all : (k : ℕ) → differs (used_at before k) (used_at after k) ≡ true → Contains new.ids k
  pub only : (k : ℕ) → Contains new.ids k → Contains old.ids k ⊎ (k < length before)
  pub size : length after ≡ length before
  pub stay : Stay old new

-- each node whose use differs between two networks is marked, marks stay, and none but nodes are
-- marked anew
pub record TellsUses (before after : Network) (old new : Marking) : Type 0 where
  pub all : (k : ℕ) → k < length before.members → differs (used before k) (used after k) ≡ true
      → Contains new.ids k
  pub only : (k : ℕ) → Contains new.ids k → Contains old.ids k ⊎ (k < length before.members)
  pub stay : Stay old new
