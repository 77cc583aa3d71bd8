-- The order of VLANs and bridges by their levels.
use Rattle.std.specs.Prelude.{◌≡◌, ◌+◌, ◌≤◌, ◌<◌, ◌^◌, ℕ, true, List, length, map, All}
use Rattle.use_counts.specs.declared.node.Edge.{Edge}
use Rattle.use_counts.specs.declared.node.Row.{Row}
use Rattle.use_counts.specs.NodeRule.{is_made, row_at, rank_of}
use Rattle.use_counts.specs.Held.{IsOrder}
use Rattle.use_counts.specs.Network.{Rises, loaded}

abbrev pub level_at : List Row → ℕ → ℕ
level_at rows k = (row_at rows k).level

-- rows of a lower level, and those of the level up to a place
abbrev pub IsBefore : List Row → ℕ → ℕ → ℕ → Type 0
IsBefore rows level place k = level ≤ level_at rows k → (level_at rows k ≡ level) × (k < place)

-- the made rows before a place of a level are ordered: they have ranks, which rise with the levels
pub record ArePlaced (rows : List Row) (level place : ℕ) (places ranks : List ℕ) : Type 0 where
  pub long : length ranks ≡ length rows
  pub order : IsOrder places (rank_of ranks) (length ranks)
  pub made : (k : ℕ) → 0 < rank_of ranks k → is_made (row_at rows k).kind ≡ true
  pub before : (k : ℕ) → 0 < rank_of ranks k → IsBefore rows level place k
  pub all : (k : ℕ) → k < length rows → is_made (row_at rows k).kind ≡ true
      → IsBefore rows level place k → 0 < rank_of ranks k
  pub rises : (j k : ℕ) → 0 < rank_of ranks j → 0 < rank_of ranks k
      → level_at rows j < level_at rows k → rank_of ranks j < rank_of ranks k

-- a level that a row may have
abbrev pub HasLevel : Row → Type 0
HasLevel row = (1 ≤ row.level) × (row.level ≤ 8)

-- Rows of levels from 1 to 8, and fewer edges than 2 ^ 20, each from a VLAN or bridge to a node of a
-- lower level. Some are of the rows, the others go to the ports of radios.
pub record CanLoad (rows : List Row) (fixed ports : List Edge) : Type 0 where
  pub levels : All HasLevel rows
  pub fixed_rise : All (Rises (map loaded rows)) fixed
  pub ports_rise : All (Rises (map loaded rows)) ports
  pub few : length fixed + length ports < 2 ^ 20
