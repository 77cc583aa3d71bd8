-- Counts over the edges. They are taken from either end: far is one end of an edge, near the other.
use Rattle.std.specs.Prelude.{ℕ, ◌==◌, ◌&&◌, Bool, List, count_by, map, filter}
use Rattle.use_counts.specs.declared.node.Edge.{Edge}

-- the port, or the lower of a VLAN
abbrev pub lower_end : Edge → ℕ
lower_end e = e.lower

-- the bridge, or the VLAN
abbrev pub upper_end : Edge → ℕ
upper_end e = e.upper

-- of the edges whose far end is k, those whose near end passes
unfoldable pub counted : (Edge → ℕ) → (Edge → ℕ) → (ℕ → Bool) → List Edge → ℕ → ℕ
counted far near passes edges k = count_by (λ e. (far e == k) && passes (near e)) edges

-- the edges with far end k and near end i
unfoldable pub joining : (Edge → ℕ) → (Edge → ℕ) → List Edge → ℕ → ℕ → ℕ
joining far near edges i k = count_by (λ e. (far e == k) && (near e == i)) edges

-- the far ends of the edges whose near end is i, in their order
unfoldable pub far_ends : (Edge → ℕ) → (Edge → ℕ) → List Edge → ℕ → List ℕ
far_ends far near edges i = map far (filter (λ e. near e == i) edges)

-- the edges whose near end passes
unfoldable pub edges_at : (Edge → ℕ) → (ℕ → Bool) → List Edge → ℕ
edges_at near passes edges = count_by (λ e. passes (near e)) edges
