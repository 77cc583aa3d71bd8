-- The answers of a network by plain recursion over its edges.
use Rattle.std.specs.Prelude.{ℕ, ◌+◌, ◌^◌, ◌<◌, ◌≤◌, ◌≡◌, map, ◌&&◌, ◌||◌, ◌++◌, ◌≢◌, Bool, true, false, if◌then◌else◌}
use Rattle.std.specs.Prelude.{zero, suc, List, length, count_by, slice_set, slice_index_or, All}
use Rattle.use_counts.specs.declared.node.Edge.{Edge}
use Rattle.use_counts.specs.declared.node.Kind.TheVariants.{Broken}
use Rattle.use_counts.specs.declared.node.Row.{Row}
use Rattle.use_counts.specs.NodeRule.{opens, links, is_made, is_used, row_at, rank_of}
use Rattle.use_counts.specs.Edges.{lower_end, upper_end, counted}
use Rattle.use_counts.specs.Held.{Member, IsOrder, RunsUp, differs}

-- nodes by number, with what rows and events say of them, the edges of the rows, and those to the ports
-- of radios
pub record Network : Type 0 where
  pub members : List Member
  pub fixed : List Edge
  pub ports : List Edge

-- all edges
abbrev pub edges_of : Network → List Edge
edges_of net = net.fixed ++ net.ports

-- what is read past the last node
abbrev pub no_member : Member
no_member = record { kind = Broken; level = 0; present = false; carrier = false; claims = 0 }

-- the node of a number
abbrev pub member_at : List Member → ℕ → Member
member_at members k = slice_index_or members k no_member

-- availability, looking so many levels down
unfoldable pub available_within : ℕ → Network → ℕ → Bool
available_within zero net k = false
available_within (suc levels) net k =
    let p = member_at net.members k in
    opens p.kind p.present (counted upper_end lower_end (available_within levels net) (edges_of net) k)

-- a node is available
unfoldable pub available : Network → ℕ → Bool
available net k = available_within 8 net k

-- link, looking so many levels down
unfoldable pub link_within : ℕ → Network → ℕ → Bool
link_within zero net k = false
link_within (suc levels) net k =
    let p = member_at net.members k in
    links p.kind (available net k) (p.present && p.carrier)
    (counted upper_end lower_end (link_within levels net) (edges_of net) k)

-- a node has link
unfoldable pub link : Network → ℕ → Bool
link net k = link_within 8 net k

-- Use, looking so many levels up: an available node is used where it is claimed or a used node stands
-- on it.
unfoldable pub used_within : ℕ → Network → ℕ → Bool
used_within zero net k = false
used_within (suc levels) net k =
    is_used (available net k) ((member_at net.members k).claims
    + counted lower_end upper_end (used_within levels net) (edges_of net) k)

-- a node is used
unfoldable pub used : Network → ℕ → Bool
used net k = used_within 8 net k

-- the claims of an available node and the used nodes that stand on it, else 0
unfoldable pub users : Network → ℕ → ℕ
users net k =
    if available net k
    then (member_at net.members k).claims + counted lower_end upper_end (used net) (edges_of net) k else 0

-- an answer of a node differs between two networks
abbrev pub changed : Network → Network → ℕ → Bool
changed before after k =
    (differs (available before k) (available after k) || differs (link before k) (link after k))
    || differs (used before k) (used after k)

-- the edges with an end at a node of which an answer differs
unfoldable pub changed_edges : Network → Network → ℕ
changed_edges before after =
    count_by (λ e. changed before after e.lower || changed before after e.upper) (edges_of before)

-- an edge from a VLAN or bridge among some nodes to a node of a lower level
pub record Rises (members : List Member) (e : Edge) : Type 0 where
  pub lower : e.lower < length members
  pub upper : e.upper < length members
  pub made : is_made (member_at members e.upper).kind ≡ true
  pub order : (member_at members e.lower).level < (member_at members e.upper).level

-- levels go from 1 to 8 and rise along each edge, and a node has at most 1,024 claims
pub record HasLevels (net : Network) : Type 0 where
  pub levels : All (λ p. (1 ≤ p.level) × (p.level ≤ 8)) net.members
  pub edges : All (Rises net.members) (edges_of net)
  pub claims : All (λ p. p.claims ≤ 1024) net.members

-- a row without a device and without claims
abbrev pub loaded : Row → Member
loaded row =
    record { kind = row.kind; level = row.level; present = false; carrier = false; claims = 0 }

-- rows with the edges of the rows and those to the ports of radios, without devices and claims
abbrev pub network_from : List Row → List Edge → List Edge → Network
network_from rows fixed ports = record { members = map loaded rows; fixed = fixed; ports = ports }

-- a network in which one node is as given
abbrev pub with_member : Network → ℕ → Member → Network
with_member net k member = record net { members = slice_set net.members k member }

-- the device of a node is there or not, with or without carrier
abbrev pub with_device : Network → ℕ → Bool → Bool → Network
with_device net k present carrier =
    with_member net k (record (member_at net.members k) { present = present; carrier = carrier })

-- the carrier of a device is on or off
abbrev pub with_carrier : Network → ℕ → Bool → Network
with_carrier net k carrier = with_member net k (record (member_at net.members k) { carrier = carrier })

-- a node has this many claims
abbrev pub with_claim : Network → ℕ → ℕ → Network
with_claim net k claims = with_member net k (record (member_at net.members k) { claims = claims })

-- other ports of radios in place of the old ones
abbrev pub with_ports : Network → List Edge → Network
with_ports net ports = record net { ports = ports }

-- what the row of a node says
abbrev pub row_of : Member → Row
row_of p = record { kind = p.kind; level = p.level }

-- Ports of radios that a network may have: each edge goes from a VLAN or bridge to a node of a lower
-- level, and with the edges of the rows there are fewer than 2 ^ 20.
pub record CanJoin (net : Network) (ports : List Edge) : Type 0 where
  pub rise : All (Rises net.members) ports
  pub few : length net.fixed + length ports < 2 ^ 20

-- no edge has an end at the node
abbrev pub IsAlone : Network → ℕ → Type 0
IsAlone net k = All (λ e. (e.lower ≢ k) × (e.upper ≢ k)) (edges_of net)

-- rows and edges with an order of the made rows in which each edge runs up
pub record IsLoadable (order ranks : List ℕ) (rows : List Row) (fixed ports : List Edge)
    : Type 0 where
  pub ranked : length ranks ≡ length rows
  pub ordered : IsOrder order (rank_of ranks) (length ranks)
  pub plain : (k : ℕ) → rank_of ranks k ≡ 0 → is_made (row_at rows k).kind ≡ false
  pub stand : All (λ e. RunsUp (rank_of ranks) (length ranks) e.lower e.upper) (fixed ++ ports)
  pub levels : HasLevels (network_from rows fixed ports)
  pub few : length fixed + length ports < 2 ^ 20
