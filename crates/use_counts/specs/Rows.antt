-- The same answers from rows that name what they stand on, each by its number.
use Rattle.std.specs.Prelude.{ℕ, ◌+◌, ◌≡◌, ◌≤◌, ◌==◌, ◌&&◌, ◌||◌, Bool, true, false, not, zero, suc, if◌then◌else◌}
use Rattle.std.specs.Prelude.{List, [], ◌∷◌, ◌++◌, map}
use Rattle.std.specs.List.{AllByRecursion, list_any}
use Rattle.use_counts.specs.declared.node.Edge.{Edge}
use Rattle.use_counts.specs.declared.node.Kind.{Kind}
use Rattle.use_counts.specs.declared.node.Kind.TheVariants.{Broken, Plain, Vlan, Bridge}
use Rattle.use_counts.specs.NodeRule.{is_used, occurs}
use Rattle.use_counts.specs.Edges.{lower_end, upper_end, far_ends}
use Rattle.use_counts.specs.Network.{Network, member_at}

-- what a row is: a name that a fault keeps from being available; one that is never made; a VLAN over
-- a lower; or a bridge with its ports
pub data Standing : Type 0 where
  Faulty : Standing
  Alone : (sound : Bool) → Standing
  Over : (lower : ℕ) → Standing
  Ports : (empty : Bool) → (ports : List ℕ) → Standing

-- the rows on which one stands
abbrev pub lowers_of : Standing → List ℕ
lowers_of Faulty = []
lowers_of (Alone sound) = []
lowers_of (Over lower) = lower ∷ []
lowers_of (Ports empty ports) = ports

abbrev pub kind_of : Standing → Kind
kind_of Faulty = Broken
kind_of (Alone sound) = Plain sound
kind_of (Over lower) = Vlan
kind_of (Ports empty ports) = Bridge empty

abbrev pub standing_at : List Standing → ℕ → Standing
standing_at [] k = Faulty
standing_at (s ∷ ss) zero = s
standing_at (s ∷ ss) (suc k) = standing_at ss k

abbrev pub edge : ℕ → ℕ → Edge
edge upper lower = record { lower = lower; upper = upper }

-- an edge from each row to each of its lowers; the first row has the number
abbrev pub edges_from : ℕ → List Standing → List Edge
edges_from number [] = []
edges_from number (s ∷ ss) = map (edge number) (lowers_of s) ++ edges_from (number + 1) ss

abbrev pub is_bridge : Standing → Bool
is_bridge Faulty = false
is_bridge (Alone sound) = false
is_bridge (Over lower) = false
is_bridge (Ports empty ports) = true

-- a bridge with further ports behind its own; any other row as it is
abbrev pub with_more : Standing → List ℕ → Standing
with_more Faulty more = Faulty
with_more (Alone sound) more = Alone sound
with_more (Over lower) more = Over lower
with_more (Ports empty ports) more = Ports empty (ports ++ more)

-- each bridge with the ports that radios give it behind its own; the first row has the number
abbrev pub joined_from : ℕ → List Edge → List Standing → List Standing
joined_from number ports [] = []
joined_from number ports (s ∷ ss) =
    with_more s (far_ends lower_end upper_end ports number) ∷ joined_from (number + 1) ports ss

-- the rows with the ports of radios
abbrev pub joined : List Edge → List Standing → List Standing
joined ports rows = joined_from 0 ports rows

-- A network has the kinds and the edges of some rows. Radios give ports to bridges alone, and with
-- these no row names a lower twice.
pub record AreRows (rows : List Standing) (net : Network) : Type 0 where
  pub kinds : (k : ℕ) → (member_at net.members k).kind ≡ kind_of (standing_at rows k)
  pub fixed : net.fixed ≡ edges_from 0 rows
  pub bridges : AllByRecursion (λ e. is_bridge (standing_at rows e.upper) ≡ true) net.ports
  pub once : AllByRecursion (λ s. (k : ℕ) → occurs k (lowers_of s) ≤ 1) (joined net.ports rows)

-- a test of rows that asks itself about other rows, by plain recursion as many levels far as a
-- number says
unfoldable pub by_levels : ℕ → ((ℕ → Bool) → ℕ → Bool) → ℕ → Bool
by_levels zero step k = false
by_levels (suc levels) step k = step (by_levels levels step) k

-- By what is below, whether a row is available: a plain one where it is present, a VLAN where its
-- lower is, a bridge where it needs no port or a port of its own is. A made one that is present is
-- taken, and not available.
abbrev pub row_opens : Bool → (ℕ → Bool) → Standing → Bool
row_opens present below Faulty = false
row_opens present below (Alone sound) = present && sound
row_opens present below (Over lower) = not present && below lower
row_opens present below (Ports empty ports) = not present && (empty || list_any below ports)

abbrev pub present_at : Network → ℕ → Bool
present_at net k = (member_at net.members k).present

abbrev pub carries_at : Network → ℕ → Bool
carries_at net k = (member_at net.members k).present && (member_at net.members k).carrier

-- a row is available
abbrev pub row_available : List Standing → Network → ℕ → Bool
row_available rows net =
    by_levels 8 (λ below k. row_opens (present_at net k) below (standing_at rows k))

-- By what is below, whether a row has link: a plain one where it is present with carrier, a VLAN
-- where it is available and its lower has link, a bridge where it is available and a port of its own
-- has link.
abbrev pub row_links : Bool → Bool → (ℕ → Bool) → Standing → Bool
row_links carries ready below Faulty = false
row_links carries ready below (Alone sound) = carries
row_links carries ready below (Over lower) = ready && below lower
row_links carries ready below (Ports empty ports) = ready && list_any below ports

-- a row has link
abbrev pub row_link : List Standing → Network → ℕ → Bool
row_link rows net =
    by_levels 8 (λ below k. row_links (carries_at net k) (row_available rows net k) below
    (standing_at rows k))

-- a row names a lower
abbrev pub names : Standing → ℕ → Bool
names s k = list_any (λ lower. lower == k) (lowers_of s)

-- how many of the rows pass and stand on k; the first row has the number
abbrev pub standing_on : (ℕ → Bool) → ℕ → ℕ → List Standing → ℕ
standing_on passes k number [] = 0
standing_on passes k number (s ∷ ss) =
    (if passes number && names s k then 1 else 0) + standing_on passes k (number + 1) ss

-- a row is used: it is available, and it is claimed or a used row stands on it
abbrev pub row_used : List Standing → Network → ℕ → Bool
row_used rows net =
    by_levels 8 (λ above k. is_used (row_available rows net k) ((member_at net.members k).claims
    + standing_on above k 0 rows))

-- the claims of an available row and the used rows that stand on it
abbrev pub row_users : List Standing → Network → ℕ → ℕ
row_users rows net k =
    if row_available rows net k
    then (member_at net.members k).claims + standing_on (row_used rows net) k 0 rows else 0
