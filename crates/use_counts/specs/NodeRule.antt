-- What a node answers by its own counts, and what moves of its neighbours do to it.
use Rattle.std.specs.Prelude.{ℕ, ◌≡◌, slice_index, ◌+◌, ◌-◌, ◌==◌, ◌&&◌, ◌||◌, Bool, true, false, not, if◌then◌else◌}
use Rattle.std.specs.Prelude.{List, count_by, slice_index_or, nat_lt}
use Rattle.use_counts.specs.declared.node.Kind.{Kind}
use Rattle.use_counts.specs.declared.node.Kind.TheVariants.{Broken, Plain, Vlan, Bridge}
use Rattle.use_counts.specs.declared.node.Node.{Node}
use Rattle.use_counts.specs.declared.node.Change.{Change}
use Rattle.use_counts.specs.declared.node.Row.{Row}

-- Availability by the number of available lowers: a plain node where it is present, a VLAN over an
-- available lower, a bridge with an available port or without need of one. A made node that is present
-- is taken, and not available.
unfoldable pub opens : Kind → Bool → ℕ → Bool
opens Broken present open_lowers = false
opens (Plain sound) present open_lowers = present && sound
opens Vlan present open_lowers = not present && nat_lt 0 open_lowers
opens (Bridge empty) present open_lowers = not present && (empty || nat_lt 0 open_lowers)

-- Link by the number of lowers with link: a plain node where it is present with carrier, a made one
-- where it is available over a lower that has link.
unfoldable pub links : Kind → Bool → Bool → ℕ → Bool
links Broken available carries linked_lowers = false
links (Plain sound) available carries linked_lowers = carries
links Vlan available carries linked_lowers = available && nat_lt 0 linked_lowers
links (Bridge empty) available carries linked_lowers = available && nat_lt 0 linked_lowers

-- a device is there and has carrier
abbrev pub carries : Node → Bool
carries node = node.present && node.carrier

-- VLANs and bridges are made
abbrev pub is_made : Kind → Bool
is_made Broken = false
is_made (Plain sound) = false
is_made Vlan = true
is_made (Bridge empty) = true

-- use by the demand
abbrev pub is_used : Bool → ℕ → Bool
is_used available demand = available && nat_lt 0 demand

-- a number, counted only where the test is true
abbrev pub times : Bool → ℕ → ℕ
times b n = if b then n else 0

-- what is read past the last node
unfoldable pub no_node : Node
no_node =
    record {
      kind = Broken;
      level = 0;
      rank = 0;
      present = false;
      carrier = false;
      claims = 0;
      available = false;
      link = false;
      used = false;
      open_lowers = 0;
      linked_lowers = 0;
      demand = 0;
      stale = false;
      use_stale = false;
    }

-- the node of a number
abbrev pub node_at : List Node → ℕ → Node
node_at nodes k = slice_index_or nodes k no_node

-- the rank of a node, by the nodes
abbrev pub rank_at : List Node → ℕ → ℕ
rank_at nodes k = (node_at nodes k).rank

-- the rank of a node, by the list of ranks; past its end there is none
abbrev pub rank_of : List ℕ → ℕ → ℕ
rank_of ranks k = slice_index ranks k

-- a node has this rank, less 1
pub record HasRank (ranks : List ℕ) (turn : ℕ) : Type 0 where
  pub place : ℕ
  pub is : rank_of ranks place ≡ turn + 1

-- how many times a number is in a list
abbrev pub occurs : ℕ → List ℕ → ℕ
occurs k xs = count_by (λ x. x == k) xs

-- a node over n edges to one that moved: its counts follow, and it is stale
abbrev pub after_lower : Change → Node → ℕ → Node
after_lower change node n =
    record node {
      open_lowers =
          (node.open_lowers + times change.now_available n) - times change.was_available n;
      linked_lowers = (node.linked_lowers + times change.has_link n) - times change.had_link n;
      stale = node.stale || nat_lt 0 n;
    }

-- a node under n edges from one whose use changed: its demand follows, and so does the use of one that is
-- not made; the use of a made one is stale
abbrev pub after_upper : Bool → Bool → Bool → Node → ℕ → Node
after_upper was now is_made node n =
    record node {
      demand = (node.demand + times now n) - times was n;
      use_stale = node.use_stale || (is_made && nat_lt 0 n);
      used =
          if is_made then node.used else
          (if nat_lt 0 n
          then is_used node.available ((node.demand + times now n) - times was n)
          else node.used);
    }

-- a node with other claims, as after a change of use above it
abbrev pub with_claims : ℕ → Bool → Node → Node
with_claims claims is_made node =
    record node {
      claims = claims;
      demand = (node.demand + claims) - node.claims;
      use_stale = node.use_stale || is_made;
      used =
          if is_made then node.used
          else is_used node.available ((node.demand + claims) - node.claims);
    }

-- an absent node without claims; a made one is stale
abbrev pub new_node : ℕ → Row → Node
new_node rank row =
    record {
      kind = row.kind;
      level = row.level;
      rank = rank;
      present = false;
      carrier = false;
      claims = 0;
      available = false;
      link = false;
      used = false;
      open_lowers = 0;
      linked_lowers = 0;
      demand = 0;
      stale = nat_lt 0 rank;
      use_stale = false;
    }

-- the row of a number
abbrev pub row_at : List Row → ℕ → Row
row_at rows k = slice_index_or rows k (record { kind = Broken; level = 0 })
