-- Lists of what may be wanted.
use Rattle.std.specs.Prelude.{ℕ, ◌≡◌, ◌↔◌, ◌<◌, List, length, Contains, Bool, true, false}
use Rattle.kern_calls.specs.Lower.{is_lower}
use Rattle.graph_objects.specs.declared.slot.Wish.{Wish}
use Rattle.graph_objects.specs.Keys.{key_of}
use Rattle.graph_objects.specs.Steady.{IsGrounded}
use Rattle.graph_objects.specs.Slots.{wished_set}
use Rattle.graph_objects.specs.Marks.{is_used}
use Rattle.graph_rules.specs.State.{Known}
use Rattle.graph_rules.specs.Answers.{used_in}
use Rattle.graph_counts.specs.Counted.{name_of}

-- two lists have the same members
abbrev pub HaveSame : List Wish → List Wish → Type 0
HaveSame ws vs = (w : Wish) → Contains ws w ↔ Contains vs w

-- Wishes that can stand beside each other: none is for an address or a route, there is one of a key, and
-- no VLAN is under itself.
pub record AreApart (ws : List Wish) : Type 0 where
  pub lower : (w : Wish) → Contains ws w → is_lower w.object ≡ true
  pub one : (v w : Wish) → Contains ws v → Contains ws w → key_of v.object ≡ key_of w.object → v ≡ w
  pub grounded : IsGrounded (wished_set ws)

-- what may be wanted, and is not
abbrev pub unjudged : Wish → Wish
unjudged w = record w { wanted = false }

-- for each id whether its name is used
abbrev pub AreUsed : Known → List Bool → Type 0
AreUsed s used =
    (id : ℕ) → id < length s.names → is_used used id ≡ used_in s (name_of s id)
