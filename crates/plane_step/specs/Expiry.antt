-- Sessions that expire, and go with what they have staged.
use Rattle.std.specs.Prelude.{ℕ, ◌≡◌, ◌≤◌, ◌<◌, List, Some, None, Ok}
use Rattle.uci_staged.specs.declared.change.StagedChange.{StagedChange}
use Rattle.uci_staged.specs.Change.{forgotten}
use Rattle.rpc_session.specs.SessionList.{SessionList}
use Rattle.rpc_session.specs.Sessions.{first_expired, destroyed}
use Rattle.bus_lines.specs.World.{World}

-- Some of the sessions that are not live at the moment go, one after the other from the first one on, each with what it
-- has staged.
pub data Goes (now : ℕ) : SessionList → List StagedChange → SessionList → List StagedChange → Type 0 where
  none : (list : SessionList) (staged : List StagedChange) → Goes now list staged list staged
  more : (id : ℕ) (list fewer last : SessionList) (staged left : List StagedChange)
      → first_expired now list.sessions ≡ Some id → destroyed id list ≡ Ok fewer
      → Goes now fewer (forgotten id staged) last left → Goes now list staged last left

-- the world with these sessions and staged changes
abbrev pub keeping : World → SessionList → List StagedChange → World
keeping world list staged = record world {
  files = record world.files { staged = staged };
  sessions = list;
}

-- The world within the coming of a moment, before files are rolled back. One before the last changes nothing; else
-- sessions go.
pub data Reached (world : World) (moment : ℕ) : World → Type 0 where
  past : moment < world.now → Reached world moment world
  comes : world.now ≤ moment → (list : SessionList) (staged : List StagedChange)
      → Goes moment world.sessions world.files.staged list staged
      → Reached world moment (keeping world list staged)

-- The world as the moment finds it: all sessions that are left are live, unless the moment is before the last.
pub record Expired (world : World) (moment : ℕ) (found : World) : Type 0 where
  pub reached : Reached world moment found
  pub live : world.now ≤ moment → first_expired moment found.sessions.sessions ≡ None
