-- A hub in memory.
use Rattle.std.specs.Prelude.{ℕ, List}
use Rattle.plane_outside.specs.declared.event.HubEvent.{HubEvent}
use Rattle.plane_outside.specs.declared.event.Sent.{Sent}

-- the events that are left, what was sent, the numbers of the calls that fail, the number of calls so far, the faults,
-- and how many growths were refused
pub record HubInMemory : Type 0 where
  pub events : List HubEvent
  pub sent : List Sent
  pub failing : List ℕ
  pub made : ℕ
  pub faults : ℕ
  pub refused : ℕ
