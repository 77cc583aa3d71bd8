-- What is told of a line of a client.
use Rattle.std.specs.Prelude.{ℕ, ◌≡◌, ◌≢◌, ◌++◌, List, [], Option, Some, None, Result, Ok, Err}
use Rattle.std.specs.Option.{option_map}
use Rattle.ubus_frames.specs.declared.frame_error.FrameError.{FrameError}
use Rattle.script_lines.specs.declared.line_error.LineError.{LineError}
use Rattle.script_lines.specs.ErrorLine.{error_line}
use Rattle.step_net.specs.Told.{shown}
use Rattle.step_net.specs.Taken.{telling_in}
use Rattle.bus_clients.specs.declared.client_error.ClientError.{ClientError}
use Rattle.bus_clients.specs.declared.client_error.ClientError.TheVariants as client
use Rattle.bus_clients.specs.Bus.{BusPart, Came, closed}
use Rattle.bus_lines.specs.declared.handled.Handled.{Handled}
use Rattle.bus_lines.specs.declared.gathered.Gathered.{Gathered}
use Rattle.bus_lines.specs.ClientLine.{error_of, fault_error}
use Rattle.bus_lines.specs.Did.{first_of}
use Rattle.bus_lines.specs.Replied.{TellsError}

-- this came of an event, and is to be told
pub record TellsCame (came : Came) (now : BusPart) (told : Handled) : Type 0 where
  pub part : now ≡ came.part
  pub sent : told.sent ≡ came.told
  pub telling : telling_in told.told ≡ shown []

-- the line is refused so, and the bus stays
pub record TellsRefusal (why : ClientError) (before now : BusPart) (told : Handled) : Type 0 where
  pub part : now ≡ before
  pub tells : TellsError (error_of why) told

abbrev pub TellsOf : Result Came ClientError → BusPart → BusPart → Handled → Type 0
TellsOf (Ok came) before now told = TellsCame came now told
TellsOf (Err why) before now told = TellsRefusal why before now told

-- a refusal is told, which is no want of memory
pub record RefusesClient (why : ClientError) (told : Handled) : Type 0 where
  pub not : why ≢ client.Memory
  pub tells : TellsError (error_of why) told

-- how an answer of the bus is told, with the lines of its sends
abbrev pub TellsAnswer : {X : Type 0} → Result X ClientError → List ℕ → Handled → Type 0
TellsAnswer (Ok done) sent told = (told.sent ≡ sent) × (telling_in told.told ≡ shown [])
TellsAnswer (Err why) sent told = RefusesClient why told

-- what comes of an event that may be refused, which leaves the bus then
abbrev pub came_or_stays : BusPart → Result Came ClientError → Came
came_or_stays part (Ok came) = came
came_or_stays part (Err why) = record { part = part; told = []; call = None }

-- a fault closes the client
abbrev pub faulted : BusPart → ℕ → Option FrameError → Came
faulted part key None = record { part = part; told = []; call = None }
faulted part key (Some why) = came_or_stays part (closed part key)

-- the bus behind the end of a line of bytes, and what is told of it
pub record EndsBytes (before : BusPart) (key : ℕ) (fault : Option FrameError) (all : Gathered) (now : BusPart)
    (told : Handled) : Type 0 where
  pub part : now ≡ (faulted before key fault).part
  pub sent : told.sent ≡ all.sent.items ++ (faulted before key fault).told
  pub shown : told.told.shown ≡ all.requests.items
  pub refusal : told.told.refusal
      ≡ first_of all.refusal (option_map (λ why. error_line (fault_error why)) fault)

-- what was gathered is told, and then this error where no refusal came before
pub record TellsGathered (all : Gathered) (error : Option LineError) (told : Handled) : Type 0 where
  pub sent : told.sent ≡ all.sent.items
  pub shown : told.told.shown ≡ all.requests.items
  pub refusal : told.told.refusal ≡ first_of all.refusal (option_map error_line error)
