-- What a client has sent.
use Rattle.std.specs.Prelude.{ℕ, ◌≡◌, ◌≢◌, List, [], Option, Some, None, Result, Ok, Err}
use Rattle.ubus_frames.specs.declared.frame_error.FrameError.{FrameError}
use Rattle.ubus_frames.specs.declared.frame_error.FrameError.TheVariants.{Memory as FrameMemory}
use Rattle.ubus_frames.specs.declared.frame.Frame.{Frame}
use Rattle.ubus_frames.specs.Stream.{Stream, Feeds, Refuses}
use Rattle.bus_clients.specs.declared.clients.ScriptClient.{ScriptClient}
use Rattle.bus_clients.specs.declared.clients.Fed.{Fed}
use Rattle.bus_clients.specs.Clients.{client_at, with_stream}

-- a piece is behind what was sent, and brings this fault, or none
abbrev pub Brings : List ℕ → Stream → Stream → Option FrameError → Type 0
Brings piece before after None = Feeds piece before after
Brings piece before after (Some fault) = Refuses piece before after fault

-- how a feed ended: with this fault, or with none
abbrev pub IsFaultIn : {A : Type 0} → Result A FrameError → Option FrameError → Type 0
IsFaultIn (Ok fed) fault = fault ≡ None
IsFaultIn (Err error) fault = (fault ≡ Some error) × (error ≢ FrameMemory)

-- A piece is taken: all frames that are whole then are handed out, and what is behind them stays.
pub record IsTaken (piece : List ℕ) (before after : Stream) (frames : List Frame) (fault : Option FrameError)
    : Type 0 where
  pub brings : Brings piece before (record { frames = frames; rest = after.rest }) fault
  pub none : after.frames ≡ []

-- a client took a piece
pub record IsFed (piece : List ℕ) (before after : ScriptClient) (fed : Fed) : Type 0 where
  pub taken : IsTaken piece before.feeder after.feeder fed.frames fed.fault
  pub same : after ≡ record before { feeder = after.feeder }
  pub number : fed.number ≡ before.number

-- the client of the script took a piece, and the others stay
pub record HasFed (key : ℕ) (piece : List ℕ) (before after : List ScriptClient) (fed : Fed) : Type 0 where
  pub client : ScriptClient
  pub is : client_at before key ≡ Some client
  pub stream : Stream
  pub taken : IsTaken piece client.feeder stream fed.frames fed.fault
  pub number : fed.number ≡ client.number
  pub next : after ≡ with_stream key stream before
