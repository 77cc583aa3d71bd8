-- Lines of clients: they open, send bytes and close.
use Rattle.std.specs.Prelude.{ℕ, ◌≡◌, List, [], ◌∷◌, ◌++◌, Bool, Option, Some, None, Result, Ok, Err}
use Rattle.ubus_frames.specs.declared.frame.Frame.{Frame}
use Rattle.ubus_frames.specs.declared.frame_error.FrameError.{FrameError}
use Rattle.ubus_frames.specs.declared.frame_error.FrameError.TheVariants as fault
use Rattle.ubus_table.specs.declared.rows.LocalCall.{LocalCall}
use Rattle.ubus_table.specs.Served.{frame as frame_event, local_reply}
use Rattle.script_lines.specs.declared.line_error.LineError.{LineError}
use Rattle.script_lines.specs.declared.line_error.LineError.TheVariants as error
use Rattle.bus_clients.specs.declared.client_error.ClientError.{ClientError}
use Rattle.bus_clients.specs.declared.client_error.ClientError.TheVariants as client
use Rattle.bus_clients.specs.declared.clients.Fed.{Fed}
use Rattle.bus_clients.specs.declared.clients.ScriptClient.{ScriptClient}
use Rattle.bus_clients.specs.Clients.{client_at}
use Rattle.bus_clients.specs.Fed.{HasFed}
use Rattle.bus_clients.specs.Bus.{Came, came_by, opened, closed}
use Rattle.rpc_objects.specs.declared.uci_answer.CallStop.{CallStop}
use Rattle.rpc_objects.specs.declared.uci_answer.CallStop.TheVariants as stop
use Rattle.rpc_objects.specs.declared.local_object.LocalObject.{LocalObject}
use Rattle.rpc_objects.specs.Object.{of_number}
use Rattle.rpc_objects.specs.Calls.{Called, CallsTo}
use Rattle.bus_lines.specs.World.{World, parts_of, with_parts}
use Rattle.bus_lines.specs.Words.{used_by}
use Rattle.bus_lines.specs.Did.{Did, nothing_did, refused_did, followed}

-- the refusals of a client's line
abbrev pub error_of : ClientError → LineError
error_of client.ClientOpen = error.ClientOpen
error_of client.NoClient = error.NoClient
error_of client.Full = error.Full
error_of client.Memory = error.Memory

-- the fault of bytes, as a line tells it
abbrev pub fault_error : FrameError → LineError
fault_error (fault.Version byte) = error.Version
fault_error (fault.TooLong length) = error.TooLong
fault_error (fault.BadBlob inner) = error.BadBlob
fault_error fault.Memory = error.Memory

-- what came of an event of the bus is told
abbrev pub came_did : World → Came → Did
came_did world came =
    record (nothing_did (record world { bus = came.part })) { sent = came.told }

abbrev pub came_or_refused : World → Result Came ClientError → Did
came_or_refused world (Ok came) = came_did world came
came_or_refused world (Err why) = refused_did world (error_of why)

-- `open` and `close`
abbrev pub open_did : World → ℕ → List ℕ → List ℕ → Did
open_did world key user group = came_or_refused world (opened world.bus key user group)

abbrev pub close_did : World → ℕ → Did
close_did world key = came_or_refused world (closed world.bus key)

-- what is told of a call that was handed out: its reply goes to the caller
abbrev pub replied_did : World → ℕ → LocalCall → Called → Did
replied_did world word call done =
    let mid = with_parts world done.parts in
    let replied = came_by mid.bus (local_reply call.caller call.seq call.object
    done.answer.status done.answer.payload) in
    record {
      world = record mid { bus = replied.part };
      asked = done.asked;
      sent = replied.told;
      requests = done.requests;
      reply = [];
      refusal = done.refusal;
      words = used_by done.has_created word;
    }

-- a call that was handed out is carried out and answered, if it is one of these objects; its reload may refuse the line
pub data CallAnswers (world : World) (word : ℕ) (failed : Bool) (call : LocalCall) : Did → Type 0 where
  none : of_number call.object ≡ None → CallAnswers world word failed call (nothing_did world)
  some : (object : LocalObject) → of_number call.object ≡ Some object → (done : Called)
      → CallsTo world.now word failed (parts_of world) object call.method call.args done
      → CallAnswers world word failed call (replied_did world word call done)

-- what came of an event may have handed a call out
pub data HandsOut (word : ℕ) (failed : Bool) (world : World) : Option LocalCall → Did → Type 0 where
  nothing : HandsOut word failed world None (nothing_did world)
  calls : (call : LocalCall) (did : Did) → CallAnswers world word failed call did
      → HandsOut word failed world (Some call) did

-- a frame is served
pub record FrameDoes (world : World) (word : ℕ) (failed : Bool) (number : ℕ) (frame : Frame) (did : Did) : Type 0 where
  pub behind : Did
  pub hands : HandsOut word failed
      (came_did world (came_by world.bus (frame_event number frame))).world
      (came_by world.bus (frame_event number frame)).call behind
  pub is : did ≡ followed (came_did world (came_by world.bus (frame_event number frame))) behind

-- Frames one after the other, each with its random word and with whether the kernel fails at its event.
pub data FramesDo (world : World) (number : ℕ) : List Frame → List ℕ → List Bool → Did → Type 0 where
  none : FramesDo world number [] [] [] (nothing_did world)
  more : (frames : List Frame) (words : List ℕ) (failures : List Bool) (so_far : Did) (frame : Frame)
      (word : ℕ) (failed : Bool) (did : Did) → FramesDo world number frames words failures so_far
      → FrameDoes so_far.world word failed number frame did
      → FramesDo world number (frames ++ frame ∷ []) (words ++ word ∷ []) (failures ++ failed ∷ [])
      (followed so_far did)

-- a fault closes the client, and is the line's error where none came before
abbrev pub fault_did : World → ℕ → Option FrameError → Did
fault_did world key None = nothing_did world
fault_did world key (Some why) = record (close_did world key) { refusal = Some (fault_error why) }

-- the world in which the client has sent a piece more
abbrev pub fed_world : World → List ScriptClient → World
fed_world world clients = record world { bus = record world.bus { clients = clients } }

-- `bytes`: the frames that they complete are served, and then their fault, if there is one
pub data BytesDo (world : World) (key : ℕ) (piece : List ℕ) (words : List ℕ) (failures : List Bool) : Did → Type 0 where
  unknown : client_at world.bus.clients key ≡ None
      → BytesDo world key piece words failures (refused_did world error.NoClient)
  served : (fed : Fed) (clients : List ScriptClient) → HasFed key piece world.bus.clients clients fed
      → (did : Did) → FramesDo (fed_world world clients) fed.number fed.frames words failures did
      → BytesDo world key piece words failures (followed did (fault_did did.world key fed.fault))

-- want of memory stops a line
abbrev pub or_memory : {A M : Type 0} → Result A M → Result A CallStop
or_memory (Ok told) = Ok told
or_memory (Err lacks) = Err stop.Memory
