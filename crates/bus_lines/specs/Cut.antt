-- What lines of calls and clients had done to the plane of interfaces, and asked of the kernel, where they were
-- stopped.
use Rattle.std.specs.Prelude.{ℕ, ◌≡◌, ◌+◌, List, ◌∷◌, ◌++◌, Bool, Some, Ok}
use Rattle.blob_codec.specs.declared.blob.Attr.{Attr}
use Rattle.ubus_frames.specs.declared.frame.Frame.{Frame}
use Rattle.ubus_table.specs.declared.rows.LocalCall.{LocalCall}
use Rattle.ubus_table.specs.Served.{frame as frame_event}
use Rattle.rpc_session.specs.SessionList.{SessionList}
use Rattle.step_net.specs.Moved.{failed_events}
use Rattle.call_texts.specs.Arguments.{arguments_of}
use Rattle.bus_clients.specs.declared.clients.Fed.{Fed}
use Rattle.bus_clients.specs.declared.clients.ScriptClient.{ScriptClient}
use Rattle.bus_clients.specs.Fed.{HasFed}
use Rattle.bus_clients.specs.Bus.{came_by}
use Rattle.rpc_objects.specs.declared.local_object.LocalObject.{LocalObject}
use Rattle.rpc_objects.specs.Object.{of_path, of_number}
use Rattle.rpc_objects.specs.Cut.{Cut, untouched, CallCuts}
use Rattle.bus_lines.specs.declared.caller_line.CallWords.{CallWords}
use Rattle.bus_lines.specs.declared.caller_line.CallerLine.{CallerLine}
use Rattle.bus_lines.specs.declared.caller_line.CallerLine.TheVariants as line
use Rattle.bus_lines.specs.World.{World, parts_of}
use Rattle.bus_lines.specs.Did.{Did}
use Rattle.bus_lines.specs.CallLine.{Admits, call_with}
use Rattle.bus_lines.specs.ClientLine.{came_did, FramesDo, fed_world}

-- a line that calls a method: nothing was done, or the call was cut
pub data CallLineCuts (world : World) (number : ℕ) (words : CallWords) : Cut → Type 0 where
  in_front : CallLineCuts world number words (untouched world.net)
  within : (args : List Attr) → arguments_of number words.json ≡ Ok args
      → (list : SessionList) (all : List Attr)
      → Admits world.now world.sessions (call_with words args) words.session list (Ok all)
      → (object : LocalObject) → of_path words.path ≡ Some object → (word : ℕ) (cut : Cut)
      → CallCuts world.now word (record (parts_of world) { sessions = list }) object words.method all cut
      → CallLineCuts world number words cut

-- a frame that was served
pub data FrameCuts (world : World) (word number : ℕ) (frame : Frame) : Cut → Type 0 where
  in_front : FrameCuts world word number frame (untouched world.net)
  within : (call : LocalCall)
      → (came_by world.bus (frame_event number frame)).call ≡ Some call
      → (object : LocalObject) → of_number call.object ≡ Some object → (cut : Cut)
      → CallCuts world.now word
      (parts_of (came_did world (came_by world.bus (frame_event number frame))).world)
      object call.method call.args cut
      → FrameCuts world word number frame cut

-- this was done, and then it was cut so
abbrev pub cut_behind : Did → List Bool → Cut → Cut
cut_behind did failures cut = record {
  held = cut.held;
  asked = did.asked ++ cut.asked;
  failures = failed_events failures + cut.failures;
}

-- frames: some were served, and the next one was cut, if there is one
pub data FramesCut (world : World) (number : ℕ) (frames : List Frame) : Cut → Type 0 where
  within : (done : List Frame) (frame : Frame) (rest : List Frame) → frames ≡ done ++ frame ∷ rest
      → (words : List ℕ) (failures : List Bool) (so_far : Did)
      → FramesDo world number done words failures so_far → (word : ℕ) (cut : Cut)
      → FrameCuts so_far.world word number frame cut
      → FramesCut world number frames (cut_behind so_far failures cut)
  behind : (words : List ℕ) (failures : List Bool) (did : Did)
      → FramesDo world number frames words failures did
      → FramesCut world number frames (cut_behind did failures (untouched did.world.net))

-- bytes of a client
pub data BytesCut (world : World) (key : ℕ) (piece : List ℕ) : Cut → Type 0 where
  in_front : BytesCut world key piece (untouched world.net)
  within : (fed : Fed) (clients : List ScriptClient)
      → HasFed key piece world.bus.clients clients fed → (cut : Cut)
      → FramesCut (fed_world world clients) fed.number fed.frames cut
      → BytesCut world key piece cut

-- any of these lines
abbrev pub LineCuts : World → ℕ → CallerLine → Cut → Type 0
LineCuts world number (line.Call words) cut = CallLineCuts world number words cut
LineCuts world number (line.Open client user group) cut = cut ≡ untouched world.net
LineCuts world number (line.Bytes client bytes) cut = BytesCut world client bytes cut
LineCuts world number (line.Close client) cut = cut ≡ untouched world.net
