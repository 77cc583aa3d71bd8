-- The folders that lines of calls and clients pass through.
use Rattle.std.specs.Prelude.{ℕ, ◌≡◌, List, ◌∷◌, ◌++◌, Bool, Some, Ok}
use Rattle.blob_codec.specs.declared.blob.Attr.{Attr}
use Rattle.ubus_frames.specs.declared.frame.Frame.{Frame}
use Rattle.ubus_table.specs.declared.rows.LocalCall.{LocalCall}
use Rattle.ubus_table.specs.Served.{frame as frame_event}
use Rattle.rpc_session.specs.SessionList.{SessionList}
use Rattle.uci_tool.specs.Folder.{Folder}
use Rattle.call_texts.specs.Arguments.{arguments_of}
use Rattle.bus_clients.specs.declared.clients.Fed.{Fed}
use Rattle.bus_clients.specs.declared.clients.ScriptClient.{ScriptClient}
use Rattle.bus_clients.specs.Fed.{HasFed}
use Rattle.bus_clients.specs.Bus.{came_by}
use Rattle.rpc_objects.specs.declared.local_object.LocalObject.{LocalObject}
use Rattle.rpc_objects.specs.Object.{of_path, of_number}
use Rattle.rpc_objects.specs.Passed.{CallPasses}
use Rattle.bus_lines.specs.declared.caller_line.CallWords.{CallWords}
use Rattle.bus_lines.specs.declared.caller_line.CallerLine.{CallerLine}
use Rattle.bus_lines.specs.declared.caller_line.CallerLine.TheVariants as line
use Rattle.bus_lines.specs.World.{World, parts_of}
use Rattle.bus_lines.specs.Did.{Did}
use Rattle.bus_lines.specs.CallLine.{Admits, call_with}
use Rattle.bus_lines.specs.ClientLine.{came_did, FramesDo, fed_world}

-- a line that calls a method: the folder that it finds, or one that the call passes through
pub data CallLinePasses (world : World) (number : ℕ) (words : CallWords) : Folder → Type 0 where
  front : CallLinePasses world number words world.files
  within : (args : List Attr) → arguments_of number words.json ≡ Ok args
      → (list : SessionList) (all : List Attr)
      → Admits world.now world.sessions (call_with words args) words.session list (Ok all)
      → (object : LocalObject) → of_path words.path ≡ Some object → (folder : Folder)
      → CallPasses world.now (record (parts_of world) { sessions = list }) words.method all object folder
      → CallLinePasses world number words folder

-- a call that was handed out
pub data HandedPasses (world : World) (call : LocalCall) : Folder → Type 0 where
  front : HandedPasses world call world.files
  within : (object : LocalObject) → of_number call.object ≡ Some object → (folder : Folder)
      → CallPasses world.now (parts_of world) call.method call.args object folder
      → HandedPasses world call folder

-- a frame that is served
pub data FramePasses (world : World) (number : ℕ) (frame : Frame) : Folder → Type 0 where
  front : FramePasses world number frame world.files
  within : (call : LocalCall)
      → (came_by world.bus (frame_event number frame)).call ≡ Some call → (folder : Folder)
      → HandedPasses (came_did world (came_by world.bus (frame_event number frame))).world call folder
      → FramePasses world number frame folder

-- Frames: the folder that they find, or one that a frame passes through behind others.
pub data FramesPass (world : World) (number : ℕ) (frames : List Frame) : Folder → Type 0 where
  front : FramesPass world number frames world.files
  within : (done : List Frame) (frame : Frame) (rest : List Frame) → frames ≡ done ++ frame ∷ rest
      → (words : List ℕ) (failures : List Bool) (so_far : Did)
      → FramesDo world number done words failures so_far → (folder : Folder)
      → FramePasses so_far.world number frame folder → FramesPass world number frames folder

-- bytes of a client
pub data BytesPass (world : World) (key : ℕ) (piece : List ℕ) : Folder → Type 0 where
  front : BytesPass world key piece world.files
  within : (fed : Fed) (clients : List ScriptClient)
      → HasFed key piece world.bus.clients clients fed → (folder : Folder)
      → FramesPass (fed_world world clients) fed.number fed.frames folder
      → BytesPass world key piece folder

-- any of these lines
abbrev pub LinePasses : World → ℕ → CallerLine → Folder → Type 0
LinePasses world number (line.Call words) folder = CallLinePasses world number words folder
LinePasses world number (line.Open client user group) folder = folder ≡ world.files
LinePasses world number (line.Bytes client bytes) folder = BytesPass world client bytes folder
LinePasses world number (line.Close client) folder = folder ≡ world.files
