-- Frames that are served.
use Rattle.std.specs.Prelude.{ℕ, ◌≡◌, List, Bool, Some, Result, Ok, Err}
use Rattle.std.specs.Option.{option_map}
use Rattle.ubus_frames.specs.declared.frame.Frame.{Frame}
use Rattle.ubus_table.specs.declared.rows.LocalCall.{LocalCall}
use Rattle.uci_tool.specs.Folder.{Folder}
use Rattle.script_lines.specs.ErrorLine.{error_line}
use Rattle.step_net.specs.Taken.{Asks}
use Rattle.rpc_objects.specs.declared.uci_answer.CallStop.{CallStop}
use Rattle.rpc_objects.specs.declared.uci_answer.CallStop.TheVariants as stop
use Rattle.bus_clients.specs.declared.clients.Fed.{Fed}
use Rattle.rpc_objects.specs.declared.local_object.LocalObject.{LocalObject}
use Rattle.rpc_objects.specs.Object.{of_number}
use Rattle.rpc_objects.specs.Cut.{Cut, CallCuts, untouched}
use Rattle.bus_lines.specs.declared.gathered.Gathered.{Gathered}
use Rattle.bus_lines.specs.World.{World, parts_of}
use Rattle.plane_outside.specs.Supply.{Uses}
use Rattle.bus_lines.specs.Did.{Did, followed}
use Rattle.bus_lines.specs.ClientLine.{CallAnswers, FrameDoes, FramesDo, fault_did}
use Rattle.bus_lines.specs.Cut.{FrameCuts}
use Rattle.bus_lines.specs.Ended.{Seen, AsksBy, IsHalted, HasFailed}
use Rattle.bus_lines.specs.Gathered.{Gathers}

-- a part of a line was done, with this random word and whether the kernel failed at its event, and was gathered
pub record HasStepped (Does : ℕ → Bool → Did → Type 0) (now : World) (seen : Seen) (before after : Gathered)
    : Type 0 where
  pub word : ℕ
  pub failed : Bool
  pub did : Did
  pub does : Does word failed did
  pub next : now ≡ did.world
  pub asked : Asks did.asked failed seen.kernel
  pub used : Uses seen.supply did.words seen.supply_now
  pub gathers : Gathers did before after

-- how such a part ended that may be cut so, and passes through these folders
abbrev pub StepEnds : {X : Type 0} → (ℕ → Bool → Did → Type 0) → (Cut → Type 0) → (Folder → Type 0) → World → Seen
    → Gathered → Gathered → Result X CallStop → Type 0
StepEnds Does Cuts Passes now seen before after (Ok done) = HasStepped Does now seen before after
StepEnds Does Cuts Passes now seen before after (Err stop.DiskFailed) = HasFailed Cuts now seen
StepEnds Does Cuts Passes now seen before after (Err stop.Memory) = IsHalted Cuts Passes now seen

-- a call that was handed out
abbrev pub HandedDoes : World → LocalCall → ℕ → Bool → Did → Type 0
HandedDoes world call word failed did = CallAnswers world word failed call did

pub data HandedCuts (world : World) (call : LocalCall) : Cut → Type 0 where
  in_front : HandedCuts world call (untouched world.net)
  within : (object : LocalObject) → of_number call.object ≡ Some object → (word : ℕ) (cut : Cut)
      → CallCuts world.now word (parts_of world) object call.method call.args cut
      → HandedCuts world call cut

-- a frame
abbrev pub OneDoes : World → ℕ → Frame → ℕ → Bool → Did → Type 0
OneDoes world number frame word failed did = FrameDoes world word failed number frame did

pub record OneCuts (world : World) (number : ℕ) (frame : Frame) (cut : Cut) : Type 0 where
  pub word : ℕ
  pub is : FrameCuts world word number frame cut

-- all frames were served, with these random words and whether the kernel failed at their events, and were gathered
pub record HasServed (world : World) (number : ℕ) (frames : List Frame) (now : World) (seen : Seen) (all : Gathered)
    : Type 0 where
  pub words : List ℕ
  pub failures : List Bool
  pub did : Did
  pub does : FramesDo world number frames words failures did
  pub next : now ≡ did.world
  pub asked : AsksBy did.asked failures seen.kernel
  pub used : Uses seen.supply did.words seen.supply_now
  pub sent : all.sent.items ≡ did.sent
  pub requests : all.requests.items ≡ did.requests
  pub refusal : all.refusal ≡ option_map error_line did.refusal

abbrev pub ServeEnds : World → ℕ → List Frame → (Cut → Type 0) → (Folder → Type 0) → World → Seen
    → Result Gathered CallStop → Type 0
ServeEnds world number frames Cuts Passes now seen (Ok all) = HasServed world number frames now seen all
ServeEnds world number frames Cuts Passes now seen (Err stop.DiskFailed) = HasFailed Cuts now seen
ServeEnds world number frames Cuts Passes now seen (Err stop.Memory) = IsHalted Cuts Passes now seen

-- the frames that a client has sent are served, and then their fault, if there is one
pub record FedDoes (world : World) (key : ℕ) (fed : Fed) (words : List ℕ) (failures : List Bool) (did : Did)
    : Type 0 where
  pub front : Did
  pub frames : FramesDo world fed.number fed.frames words failures front
  pub is : did ≡ followed front (fault_did front.world key fed.fault)
