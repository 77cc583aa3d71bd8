-- A call with the next random word.
use Rattle.std.specs.Prelude.{ℕ, ◌≡◌, List, Bool, Result, Ok, Err}
use Rattle.std.specs.Option.{option_map}
use Rattle.blob_codec.specs.declared.blob.Attr.{Attr}
use Rattle.uci_tool.specs.Folder.{Folder}
use Rattle.script_lines.specs.ErrorLine.{error_line}
use Rattle.step_net.specs.Taken.{Telled, Asks}
use Rattle.rpc_objects.specs.declared.uci_answer.CallStop.{CallStop}
use Rattle.rpc_objects.specs.declared.uci_answer.CallStop.TheVariants as stop
use Rattle.rpc_objects.specs.declared.local_object.LocalObject.{LocalObject}
use Rattle.rpc_objects.specs.declared.outcome.Outcome.{Outcome}
use Rattle.rpc_objects.specs.Calls.{Called, CallsTo}
use Rattle.rpc_objects.specs.Passed.{CallPasses}
use Rattle.rpc_objects.specs.Cut.{Cut, CallCuts}
use Rattle.rpc_objects.specs.Kept.{DiskFaults}
use Rattle.bus_lines.specs.declared.callers.Callers.{Callers}
use Rattle.bus_lines.specs.World.{World, parts_of, with_parts}
use Rattle.plane_outside.specs.Supply.{Supply, Uses, supply_of}
use Rattle.bus_lines.specs.Words.{used_by}
use Rattle.bus_lines.specs.Ended.{Seen, IsHalted, HasFailed}

-- what is seen of the outside, with the words of a source before and now
abbrev pub seen_by : Telled → Callers → Callers → Supply → Supply → DiskFaults → Seen
seen_by kernel callers now words words_now disks = record {
  kernel = kernel;
  supply = supply_of callers.spare.word words;
  supply_now = supply_of now.spare.word words_now;
  disks = disks;
}

-- a call was carried out, with this random word and whether the kernel failed at its event, and this is to be told of
-- it
pub record IsOut (Does : ℕ → Bool → Called → Type 0) (before now : World) (seen : Seen) (told : Outcome) : Type 0 where
  pub word : ℕ
  pub failed : Bool
  pub done : Called
  pub does : Does word failed done
  pub next : now ≡ with_parts before done.parts
  pub asked : Asks done.asked failed seen.kernel
  pub used : Uses seen.supply (used_by done.has_created word) seen.supply_now
  pub answer : told.answer ≡ done.answer
  pub requests : told.requests ≡ done.requests
  pub refusal : told.refusal ≡ option_map error_line done.refusal

-- how a call ended that does this, may be cut so, and passes through these folders
abbrev pub CallEnds : (ℕ → Bool → Called → Type 0) → (Cut → Type 0) → (Folder → Type 0) → World → World → Seen
    → Result Outcome CallStop → Type 0
CallEnds Does Cuts Passes before now seen (Ok told) = IsOut Does before now seen told
CallEnds Does Cuts Passes before now seen (Err stop.DiskFailed) = HasFailed Cuts now seen
CallEnds Does Cuts Passes before now seen (Err stop.Memory) = IsHalted Cuts Passes now seen

-- a call of an object
abbrev pub ObjectDoes : World → LocalObject → List ℕ → List Attr → ℕ → Bool → Called → Type 0
ObjectDoes world object method args word failed done =
    CallsTo world.now word failed (parts_of world) object method args done

pub record ObjectCuts (world : World) (object : LocalObject) (method : List ℕ) (args : List Attr) (cut : Cut)
    : Type 0 where
  pub word : ℕ
  pub is : CallCuts world.now word (parts_of world) object method args cut

abbrev pub ObjectPasses : World → LocalObject → List ℕ → List Attr → Folder → Type 0
ObjectPasses world object method args folder =
    CallPasses world.now (parts_of world) method args object folder
