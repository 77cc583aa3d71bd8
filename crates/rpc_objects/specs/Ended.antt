-- What the code made of a call.
use Rattle.std.specs.Prelude.{ℕ, ◌≡◌, List, Bool, Result, Ok, Err}
use Rattle.std.specs.Option.{option_map}
use Rattle.blob_codec.specs.declared.blob.Attr.{Attr}
use Rattle.uci_store.specs.declared.store.Store.{Store}
use Rattle.uci_tool.specs.Folder.{folder_of}
use Rattle.rpc_session.specs.SessionList.{SessionList}
use Rattle.net_plane.specs.Network.{Network, moment_of}
use Rattle.script_lines.specs.ErrorLine.{error_line}
use Rattle.step_net.specs.Taken.{Telled, Asks}
use Rattle.rpc_objects.specs.declared.uci_answer.CallStop.{CallStop}
use Rattle.rpc_objects.specs.declared.uci_answer.CallStop.TheVariants as stop
use Rattle.rpc_objects.specs.declared.local_object.LocalObject.{LocalObject}
use Rattle.rpc_objects.specs.declared.outcome.Outcome.{Outcome}
use Rattle.rpc_objects.specs.Calls.{Parts, Called, CallsTo}
use Rattle.rpc_objects.specs.Passed.{CallPasses}
use Rattle.rpc_objects.specs.Cut.{Cut, CallCuts, IsCutSo, untouched}
use Rattle.rpc_objects.specs.Kept.{DiskFaults, DiskRose}

abbrev pub parts_of : SessionList → Store → Network → Parts
parts_of sessions store net = record { files = folder_of store; sessions = sessions; net = moment_of net }

-- a call: the moment, the random word, the object, the method and the arguments
pub record Asked : Type 0 where
  pub now : ℕ
  pub word : ℕ
  pub object : LocalObject
  pub method : List ℕ
  pub args : List Attr

-- the call was carried out, and this is to be told of it
pub record IsCalled (call : Asked) (before after : Parts) (kernel : Telled) (told : Outcome) : Type 0 where
  pub failed : Bool
  pub done : Called
  pub calls : CallsTo call.now call.word failed before call.object call.method call.args done
  pub parts : after ≡ done.parts
  pub asked : Asks done.asked failed kernel
  pub answer : told.answer ≡ done.answer
  pub requests : told.requests ≡ done.requests
  pub refusal : told.refusal ≡ option_map error_line done.refusal
  pub created : told.has_created ≡ done.has_created

-- there was no memory, in front of what the call does or behind it; the folder is one that it passes through
pub record IsHalted (call : Asked) (before after : Parts) (kernel : Telled) : Type 0 where
  pub cut : Cut
  pub cuts : CallCuts call.now call.word before call.object call.method call.args cut
  pub left : IsCutSo cut after.net kernel
  pub files : CallPasses call.now before call.method call.args call.object after.files

-- a disk failed, and nothing was done to the plane of interfaces
pub record HasFailed (disks : DiskFaults) (before after : Parts) (kernel : Telled) : Type 0 where
  pub cause : DiskRose disks
  pub left : IsCutSo (untouched before.net) after.net kernel

abbrev pub Ends : Asked → Parts → Parts → Telled → DiskFaults → Result Outcome CallStop → Type 0
Ends call before after kernel disks (Ok told) = IsCalled call before after kernel told
Ends call before after kernel disks (Err stop.DiskFailed) = HasFailed disks before after kernel
Ends call before after kernel disks (Err stop.Memory) = IsHalted call before after kernel

-- the same of a call of the plane of interfaces alone, whatever its errors
abbrev pub EndsAlone : {M : Type 0} → Asked → Parts → Parts → Telled → Result Outcome M → Type 0
EndsAlone call before after kernel (Ok told) = IsCalled call before after kernel told
EndsAlone call before after kernel (Err lacks) = IsHalted call before after kernel
