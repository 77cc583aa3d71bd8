-- What the code made of a call of the object `uci`: of the call itself, and of the reload behind it.
use Rattle.std.specs.Prelude.{ℕ, ◌≡◌, List, [], false, Some, Result, Ok, Err, IfOk}
use Rattle.std.specs.Option.{option_map}
use Rattle.blob_codec.specs.declared.blob.Attr.{Attr}
use Rattle.uci_tool.specs.Folder.{Folder}
use Rattle.rpc_session.specs.SessionList.{SessionList}
use Rattle.rpc_rules.specs.declared.rpc_error.RpcError.{RpcError}
use Rattle.rpc_uci.specs.declared.reply.Reply.{Reply}
use Rattle.net_plane.specs.Network.{Network, moment_of}
use Rattle.script_lines.specs.ErrorLine.{error_line}
use Rattle.step_net.specs.Taken.{Telled, Asks}
use Rattle.rpc_objects.specs.declared.uci_answer.UciAnswer.{UciAnswer}
use Rattle.rpc_objects.specs.declared.uci_answer.CallStop.{CallStop}
use Rattle.rpc_objects.specs.declared.uci_answer.CallStop.TheVariants as stop
use Rattle.rpc_objects.specs.UciAnswer.{uci_told}
use Rattle.rpc_objects.specs.declared.local_object.LocalObject.TheVariants.{Uci}
use Rattle.rpc_objects.specs.declared.outcome.Outcome.{Outcome}
use Rattle.rpc_objects.specs.Calls.{Parts, Called, StoreCalled, Reloads}
use Rattle.rpc_objects.specs.Kept.{DiskFaults}
use Rattle.rpc_objects.specs.Ended.{Ends}

-- the store was called, and this is answered, unless a disk failed or there was no memory
pub record IsServed (now : ℕ) (sessions : SessionList) (method : List ℕ) (args : List Attr) (before after : Folder)
    (result : Result UciAnswer CallStop) : Type 0 where
  pub called : Result Reply RpcError
  pub store : StoreCalled now sessions method args before after called
  pub told : IfOk result (λ answer. uci_told called ≡ Some answer)

-- this is told of a call that came to that
pub record IsToldOf (done : Called) (told : Outcome) : Type 0 where
  pub answer : told.answer ≡ done.answer
  pub requests : told.requests ≡ done.requests
  pub refusal : told.refusal ≡ option_map error_line done.refusal
  pub created : told.has_created ≡ done.has_created

-- the files were loaded anew where the call asks for that, and the kernel was asked nothing
pub record IsReloaded (before : Parts) (answer : UciAnswer) (now : Network) (outcome : Outcome) : Type 0 where
  pub done : Called
  pub reloads : Reloads before answer.answer answer.reload done
  pub parts : record before { net = moment_of now } ≡ done.parts
  pub none : done.asked ≡ []
  pub told : IsToldOf done outcome
  pub silent : now.notices ≡ []

-- there was no memory, in front of the reload or behind it
pub data IsHaltedAt (before : Parts) (answer : UciAnswer) (old now : Network) : Type 0 where
  in_front : now ≡ old → IsHaltedAt before answer old now
  behind : (done : Called) → Reloads before answer.answer answer.reload done
      → (moment_of now).held ≡ done.parts.net.held → done.asked ≡ [] → IsHaltedAt before answer old now

abbrev pub ReloadsTo : Parts → UciAnswer → Network → Network → Result Outcome CallStop → Type 0
ReloadsTo before answer old now (Ok told) = IsReloaded before answer now told
ReloadsTo before answer old now (Err stop.DiskFailed) = ⊥
ReloadsTo before answer old now (Err stop.Memory) = IsHaltedAt before answer old now

-- a call of `uci` ends so, whatever the random word is, where a kernel is asked nothing
abbrev pub UciEnds : ℕ → List ℕ → List Attr → Parts → Parts → DiskFaults → Result Outcome CallStop → Type 0
UciEnds now method args before after disks result = (word : ℕ) (kernel : Telled) → Asks [] false kernel
    → Ends (record { now = now; word = word; object = Uci; method = method; args = args }) before after kernel disks
    result
