-- What a call of a local object comes to: the parts of a world that it moves, what the kernel is asked, the lines of
-- asks, the answer, and why a reload behind it is refused, if it is.
use Rattle.std.specs.Prelude.{ℕ, ◌≡◌, List, [], Bool, true, false, Option, Some, None, Result, Ok, Err}
use Rattle.blob_codec.specs.declared.blob.Attr.{Attr}
use Rattle.kern_model.specs.declared.kernel.Asked.{Asked}
use Rattle.uci_store.specs.declared.store.Store.{Store}
use Rattle.uci_store.specs.Store.{has_failed, IsStore}
use Rattle.uci_tool.specs.Folder.{Folder, folder_of}
use Rattle.rpc_session.specs.SessionList.{SessionList}
use Rattle.rpc_rules.specs.declared.rpc_error.RpcError.{RpcError}
use Rattle.rpc_rules.specs.Arguments.{caller_in}
use Rattle.rpc_uci.specs.declared.reply.Reply.{Reply}
use Rattle.rpc_uci.specs.Call.{renewed}
use Rattle.rpc_uci.specs.Done.{Answers}
use Rattle.net_rules.specs.Moment.{Moment}
use Rattle.script_lines.specs.declared.call_status.CallStatus.{CallStatus}
use Rattle.script_lines.specs.declared.call_status.CallStatus.TheVariants as status
use Rattle.script_lines.specs.declared.line_error.LineError.{LineError}
use Rattle.script_lines.specs.CallStatus.{status_number}
use Rattle.step_net.specs.NetLine.{NetLine}
use Rattle.step_net.specs.Acted.{acted}
use Rattle.rpc_network.specs.declared.net_object.NetObject.{NetObject}
use Rattle.rpc_network.specs.declared.net_call.NetCall.{NetCall}
use Rattle.rpc_network.specs.Method.{method_of}
use Rattle.rpc_network.specs.Reading.{AsksMethod, AsksNothing}
use Rattle.rpc_network.specs.Answered.{answered}
use Rattle.rpc_network.specs.NetCalls.{CallMeans}
use Rattle.step_net.specs.Reload.{ReloadAsks}
use Rattle.rpc_objects.specs.declared.local_answer.LocalAnswer.{LocalAnswer}
use Rattle.rpc_objects.specs.declared.uci_answer.UciAnswer.{UciAnswer}
use Rattle.rpc_objects.specs.LocalAnswer.{told, refused}
use Rattle.rpc_objects.specs.SessionCall.{session_call}
use Rattle.rpc_objects.specs.UciAnswer.{uci_told}
use Rattle.rpc_objects.specs.declared.local_object.LocalObject.{LocalObject}
use Rattle.rpc_objects.specs.declared.local_object.LocalObject.TheVariants.{Session, Uci, Network}

pub record Parts : Type 0 where
  pub files : Folder
  pub sessions : SessionList
  pub net : Moment

pub record Called : Type 0 where
  pub parts : Parts
  pub asked : List Asked
  pub requests : List ℕ
  pub answer : LocalAnswer
  pub refusal : Option LineError
  pub has_created : Bool  -- a session was made, and the random word is used up

-- a call that asks nothing of the plane of interfaces
abbrev pub quiet : Parts → LocalAnswer → Called
quiet parts answer =
    record { parts = parts; asked = []; requests = []; answer = answer; refusal = None; has_created = false }

-- ---- the object `session`

abbrev pub session_called : ℕ → ℕ → Parts → List ℕ → List Attr → Called
session_called now word parts method args =
    let done = session_call method args now word parts.sessions parts.files.staged in
    record (quiet (record parts { files = record parts.files { staged = done.staged }; sessions = done.sessions })
    done.answer) {
      has_created = done.has_created;
    }

-- ---- the object `uci`

-- A store that is open on files of this folder is called, and left with that one. What the call makes of it depends on
-- the folder alone.
pub record StoreCalled (now : ℕ) (sessions : SessionList) (method : List ℕ) (args : List Attr) (before after : Folder)
    (called : Result Reply RpcError) : Type 0 where
  pub old : Store
  pub new : Store
  pub is_old : folder_of old ≡ before
  pub is_new : folder_of new ≡ after
  pub store : IsStore old
  pub ready : has_failed old ≡ false
  pub answers : Answers sessions method args now old new called

-- the files are loaded anew where the call asks for that
pub data Reloads (parts : Parts) (answer : LocalAnswer) : Bool → Called → Type 0 where
  not : Reloads parts answer false (quiet parts answer)
  anew : (act : NetLine) → ReloadAsks parts.files act → Reloads parts answer true (record {
    parts = record parts { net = (acted parts.net act false).net };
    asked = (acted parts.net act false).asked;
    requests = (acted parts.net act false).requests;
    answer = answer;
    refusal = (acted parts.net act false).refused;
    has_created = false;
  })

pub record UciCalled (now : ℕ) (before : Parts) (method : List ℕ) (args : List Attr) (done : Called) : Type 0 where
  pub after : Folder
  pub called : Result Reply RpcError
  pub store : StoreCalled now before.sessions method args before.files after called
  pub told : UciAnswer
  pub answers : uci_told called ≡ Some told
  pub reloads : Reloads
      (record before { files = after; sessions = renewed (caller_in args) now before.sessions }) told.answer told.reload
      done

-- ---- the objects of the network

abbrev pub of_network : Result (List Attr) CallStatus → LocalAnswer
of_network (Ok payload) = told payload
of_network (Err why) = refused (status_number why)

-- what a call comes to that means this
abbrev pub net_called : Parts → NetLine → Bool → Called
net_called parts act failed =
    let done = answered parts.net act failed in
    record (quiet (record parts { net = done.net }) (of_network done.answer))
    { asked = done.asked; requests = done.requests }

pub data NetworkCalled (before : Parts) (object : NetObject) (method : List ℕ) (args : List Attr) (failed : Bool) :
    Called → Type 0 where
  carried : (asked : NetCall) → AsksMethod object method args asked → (act : NetLine) → CallMeans before.files asked act
      → NetworkCalled before object method args failed (net_called before act failed)
  no_method : method_of object method ≡ None
      → NetworkCalled before object method args failed (quiet before (refused (status_number status.MethodNotFound)))
  bad_argument : AsksNothing object method args
      → NetworkCalled before object method args failed (quiet before (refused (status_number status.InvalidArgument)))

-- ---- all

-- a call at this moment, with this random word, where the kernel fails at its event or not
abbrev pub CallsTo : ℕ → ℕ → Bool → Parts → LocalObject → List ℕ → List Attr → Called → Type 0
CallsTo now word failed before Session method args done = done ≡ session_called now word before method args
CallsTo now word failed before Uci method args done = UciCalled now before method args done
CallsTo now word failed before (Network object) method args done = NetworkCalled before object method args failed done
