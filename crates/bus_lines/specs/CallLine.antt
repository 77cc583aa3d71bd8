-- A line that calls a method of a local object.
use Rattle.std.specs.Prelude.{ℕ, ◌≡◌, ◌==◌, List, [], Bool, Option, Some, None, Result, Ok, Err, codes, if◌then◌else◌}
use Rattle.std.specs.Option.{option_map}
use Rattle.blob_codec.specs.declared.blob.Attr.{Attr}
use Rattle.rpc_session.specs.declared.grant.Grant.{Grant}
use Rattle.rpc_session.specs.declared.denied.Denied.TheVariants.{Missing}
use Rattle.rpc_session.specs.declared.session_error.SessionError.{SessionError}
use Rattle.rpc_session.specs.SessionList.{SessionList}
use Rattle.rpc_session.specs.Sessions.{used, denial}
use Rattle.script_lines.specs.declared.call_status.CallStatus.{CallStatus}
use Rattle.script_lines.specs.declared.call_status.CallStatus.TheVariants as status
use Rattle.script_lines.specs.declared.line_error.LineError.{LineError}
use Rattle.script_lines.specs.declared.line_error.LineError.TheVariants as error
use Rattle.step_net.specs.Moved.{fails_first}
use Rattle.call_texts.specs.Arguments.{arguments_of, with_session}
use Rattle.call_texts.specs.ReplyLine.{reply_line}
use Rattle.rpc_objects.specs.declared.local_answer.LocalAnswer.{LocalAnswer}
use Rattle.rpc_objects.specs.LocalAnswer.{refused as answers_status, denied}
use Rattle.rpc_objects.specs.declared.local_object.LocalObject.{LocalObject}
use Rattle.rpc_objects.specs.Object.{of_path}
use Rattle.rpc_objects.specs.Calls.{Parts, Called, CallsTo, quiet}
use Rattle.bus_lines.specs.declared.caller_line.CallWords.{CallWords}
use Rattle.bus_lines.specs.World.{World, parts_of, with_parts}
use Rattle.bus_lines.specs.Words.{used_by, first_word}
use Rattle.bus_lines.specs.Did.{Did, refused_did, first_of}

-- the status of a number from 1 to 11
abbrev pub status_at : ℕ → Option CallStatus
status_at number =
    if number == 1 then Some status.InvalidCommand
    else (if number == 2 then Some status.InvalidArgument
    else (if number == 3 then Some status.MethodNotFound
    else (if number == 4 then Some status.NotFound
    else (if number == 5 then Some status.NoData
    else (if number == 6 then Some status.PermissionDenied
    else (if number == 7 then Some status.Timeout
    else (if number == 8 then Some status.NotSupported
    else (if number == 9 then Some status.UnknownError
    else (if number == 10 then Some status.ConnectionFailed
    else (if number == 11 then Some status.NoMemory
    else None))))))))))

-- what is told of a call: its reply, and why the line is refused, by its status or by the reload behind it
abbrev pub told_of : World → ℕ → Called → Did
told_of world word done = record {
  world = with_parts world done.parts;
  asked = done.asked;
  sent = [];
  requests = done.requests;
  reply = reply_line done.answer.status done.answer.payload;
  refusal = first_of (option_map error.Status (status_at done.answer.status)) done.refusal;
  words = used_by done.has_created word;
}

-- the grant that a session needs to call a method
abbrev pub method_grant : List ℕ → List ℕ → Grant
method_grant object method =
    record { scope = codes "ubus"; object = object; function = method }

-- a call as a line gives it: its path, its method and its arguments
pub record Call : Type 0 where
  pub path : List ℕ
  pub method : List ℕ
  pub args : List Attr

-- Whether a session may call: the sessions behind that, and the arguments then, or the answer. With none no grant is
-- asked. Else it is 4 where no live session has the id; a live one is renewed, and it is 6 with the grant where that is
-- missing; and else the arguments name the session.
pub data Admits (now : ℕ) (sessions : SessionList) (call : Call) : Option ℕ → SessionList
    → Result (List Attr) LocalAnswer → Type 0 where
  nobody : Admits now sessions call None sessions (Ok call.args)
  unknown : (session : ℕ) (why : SessionError) → used session now sessions ≡ Err why
      → Admits now sessions call (Some session) sessions (Err (answers_status 4))
  lacks : (session : ℕ) (list : SessionList) → used session now sessions ≡ Ok list
      → denial session (method_grant call.path call.method) now list ≡ Some Missing
      → Admits now sessions call (Some session) list
      (Err (denied (method_grant call.path call.method)))
  may : (session : ℕ) (list : SessionList) → used session now sessions ≡ Ok list
      → denial session (method_grant call.path call.method) now list ≡ None
      → Admits now sessions call (Some session) list (Ok (with_session session call.args))

-- the object of the path is called with these arguments, if there is one
pub data CallsPath (now word : ℕ) (failed : Bool) (before : Parts) (call : Call) (args : List Attr) : Called
    → Type 0 where
  none : of_path call.path ≡ None
      → CallsPath now word failed before call args (quiet before (answers_status 4))
  some : (object : LocalObject) → of_path call.path ≡ Some object → (done : Called)
      → CallsTo now word failed before object call.method args done
      → CallsPath now word failed before call args done

-- a call for a session, or for none
pub data CallsFor (now word : ℕ) (failed : Bool) (before : Parts) (call : Call) (session : Option ℕ) : Called
    → Type 0 where
  refused : (list : SessionList) (answer : LocalAnswer)
      → Admits now before.sessions call session list (Err answer)
      → CallsFor now word failed before call session
      (quiet (record before { sessions = list }) answer)
  admitted : (list : SessionList) (args : List Attr)
      → Admits now before.sessions call session list (Ok args) → (done : Called)
      → CallsPath now word failed (record before { sessions = list }) call args done
      → CallsFor now word failed before call session done

abbrev pub call_with : CallWords → List Attr → Call
call_with words args = record { path = words.path; method = words.method; args = args }

-- the line at this number of the script; arguments that do not read refuse it before all else
pub data CallDoes (world : World) (number word : ℕ) (failed : Bool) (words : CallWords) : Did → Type 0 where
  unread : (why : LineError) → arguments_of number words.json ≡ Err why
      → CallDoes world number word failed words (refused_did world why)
  called : (args : List Attr) → arguments_of number words.json ≡ Ok args → (done : Called)
      → CallsFor world.now word failed (parts_of world) (call_with words args) words.session done
      → CallDoes world number word failed words (told_of world word done)

-- the same, with its luck: the random words at hand, and whether the kernel fails at its event
abbrev pub CallLineDoes : World → ℕ → CallWords → List ℕ → List Bool → Did → Type 0
CallLineDoes world number words random failures did =
    CallDoes world number (first_word random) (fails_first failures) words did

-- the call of a line whose arguments were read as these
abbrev pub ForDoes : World → CallWords → List Attr → ℕ → Bool → Called → Type 0
ForDoes world words args word failed done =
    CallsFor world.now word failed (parts_of world) (call_with words args) words.session done
