-- What a call of the object `session` answers, and the sessions that it leaves (OpenWrt's rpcd).
use Rattle.std.specs.Prelude.{ℕ, ◌≡◌, ◌<◌, pos, length, slice_index_or, List, [], ◌∷◌, Option, Some, None, Result, Ok}
use Rattle.std.specs.Prelude.{Err, Bool, codes, not, filter, if◌then◌else◌}
use Rattle.blob_codec.specs.declared.blob.Blob.{Blob}
use Rattle.blob_codec.specs.declared.blob.Blob.TheVariants.{Table, I8}
use Rattle.blob_codec.specs.declared.blob.Attr.{Attr}
use Rattle.rpc_session.specs.declared.session.Session.{Session}
use Rattle.rpc_session.specs.declared.session_error.SessionError.{SessionError}
use Rattle.rpc_session.specs.declared.session_error.SessionError.TheVariants.{NoSession, Argument, NoMethod}
use Rattle.rpc_session.specs.declared.method.Question.{Question}
use Rattle.rpc_session.specs.declared.method.Question.TheVariants.{Listing, Access, Values}
use Rattle.rpc_session.specs.declared.method.Change.{Change}
use Rattle.rpc_session.specs.declared.method.Change.TheVariants.{Grant as ToGrant, Revoke, Set, Unset}
use Rattle.rpc_session.specs.declared.method.Method.{Method}
use Rattle.rpc_session.specs.declared.method.Method.TheVariants.{Create, Destroy, Ask, Alter}
use Rattle.rpc_session.specs.Grant.{same_text}
use Rattle.rpc_session.specs.Session.{new_session, is_live, may}
use Rattle.rpc_session.specs.SessionList.{SessionList, nobody}
use Rattle.rpc_session.specs.Sessions.{session_of, changed, id_of, created, destroyed, used}
use Rattle.rpc_session.specs.Arguments.{argument, needed_text, needed_array, needed_table, array_of, scope_in}
use Rattle.rpc_session.specs.Arguments.{timeout_in, id_in}
use Rattle.rpc_session.specs.Objects.{are_pairs, is_told, with_pairs}
use Rattle.rpc_session.specs.Values.{with_values, are_keys, asked_values, other_values}
use Rattle.rpc_session.specs.Description.{named, description}
use Rattle.rpc_session.specs.Method.{method_of}

-- the answer of a call, and the sessions behind it
pub record Done : Type 0 where
  pub answer : Result (List Attr) SessionError
  pub sessions : SessionList

-- a call is refused, and changes nothing more
abbrev pub refused : SessionError → SessionList → Done
refused error list = record { answer = Err error; sessions = list }

-- a call that has nothing to tell
abbrev pub nothing_told : Result SessionList SessionError → SessionList → Done
nothing_told (Ok made) list = record { answer = Ok []; sessions = made }
nothing_told (Err error) list = refused error list

-- the session of an id, or why there is none: the arguments name no id, or no session has it
abbrev pub found_session : Option Session → Result Session SessionError
found_session None = Err NoSession
found_session (Some session) = Ok session

abbrev pub present : Option ℕ → SessionList → Result Session SessionError
present None list = Err Argument
present (Some id) list = found_session (session_of id list.sessions)

-- a session, where it is live
abbrev pub live_one : ℕ → Result Session SessionError → Result Session SessionError
live_one now (Ok session) = if is_live now session then Ok session else Err NoSession
live_one now (Err error) = Err error

abbrev pub live : Option ℕ → ℕ → SessionList → Result Session SessionError
live id now list = live_one now (present id list)

-- `create` tells the new session
abbrev pub created_done : Result SessionList SessionError → List Attr → SessionList → Done
created_done (Ok made) told list = record { answer = Ok told; sessions = made }
created_done (Err error) told list = refused error list

abbrev pub create_done : Option ℕ → ℕ → ℕ → SessionList → Done
create_done None now word list = refused Argument list
create_done (Some timeout) now word list =
    created_done (created timeout now word list) (description now (new_session (id_of list.next word) timeout now)) list

abbrev pub create_by : List Attr → ℕ → ℕ → SessionList → Done
create_by args now word list = create_done (timeout_in args) now word list

-- `destroy`
abbrev pub destroy_done : Option ℕ → SessionList → Done
destroy_done None list = refused Argument list
destroy_done (Some id) list = nothing_told (destroyed id list) list

abbrev pub destroy_by : List Attr → SessionList → Done
destroy_by args list = destroy_done (id_in args) list

-- a truth value
abbrev pub truth : Bool → Blob
truth value = I8 (if value then pos 1 else pos 0)

-- `access` tells whether the session may do what is wanted
abbrev pub access_told : Option (List ℕ) → Option (List ℕ) → Option (List ℕ) → Session → Result (List Attr) SessionError
access_told None object function session = Err Argument
access_told (Some scope) None function session = Err Argument
access_told (Some scope) (Some object) None session = Err Argument
access_told (Some scope) (Some object) (Some function) session =
    Ok (named (codes "access") (truth (may (record { scope = scope; object = object; function = function }) session))
    ∷ [])

abbrev pub access : List Attr → Session → Result (List Attr) SessionError
access args session =
    access_told (scope_in args) (needed_text (argument (codes "object") args))
    (needed_text (argument (codes "function") args)) session

-- `get` tells the values that are asked for
abbrev pub values_told : Option Blob → Session → Result (List Attr) SessionError
values_told keys session =
    if are_keys keys then Ok (named (codes "values") (Table (asked_values keys session.values)) ∷ []) else Err Argument

-- what is told of a live session
abbrev pub told : Question → List Attr → ℕ → Session → Result (List Attr) SessionError
told Listing args now session = Ok (description now session)
told Access args now session = access args session
told Values args now session = values_told (argument (codes "keys") args) session

-- a question is asked of a session, or of none
abbrev pub ask_done : Question → List Attr → ℕ → Result Session SessionError → SessionList → Done
ask_done question args now (Ok session) list = record { answer = told question args now session; sessions = list }
ask_done question args now (Err error) list = refused error list

abbrev pub ask_by : Question → List Attr → ℕ → SessionList → Done
ask_by question args now list = ask_done question args now (live (id_in args) now list) list

-- `grant` with its objects
abbrev pub granted_more : List ℕ → Option (List Attr) → Session → Result Session SessionError
granted_more scope None session = Err Argument
granted_more scope (Some items) session =
    if are_pairs items then Ok (record session { grants = with_pairs session.grants scope items }) else Err Argument

-- `grant` in a scope
abbrev pub grant_altered : Option (List ℕ) → Option (List Attr) → Session → Result Session SessionError
grant_altered None items session = Err Argument
grant_altered (Some scope) items session = granted_more scope items session

abbrev pub grant_by : List Attr → Session → Result Session SessionError
grant_by args session = grant_altered (scope_in args) (needed_array (argument (codes "objects") args)) session

-- the session without the grants of a scope
abbrev pub without_scope : List ℕ → Session → Session
without_scope scope session = record session
    { grants = filter (λ grant. not (same_text grant.scope scope)) session.grants }

-- the session without the grants of a scope and pairs
abbrev pub without_pairs : List ℕ → List Attr → Session → Session
without_pairs scope items session =
    record session { grants = filter (λ grant. not (is_told scope items grant)) session.grants }

-- `revoke` with its objects
abbrev pub granted_less : List ℕ → Option (List Attr) → Session → Result Session SessionError
granted_less scope None session = Err Argument
granted_less scope (Some items) session =
    if are_pairs items then Ok (without_pairs scope items session) else Err Argument

-- `revoke` in a scope: without objects it takes all grants of the scope
abbrev pub revoke_altered : Option (List ℕ) → Option Blob → Session → Result Session SessionError
revoke_altered None objects session = Err Argument
revoke_altered (Some scope) None session = Ok (without_scope scope session)
revoke_altered (Some scope) (Some value) session = granted_less scope (array_of value) session

abbrev pub revoke_by : List Attr → Session → Result Session SessionError
revoke_by args session = revoke_altered (scope_in args) (argument (codes "objects") args) session

-- `set` with its values
abbrev pub values_set : Option (List Attr) → Session → Result Session SessionError
values_set None session = Err Argument
values_set (Some attrs) session = Ok (record session { values = with_values session.values attrs })

abbrev pub set_by : List Attr → Session → Result Session SessionError
set_by args session = values_set (needed_table (argument (codes "values") args)) session

-- `unset` with its keys
abbrev pub values_unset : Option Blob → Session → Result Session SessionError
values_unset keys session =
    if are_keys keys then Ok (record session { values = other_values keys session.values }) else Err Argument

abbrev pub unset_by : List Attr → Session → Result Session SessionError
unset_by args session = values_unset (argument (codes "keys") args) session

-- what a change makes of a session
abbrev pub altered : Change → List Attr → Session → Result Session SessionError
altered ToGrant args session = grant_by args session
altered Revoke args session = revoke_by args session
altered Set args session = set_by args session
altered Unset args session = unset_by args session

-- the sessions with one in place of that of its id
abbrev pub put : SessionList → Result Session SessionError → Result SessionList SessionError
put list (Ok session) = Ok (record list { sessions = changed session.id (λ old. session) list.sessions })
put list (Err error) = Err error

-- a session is changed, or none
abbrev pub alter_done : Change → List Attr → Result Session SessionError → SessionList → Done
alter_done change args (Ok session) list = nothing_told (put list (altered change args session)) list
alter_done change args (Err error) list = refused error list

-- the session that a change is for: `grant` and `revoke` look at presence alone
abbrev pub session_for : Change → Option ℕ → ℕ → SessionList → Result Session SessionError
session_for ToGrant id now list = present id list
session_for Revoke id now list = present id list
session_for Set id now list = live id now list
session_for Unset id now list = live id now list

abbrev pub alter_by : Change → List Attr → ℕ → SessionList → Done
alter_by change args now list = alter_done change args (session_for change (id_in args) now list) list

-- a method, once the session that it names is renewed
abbrev pub method_done : Option Method → List Attr → ℕ → ℕ → SessionList → Done
method_done None args now word list = refused NoMethod list
method_done (Some Create) args now word list = create_by args now word list
method_done (Some Destroy) args now word list = destroy_by args list
method_done (Some (Ask question)) args now word list = ask_by question args now list
method_done (Some (Alter change)) args now word list = alter_by change args now list

-- the sessions, or the old ones
abbrev pub or_old : Result SessionList SessionError → SessionList → SessionList
or_old (Ok made) old = made
or_old (Err error) old = old

-- the session of an id was used now, where it is live
abbrev pub renewed_id : Option ℕ → ℕ → SessionList → SessionList
renewed_id None now list = list
renewed_id (Some id) now list = or_old (used id now list) list

-- the session that the arguments name was used now, where it is live
abbrev pub renewed : List Attr → ℕ → SessionList → SessionList
renewed args now list = renewed_id (id_in args) now list

-- A call: it renews the session that it names, whatever it is and whether it is refused.
abbrev pub session_done : List ℕ → List Attr → ℕ → ℕ → SessionList → Done
session_done method args now word list = method_done (method_of method) args now word (renewed args now list)

-- a call answered this, and left these sessions
pub record IsDone (done : Done) (result : Result (List Attr) SessionError) (left : SessionList) : Type 0 where
  pub answered : result ≡ done.answer
  pub kept : left ≡ done.sessions

-- the session at a place is the one that was found
pub record Stands (list : SessionList) (place : ℕ) (found : Result Session SessionError) : Type 0 where
  pub in_range : place < length list.sessions
  pub session : found ≡ Ok (slice_index_or list.sessions place nobody)
