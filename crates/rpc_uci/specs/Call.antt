-- What a call goes by: who calls, the sessions, and what waits.
use Rattle.std.specs.Prelude.{ℕ, List, Option, Some, None, Bool, true, false, if◌then◌else◌}
use Rattle.std.specs.Option.{option_map}
use Rattle.blob_codec.specs.declared.blob.Attr.{Attr}
use Rattle.snap_disk.specs.declared.new_file.Pending.{Pending}
use Rattle.snap_disk.specs.Open.{pending_of}
use Rattle.rpc_session.specs.declared.grant.Grant.{Grant}
use Rattle.rpc_session.specs.SessionList.{SessionList}
use Rattle.rpc_session.specs.Sessions.{used}
use Rattle.rpc_session.specs.Serve.{or_old}
use Rattle.uci_store.specs.declared.store.Store.{Store}
use Rattle.uci_store.specs.Store.{files_of}
use Rattle.rpc_rules.specs.declared.caller.Caller.{Caller}
use Rattle.rpc_rules.specs.declared.caller.Caller.TheVariants.{Anyone, Session, Stranger}
use Rattle.rpc_rules.specs.declared.method.Method.{Method}
use Rattle.rpc_rules.specs.declared.method.Method.TheVariants.{Apply, Rollback}
use Rattle.rpc_rules.specs.Arguments.{caller_in, holder_of}
use Rattle.rpc_rules.specs.Grants.{needed, first_missing}
use Rattle.rpc_uci.specs.Sight.{staged_names}

-- the session of the caller was used now, where it is live
abbrev pub renewed : Caller → ℕ → SessionList → SessionList
renewed Anyone now list = list
renewed (Session id) now list = or_old (used id now list) list
renewed Stranger now list = list

-- a call: the sessions once that of the caller is renewed, who calls, the arguments, and the moment
pub record Call : Type 0 where
  pub list : SessionList
  pub caller : Caller
  pub args : List Attr
  pub now : ℕ

abbrev pub call_by : SessionList → Caller → List Attr → ℕ → Call
call_by list caller args now = record { list = list; caller = caller; args = args; now = now }

-- the call with these arguments
abbrev pub call_of : SessionList → List Attr → ℕ → Call
call_of list args now = call_by (renewed (caller_in args) now list) (caller_in args) args now

-- the holder of the apply that waits
abbrev pub waiting_in : Store → Option ℕ
waiting_in store = option_map (λ (pending : Pending). pending.holder) (pending_of (files_of store).waits)

-- the first grant that a method needs and the caller does not have
abbrev pub missing : Method → Call → Store → Option Grant
missing method call store =
    first_missing call.list (holder_of call.caller) (waiting_in store) call.now
    (needed method call.caller call.args (staged_names (holder_of call.caller) store) (waiting_in store))

-- the same for a name that may be no method's: no grant is asked where the caller may not call
abbrev pub denied_grant : Option Method → Bool → Call → Store → Option Grant
denied_grant None admitted call store = None
denied_grant (Some method) admitted call store = if admitted then missing method call store else None

-- the packages that are read anew after the call: where files were applied or rolled back
abbrev pub is_reloading : Method → Bool
is_reloading Apply = true
is_reloading Rollback = true
is_reloading method = false
