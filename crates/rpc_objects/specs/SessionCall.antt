-- A call of the object `session`, and what it leaves of staged changes (OpenWrt's rpcd).
use Rattle.std.specs.Prelude.{Bool, ℕ, ◌≡◌, ◌==◌, ◌&&◌, List, Option, Some, None, Result, Ok, Err, is_ok, codes}
use Rattle.std.specs.Prelude.{if◌then◌else◌}
use Rattle.blob_codec.specs.declared.blob.Attr.{Attr}
use Rattle.rpc_session.specs.declared.grant.Grant.{Grant}
use Rattle.rpc_session.specs.declared.session_error.SessionError.{SessionError}
use Rattle.rpc_session.specs.declared.session_error.SessionError.TheVariants as error
use Rattle.rpc_session.specs.Grant.{same_text}
use Rattle.rpc_session.specs.SessionList.{SessionList}
use Rattle.rpc_session.specs.Arguments.{id_in}
use Rattle.rpc_session.specs.Serve.{session_done}
use Rattle.uci_staged.specs.declared.change.StagedChange.{StagedChange}
use Rattle.uci_staged.specs.Change.{forgotten, deltas_in}
use Rattle.uci_staged.specs.Kept.{AreStagedIn}
use Rattle.uci_store.specs.declared.store.Store.{Store}
use Rattle.uci_store.specs.Store.{names_of, snap_of, staged_in, has_failed, IsStore}
use Rattle.rpc_objects.specs.declared.local_answer.LocalAnswer.{LocalAnswer}
use Rattle.rpc_objects.specs.declared.session_call.SessionAnswer.{SessionAnswer}
use Rattle.rpc_objects.specs.LocalAnswer.{told, refused, denied}

-- the grant that nobody has: to destroy the default session
abbrev pub destroying : Grant
destroying = record { scope = codes "ubus"; object = codes "session"; function = codes "destroy" }

-- The status of each refusal: 3 for a method that is none, 2 for an argument, 4 for a session that is none, 9 where
-- there are as many as there may be; the default session is not destroyed. Want of memory is none of a call that is
-- answered.
abbrev pub answer_of : Result (List Attr) SessionError → LocalAnswer
answer_of (Ok payload) = told payload
answer_of (Err error.NoMethod) = refused 3
answer_of (Err error.Argument) = refused 2
answer_of (Err error.NoSession) = refused 4
answer_of (Err error.Full) = refused 9
answer_of (Err error.DefaultSession) = denied destroying
answer_of (Err error.Memory) = refused 11

-- the session that a call has destroyed
abbrev pub ended_by : {A : Type 0} → List ℕ → List Attr → Result A SessionError → Option ℕ
ended_by method args answer = if same_text method (codes "destroy") && is_ok answer then id_in args else None

-- what is staged where a session has ended, which is never the default one
abbrev pub staged_without : Option ℕ → List StagedChange → List StagedChange
staged_without None staged = staged
staged_without (Some session) staged = if session == 0 then staged else forgotten session staged

-- a call has made a session, and so used a random word up
abbrev pub has_created : {A : Type 0} → List ℕ → Result A SessionError → Bool
has_created method answer = same_text method (codes "create") && is_ok answer

-- what a call answers, whether it used its random word up, and what it leaves of sessions and of staged changes
pub record SessionDone : Type 0 where
  pub answer : LocalAnswer
  pub has_created : Bool
  pub sessions : SessionList
  pub staged : List StagedChange

abbrev pub session_call : List ℕ → List Attr → ℕ → ℕ → SessionList → List StagedChange → SessionDone
session_call method args now word list staged =
    let done = session_done method args now word list in
    record {
      answer = answer_of done.answer;
      has_created = has_created method done.answer;
      sessions = done.sessions;
      staged = staged_without (ended_by method args done.answer) staged;
    }

pub record HasAnswered (done : SessionDone) (sessions : SessionList) (staged : List StagedChange) (told : SessionAnswer)
    : Type 0 where
  pub answer : told.answer ≡ done.answer
  pub created : told.has_created ≡ done.has_created
  pub kept : sessions ≡ done.sessions
  pub left : staged ≡ done.staged

-- The store is open on its disks as it was: its files stay, and so does what the command line has staged.
pub record StaysOpen (old new : Store) : Type 0 where
  pub names : names_of new ≡ names_of old
  pub snap : snap_of new ≡ snap_of old
  pub failed : has_failed new ≡ has_failed old
  pub store : IsStore old → IsStore new
  pub own : (file : ℕ) → deltas_in 0 file (staged_in new) ≡ deltas_in 0 file (staged_in old)
  pub lines : (names : List (List ℕ)) → AreStagedIn names (staged_in old) → AreStagedIn names (staged_in new)
