-- All sessions, and what each call makes of them (OpenWrt's rpcd).
use Rattle.std.specs.Prelude.{ℕ, ◌≡◌, ◌+◌, ◌*◌, ◌^◌, List, [], ◌∷◌, ◌++◌, Option, Some, None, Result, Ok, Err, IsOk}
use Rattle.std.specs.Prelude.{codes, length, nat_eq, nat_le, not, if◌then◌else◌}
use Rattle.rpc_session.specs.declared.grant.Grant.{Grant}
use Rattle.rpc_session.specs.declared.session.Session.{Session}
use Rattle.rpc_session.specs.declared.denied.Denied.{Denied}
use Rattle.rpc_session.specs.declared.denied.Denied.TheVariants.{NoSession as NotLive, Missing}
use Rattle.rpc_session.specs.declared.session_error.SessionError.{SessionError}
use Rattle.rpc_session.specs.declared.session_error.SessionError.TheVariants.{NoSession, Full, DefaultSession}
use Rattle.rpc_session.specs.declared.sessions.TheConstants.{MOST_SESSIONS}
use Rattle.rpc_session.specs.SessionList.{SessionList}
use Rattle.rpc_session.specs.Session.{new_session, is_live, may, with_grant, without_grant, used_at}

-- the session of an id
abbrev pub session_of : ℕ → List Session → Option Session
session_of id [] = None
session_of id (session ∷ others) = if nat_eq session.id id then Some session else session_of id others

-- the session of an id, where it is live
abbrev pub only_live : ℕ → Option Session → Option Session
only_live now None = None
only_live now (Some session) = if is_live now session then Some session else None

-- the sessions, that of an id changed
abbrev pub changed : ℕ → (Session → Session) → List Session → List Session
changed id change [] = []
changed id change (session ∷ others) = if nat_eq session.id id then change session ∷ others else session
    ∷ changed id change others

-- the sessions without that of an id
abbrev pub without : ℕ → List Session → List Session
without id [] = []
without id (session ∷ others) = if nat_eq session.id id then others else session ∷ without id others

-- the first session that is not live
abbrev pub first_expired : ℕ → List Session → Option ℕ
first_expired now [] = None
first_expired now (session ∷ others) = if is_live now session then first_expired now others else Some session.id

-- an id: 16 hexadecimal digits of the session's number, and 16 of a random word
abbrev pub id_of : ℕ → ℕ → ℕ
id_of number word = number * 2 ^ 64 + word

-- a function of the object `session` that anyone may call
abbrev pub default_grant : List ℕ → Grant
default_grant function = record { scope = codes "ubus"; object = codes "session"; function = function }

-- the default session, which never expires: anyone may log in, and ask whether a session may do something
abbrev pub default_session : Session
default_session = record {
  id = 0;
  timeout = 0;
  last_use = 0;
  values = [];
  grants = default_grant (codes "access")
      ∷ default_grant (codes "login") ∷ [];
}

-- the sessions at the start: the default one
abbrev pub start : SessionList
start = record { sessions = default_session ∷ []; next = 1 }

-- the list with one session more, or Full
abbrev pub created : ℕ → ℕ → ℕ → SessionList → Result SessionList SessionError
created timeout now word list =
    if nat_le MOST_SESSIONS (length list.sessions) then Err Full
    else Ok (record {
      sessions = list.sessions ++ new_session (id_of list.next word) timeout now ∷ [];
      next = list.next
          + 1;
    })

-- what is made of the sessions where one of them has the id, which may have expired
abbrev pub where_present : Option Session → SessionList → Result SessionList SessionError
where_present None list = Err NoSession
where_present (Some session) list = Ok list

-- the list without a session
abbrev pub destroyed : ℕ → SessionList → Result SessionList SessionError
destroyed id list =
    if nat_eq id 0 then Err DefaultSession
    else where_present (session_of id list.sessions) (record list { sessions = without id list.sessions })

-- the list with a grant more
abbrev pub granted : ℕ → Grant → SessionList → Result SessionList SessionError
granted id grant list = where_present (session_of id list.sessions)
    (record list { sessions = changed id (with_grant grant) list.sessions })

-- the list with a grant less
abbrev pub revoked : ℕ → Grant → SessionList → Result SessionList SessionError
revoked id grant list = where_present (session_of id list.sessions)
    (record list { sessions = changed id (without_grant grant) list.sessions })

-- the list with a live session used
abbrev pub used : ℕ → ℕ → SessionList → Result SessionList SessionError
used id now list = where_present (only_live now (session_of id list.sessions))
    (record list { sessions = changed id (used_at now) list.sessions })

-- whether a session may do what is wanted, or why not
abbrev pub denial_of : ℕ → Grant → Option Session → Option Denied
denial_of now wanted None = Some NotLive
denial_of now wanted (Some session) = if not (is_live now session) then Some NotLive else if may wanted session
    then None else Some Missing

-- the denial of what is wanted by an id, or none
abbrev pub denial : ℕ → Grant → ℕ → SessionList → Option Denied
denial id wanted now list = denial_of now wanted (session_of id list.sessions)

-- a call made this, or was refused and left what was
abbrev pub Does : {S A : Type 0} → Result S SessionError → Result A SessionError → S → S → Type 0
Does (Ok made) result old new = IsOk result × (new ≡ made)
Does (Err error) result old new = (result ≡ Err error) × (new ≡ old)

-- the answer is this denial, or none
abbrev pub IsDenialOf : {A : Type 0} → Option Denied → Result A Denied → Type 0
IsDenialOf None result = IsOk result
IsDenialOf (Some denied) result = result ≡ Err denied
