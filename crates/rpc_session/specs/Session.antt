-- Sessions (OpenWrt's rpcd).
use Rattle.std.specs.Prelude.{ℕ, [], ◌-◌, Bool, not, ◌||◌, nat_eq, nat_lt, filter}
use Rattle.std.specs.List.{list_any}
use Rattle.rpc_session.specs.declared.grant.Grant.{Grant}
use Rattle.rpc_session.specs.declared.session.Session.{Session}
use Rattle.rpc_session.specs.Grant.{permits, same_grant, with}

-- a new session
abbrev pub new_session : ℕ → ℕ → ℕ → Session
new_session id timeout now = record { id = id; timeout = timeout; last_use = now; grants = []; values = [] }

-- live at this second: without a timeout, or used less than so many seconds ago
abbrev pub is_live : ℕ → Session → Bool
is_live now session = nat_eq session.timeout 0 || nat_lt (now - session.last_use) session.timeout

-- one of the grants permits what is wanted
abbrev pub may : Grant → Session → Bool
may wanted session = list_any (λ grant. permits grant wanted) session.grants

-- the session with the grant
abbrev pub with_grant : Grant → Session → Session
with_grant grant session = record session { grants = with grant session.grants }

-- the session without the grant
abbrev pub without_grant : Grant → Session → Session
without_grant grant session = record session { grants = filter (λ held. not (same_grant held grant)) session.grants }

-- the session, used at this second
abbrev pub used_at : ℕ → Session → Session
used_at now session = record session { last_use = now }

-- the seconds that are left without a use: 0 where there is no timeout
abbrev pub seconds_left : ℕ → Session → ℕ
seconds_left now session = session.timeout - (now - session.last_use)
