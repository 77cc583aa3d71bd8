-- The grants that a call of the object `uci` needs, and which of them its caller has (OpenWrt's rpcd). The four grants
-- of `:apply`, which a waiting apply asks for, are rules of our own.
use Rattle.std.specs.Prelude.{ℕ, List, [], ◌∷◌, ◌++◌, Option, Some, None, Bool, true, false, ◌||◌, is_none, is_some}
use Rattle.std.specs.Prelude.{nat_eq, codes, map, if◌then◌else◌}
use Rattle.blob_codec.specs.declared.blob.Attr.{Attr}
use Rattle.rpc_session.specs.declared.grant.Grant.{Grant}
use Rattle.rpc_session.specs.Grant.{grant_of, same_grant}
use Rattle.rpc_session.specs.SessionList.{SessionList}
use Rattle.rpc_session.specs.Sessions.{session_of, only_live, denial}
use Rattle.rpc_rules.specs.declared.method.Question.{Question}
use Rattle.rpc_rules.specs.declared.method.Question.TheVariants.{Configs, Get, Changes}
use Rattle.rpc_rules.specs.declared.method.Method.{Method}
use Rattle.rpc_rules.specs.declared.method.Method.TheVariants.{Ask, Stage, Revert, Commit, Apply, Confirm, Rollback}
use Rattle.rpc_rules.specs.declared.caller.Caller.{Caller}
use Rattle.rpc_rules.specs.declared.caller.Caller.TheVariants.{Anyone, Session, Stranger}
use Rattle.rpc_rules.specs.Arguments.{config_in}

-- ---- grants

-- to use a package so, to read it and to write it
abbrev pub to_use : List ℕ → List ℕ → Grant
to_use function name = grant_of (codes "uci") name function

abbrev pub to_read : List ℕ → Grant
to_read = to_use (codes "read")

abbrev pub to_write : List ℕ → Grant
to_write = to_use (codes "write")

-- to call a method while an apply waits
abbrev pub to_end : List ℕ → Grant
to_end method = grant_of (codes "uci") (codes ":apply") method

-- ---- what a call needs

-- a call that names no session needs no grant of a package
abbrev pub of_session : Caller → List Grant → List Grant
of_session Anyone grants = []
of_session (Session id) grants = grants
of_session Stranger grants = []

-- no grant of a package is needed where none is named
abbrev pub of_package : (List ℕ → Grant) → Option (List ℕ) → List Grant
of_package grant None = []
of_package grant (Some name) = grant name ∷ []

-- and one of its own is needed while an apply waits
abbrev pub while_waiting : Option ℕ → List ℕ → List Grant
while_waiting None method = []
while_waiting (Some holder) method = to_end method ∷ []

abbrev pub question_needs : Question → Caller → List Attr → List Grant
question_needs Configs caller args = []
question_needs Get caller args = of_session caller (of_package to_read (config_in args))
question_needs Changes caller args = of_session caller (of_package to_read (config_in args))

-- The grants that a call needs, in the order in which they are asked. `staged` are the names of the packages of which
-- the caller has staged something, in byte order; `waiting` is the holder of the apply that waits.
abbrev pub needed : Method → Caller → List Attr → List (List ℕ) → Option ℕ → List Grant
needed (Ask question) caller args staged waiting = question_needs question caller args
needed (Stage edit) caller args staged waiting = of_session caller (of_package to_write (config_in args))
needed Revert caller args staged waiting = of_session caller (of_package to_write (config_in args))
needed Commit caller args staged waiting = of_session caller (of_package to_write (config_in args))
    ++ while_waiting waiting (codes "commit")
needed Apply caller args staged waiting = of_session caller (map to_write staged)
    ++ while_waiting waiting (codes "apply")
needed Confirm caller args staged waiting = while_waiting waiting (codes "confirm")
needed Rollback caller args staged waiting = while_waiting waiting (codes "rollback")

-- ---- what a caller has

-- the caller may call at all: it names no session, or a live one
abbrev pub is_admitted : Caller → ℕ → SessionList → Bool
is_admitted Anyone now list = true
is_admitted (Session id) now list = is_some (only_live now (session_of id list.sessions))
is_admitted Stranger now list = false

-- a grant of the live session permits it
abbrev pub is_allowed : SessionList → ℕ → ℕ → Grant → Bool
is_allowed list id now grant = is_none (denial id grant now list)

-- the apply that waits is this holder's
abbrev pub is_waiting_for : Option ℕ → ℕ → Bool
is_waiting_for None holder = false
is_waiting_for (Some other) holder = nat_eq other holder

-- it is one of the two that the holder of the waiting apply has, and nobody else
abbrev pub ends_apply : Grant → Bool
ends_apply grant = same_grant grant (to_end (codes "confirm")) || same_grant grant (to_end (codes "rollback"))

-- it is one of the two that nobody has
abbrev pub begins_apply : Grant → Bool
begins_apply grant = same_grant grant (to_end (codes "apply")) || same_grant grant (to_end (codes "commit"))

-- Whether a holder has a grant. The four of `:apply` follow from the waiting apply alone, whatever a session was
-- granted.
abbrev pub permitted : SessionList → ℕ → Option ℕ → ℕ → Grant → Bool
permitted list holder waiting now grant =
    if ends_apply grant then is_waiting_for waiting holder
    else (if begins_apply grant then false
    else is_allowed list holder now grant)

-- the first of these grants that the holder does not have
abbrev pub first_missing : SessionList → ℕ → Option ℕ → ℕ → List Grant → Option Grant
first_missing list holder waiting now [] = None
first_missing list holder waiting now (grant ∷ grants) =
    if permitted list holder waiting now grant then first_missing list holder waiting now grants else Some grant

-- whether a caller may read a package; without a session it may
abbrev pub may_read : SessionList → Caller → ℕ → List ℕ → Bool
may_read list Anyone now name = true
may_read list (Session id) now name = is_allowed list id now (to_read name)
may_read list Stranger now name = false
