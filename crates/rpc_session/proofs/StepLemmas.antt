-- What each call makes of the sessions.
use Rattle.std.proofs.Common.{◌≡◌, ◌≢◌, ℕ, true, false, get_or, set, if◌then◌else◌, Some, None, Option, Result, Ok, Err, IsOk, refl, sym, ap, subst, ◌∙◌}
use Rattle.std.specs.Prelude.{not, remove}
use Rattle.std.proofs.lemmas.Bool.{ne_eqb}
use Rattle.std.proofs.lemmas.List.{set-get_or}
use Rattle.rpc_session.specs.declared.grant.Grant.{Grant}
use Rattle.rpc_session.specs.declared.session.Session.{Session}
use Rattle.rpc_session.specs.declared.denied.Denied.{Denied}
use Rattle.rpc_session.specs.declared.denied.Denied.TheVariants.{NoSession as NotLive, Missing}
use Rattle.rpc_session.specs.declared.session_error.SessionError.{SessionError}
use Rattle.rpc_session.specs.declared.session_error.SessionError.TheVariants.{NoSession, DefaultSession}
use Rattle.rpc_session.specs.Session.{is_live, may, used_at}
use Rattle.rpc_session.specs.SessionList.{SessionList, nobody, RiseById, IsAt}
use Rattle.rpc_session.specs.Sessions.{session_of, only_live, changed, without, where_present, destroyed, used, denial, denial_of, Does, IsDenialOf}
use Rattle.rpc_session.proofs.SessionListLemmas.{here, changed_here, without_here, read_at}

pub does_ok : {A : Type 0} (due : Result SessionList SessionError) (r : Result A SessionError) (old new : SessionList) → due ≡ Ok new → IsOk r → Does due r old new
does_ok due r old new is answered = subst (λ d. Does d r old new) (sym is) (answered, refl)

pub does_err : {A : Type 0} (due : Result SessionList SessionError) (r : Result A SessionError) (old new : SessionList) (e : SessionError) → due ≡ Err e → r ≡ Err e → new ≡ old → Does due r old new
does_err due r old new e is answered kept = subst (λ d. Does d r old new) (sym is) (answered, kept)

is_denial : (due : Option Denied) (denied : Denied) → due ≡ Some denied → IsDenialOf {A = Unit {0}} due (Err denied)
is_denial due denied is = subst (λ d. IsDenialOf {A = Unit {0}} d (Err denied)) (sym is) refl

pub destroyed_absent : (list : SessionList) (sid : ℕ) → sid ≢ 0 → session_of sid list.sessions ≡ None → destroyed sid list ≡ Err NoSession
destroyed_absent list sid other none =
    ap (λ b. if b then Err DefaultSession else where_present (session_of sid list.sessions) (record list { sessions = without sid list.sessions })) (ne_eqb sid 0 other)
    ∙ ap (λ found. where_present found (record list { sessions = without sid list.sessions })) none

pub destroyed_here : (list : SessionList) (sid place : ℕ) → RiseById list.sessions → sid ≢ 0 → IsAt list.sessions sid place → destroyed sid list ≡ Ok (record list { sessions = remove list.sessions place })
destroyed_here list sid place rise other at =
    ap (λ b. if b then Err DefaultSession else where_present (session_of sid list.sessions) (record list { sessions = without sid list.sessions })) (ne_eqb sid 0 other)
    ∙ ap (λ found. where_present found (record list { sessions = without sid list.sessions })) (here list.sessions rise sid place at)
    ∙ ap (λ left. Ok (record list { sessions = left })) (without_here list.sessions rise sid place at)

pub change_absent : (list : SessionList) (sid : ℕ) (f : Session → Session) → session_of sid list.sessions ≡ None → where_present (session_of sid list.sessions) (record list { sessions = changed sid f list.sessions }) ≡ Err NoSession
change_absent list sid f none = ap (λ found. where_present found (record list { sessions = changed sid f list.sessions })) none

pub change_here : (list : SessionList) (sid place : ℕ) (f : Session → Session) → RiseById list.sessions → IsAt list.sessions sid place → where_present (session_of sid list.sessions) (record list { sessions = changed sid f list.sessions })
    ≡ Ok (record list { sessions = set list.sessions place (f (get_or list.sessions place nobody)) })
change_here list sid place f rise at =
    ap (λ found. where_present found (record list { sessions = changed sid f list.sessions })) (here list.sessions rise sid place at)
    ∙ ap (λ made. Ok (record list { sessions = made })) (changed_here list.sessions rise sid place f at)

pub used_absent : (list : SessionList) (sid now : ℕ) → session_of sid list.sessions ≡ None → used sid now list ≡ Err NoSession
used_absent list sid now none = ap (λ found. where_present (only_live now found) (record list { sessions = changed sid (used_at now) list.sessions })) none

pub used_expired : (list : SessionList) (sid now place : ℕ) → RiseById list.sessions → IsAt list.sessions sid place → is_live now (get_or list.sessions place nobody) ≡ false → used sid now list ≡ Err NoSession
used_expired list sid now place rise at gone =
    ap (λ found. where_present (only_live now found) (record list { sessions = changed sid (used_at now) list.sessions })) (here list.sessions rise sid place at)
    ∙ ap (λ b. where_present (if b then Some (get_or list.sessions place nobody) else None) (record list { sessions = changed sid (used_at now) list.sessions })) gone

pub used_here : (list : SessionList) (sid now place : ℕ) → RiseById list.sessions → IsAt list.sessions sid place → is_live now (get_or list.sessions place nobody) ≡ true → used sid now list
    ≡ Ok (record list { sessions = set list.sessions place (used_at now (get_or list.sessions place nobody)) })
used_here list sid now place rise at live =
    ap (λ found. where_present (only_live now found) (record list { sessions = changed sid (used_at now) list.sessions })) (here list.sessions rise sid place at)
    ∙ ap (λ b. where_present (if b then Some (get_or list.sessions place nobody) else None) (record list { sessions = changed sid (used_at now) list.sessions })) live
    ∙ ap (λ made. Ok (record list { sessions = made })) (changed_here list.sessions rise sid place (used_at now) at)

pub denial_absent : (list : SessionList) (sid now : ℕ) (wanted : Grant) → session_of sid list.sessions ≡ None → denial sid wanted now list ≡ Some NotLive
denial_absent list sid now wanted none = ap (λ found. denial_of now wanted found) none

pub denial_here : (list : SessionList) (sid now place : ℕ) (wanted : Grant) → RiseById list.sessions → IsAt list.sessions sid place → denial sid wanted now list ≡ denial_of now wanted (Some (get_or list.sessions place nobody))
denial_here list sid now place wanted rise at = ap (λ found. denial_of now wanted found) (here list.sessions rise sid place at)

-- the session that a binary search found, read at its place
module _ (list : SessionList) (sid now place : ℕ) where
  pub not_live : (wanted : Grant) (session : Session) → RiseById list.sessions → IsAt list.sessions sid place → session ≡ get_or list.sessions place session → is_live now session ≡ false
      → IsDenialOf {A = Unit {0}} (denial sid wanted now list) (Err NotLive)
  not_live wanted session rise at read gone = is_denial _ _ (denial_here list sid now place wanted rise at ∙ ap (λ s. denial_of now wanted (Some s)) (sym (read_at list.sessions place session at.in_range read))
      ∙ ap (λ b. if not b then Some NotLive else if may wanted session then None else Some Missing) gone)

  pub missing : (wanted : Grant) (session : Session) → RiseById list.sessions → IsAt list.sessions sid place → session ≡ get_or list.sessions place session → is_live now session ≡ true → may wanted session ≡ false
      → IsDenialOf {A = Unit {0}} (denial sid wanted now list) (Err Missing)
  missing wanted session rise at read live none = is_denial _ _
      (denial_here list sid now place wanted rise at ∙ ap (λ s. denial_of now wanted (Some s)) (sym (read_at list.sessions place session at.in_range read))
      ∙ ap (λ b. if not b then Some NotLive else if may wanted session then None else Some Missing) live ∙ ap (λ b. if b then None else Some Missing) none)

  pub permitted : (wanted : Grant) (session : Session) → RiseById list.sessions → IsAt list.sessions sid place → session ≡ get_or list.sessions place session → is_live now session ≡ true → may wanted session ≡ true
      → IsDenialOf {A = Unit {0}} (denial sid wanted now list) (Ok tt)
  permitted wanted session rise at read live some = subst (λ d. IsDenialOf {A = Unit {0}} d (Ok tt))
      (sym (denial_here list sid now place wanted rise at ∙ ap (λ s. denial_of now wanted (Some s)) (sym (read_at list.sessions place session at.in_range read))
      ∙ ap (λ b. if not b then Some NotLive else if may wanted session then None else Some Missing) live ∙ ap (λ b. if b then None else Some Missing) some)) refl

  pub used_late : (session : Session) → RiseById list.sessions → IsAt list.sessions sid place → session ≡ get_or list.sessions place session → is_live now session ≡ false
      → Does {A = Unit {0}} (used sid now list) (Err NoSession) list (record list { sessions = set list.sessions place session })
  used_late session rise at read gone =
      let same : record list { sessions = set list.sessions place session } ≡ list = ap (λ l. record list { sessions = l }) (ap (set list.sessions place) read ∙ set-get_or list.sessions place session) in
      does_err _ _ list _ NoSession (used_expired list sid now place rise at (ap (is_live now) (sym (read_at list.sessions place session at.in_range read)) ∙ gone)) refl same

  pub used_made : (session : Session) → RiseById list.sessions → IsAt list.sessions sid place → session ≡ get_or list.sessions place session → is_live now session ≡ true
      → Does {A = Unit {0}} (used sid now list) (Ok tt) list (record list { sessions = set list.sessions place (used_at now session) })
  used_made session rise at read live =
      let is = read_at list.sessions place session at.in_range read in
      does_ok _ _ list _ (used_here list sid now place rise at (ap (is_live now) (sym is) ∙ live) ∙ ap (λ s. Ok (record list { sessions = set list.sessions place (used_at now s) })) (sym is)) refl

  pub made_at : (f : Session → Session) (session made : Session) → RiseById list.sessions → IsAt list.sessions sid place → session ≡ get_or list.sessions place session → made ≡ f session
      → Does {A = Unit {0}} (where_present (session_of sid list.sessions) (record list { sessions = changed sid f list.sessions })) (Ok tt) list (record list { sessions = set list.sessions place made })
  made_at f session made rise at read is_made =
      does_ok _ _ list _ (change_here list sid place f rise at ∙ ap (λ s. Ok (record list { sessions = set list.sessions place s })) (ap f (sym (read_at list.sessions place session at.in_range read)) ∙ sym is_made)) refl

  pub destroyed_made : (list' : SessionList) → RiseById list.sessions → sid ≢ 0 → IsAt list.sessions sid place → list' ≡ record list { sessions = remove list.sessions place } → Does {A = Unit {0}} (destroyed sid list) (Ok tt) list list'
  destroyed_made list' rise other at is = does_ok _ _ list list' (destroyed_here list sid place rise other at ∙ ap Ok (sym is)) refl
