-- What a change of a session at its place makes of the sessions.
use Rattle.std.proofs.Common.{◌≡◌, ℕ, List, [], get_or, set, Result, Ok, Err, sym, ap, subst, ◌∙◌}
use Rattle.std.proofs.lemmas.List.{get_or_default}
use Rattle.blob_codec.specs.declared.blob.Attr.{Attr}
use Rattle.rpc_session.specs.declared.session.Session.{Session}
use Rattle.rpc_session.specs.declared.session_error.SessionError.{SessionError}
use Rattle.rpc_session.specs.declared.method.Change.{Change}
use Rattle.rpc_session.specs.SessionList.{SessionList, nobody, RiseById}
use Rattle.rpc_session.specs.Sessions.{Does}
use Rattle.rpc_session.specs.Serve as spec
use Rattle.rpc_session.proofs.ServeLemmas.{altered_at}

ok_due : {S : Type 0} (due : Result S SessionError) (old new : S) → Does {A = Unit {0}} due (Ok tt) old new → due ≡ Ok new
ok_due (Ok made) old new done = ap Ok (sym done.1)
ok_due (Err error) old new done = absurd (let n = done.0 in cc)

module _ (change : Change) (args : List Attr) (place : ℕ) (found : Result Session SessionError) (session made : Session) (inside list : SessionList) (same : inside ≡ list) (rise : RiseById inside.sessions) where
  at_place : spec.Stands inside place found → session ≡ get_or inside.sessions place session → session ≡ get_or inside.sessions place nobody
  at_place stands read = read ∙ get_or_default inside.sessions place session nobody stands.in_range

  altered_here : spec.Stands list place found → session ≡ get_or inside.sessions place session → made.id ≡ session.id → Does {A = Unit {0}} (spec.altered change args session) (Ok tt) session made
      → spec.IsDone (spec.alter_done change args found list) (Ok []) (record inside { sessions = set inside.sessions place made })
  altered_here stands read same_id done =
      let stands' = subst (λ l. spec.Stands l place found) (sym same) stands in
      subst (λ l. spec.IsDone (spec.alter_done change args found l) (Ok []) (record inside { sessions = set inside.sessions place made })) same
      (altered_at change args inside place found session made rise stands' (at_place stands' read) same_id (ok_due (spec.altered change args session) session made done))

  pub altered_by : (other : Result Session SessionError) (told : List Attr) → found ≡ other → told ≡ [] → spec.Stands list place found → session ≡ get_or inside.sessions place session → made.id ≡ session.id
      → Does {A = Unit {0}} (spec.altered change args session) (Ok tt) session made → spec.IsDone (spec.alter_done change args other list) (Ok told) (record inside { sessions = set inside.sessions place made })
  altered_by other told is nothing stands read same_id done =
      subst (λ f. spec.IsDone (spec.alter_done change args f list) (Ok told) (record inside { sessions = set inside.sessions place made })) is
      (subst (λ t. spec.IsDone (spec.alter_done change args found list) (Ok t) (record inside { sessions = set inside.sessions place made })) (sym nothing) (altered_here stands read same_id done))
