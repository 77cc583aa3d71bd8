-- What a call of the object `session` answers and leaves, from what its parts do.
use Rattle.std.proofs.Common.{◌≡◌, ℕ, List, [], Bool, true, false, get_or, set, if◌then◌else◌, Some, None, Option, Result, Ok, Err, IsOk, refl, sym, ap, subst, ◌∙◌}
use Rattle.blob_codec.specs.declared.blob.Attr.{Attr}
use Rattle.rpc_session.specs.declared.session.Session.{Session}
use Rattle.rpc_session.specs.declared.session_error.SessionError.{SessionError}
use Rattle.rpc_session.specs.declared.session_error.SessionError.TheVariants.{NoSession}
use Rattle.rpc_session.specs.declared.method.Question.{Question}
use Rattle.rpc_session.specs.declared.method.Change.{Change}
use Rattle.rpc_session.specs.declared.method.Method.{Method}
use Rattle.rpc_session.specs.Session.{is_live, used_at}
use Rattle.rpc_session.specs.SessionList.{SessionList, nobody, RiseById, IsAt}
use Rattle.rpc_session.specs.Sessions.{session_of, only_live, changed, where_present, Does}
use Rattle.rpc_session.specs.Arguments.{id_in}
use Rattle.rpc_session.specs.Method.{method_of}
use Rattle.rpc_session.specs.Serve as spec
use Rattle.rpc_session.proofs.SessionListLemmas.{here, changed_here}

pub left_by : {A : Type 0} (due : Result SessionList SessionError) (r : Result A SessionError) (old new : SessionList) → Does due r old new → new ≡ spec.or_old due old
left_by (Ok made) r old new done = done.1
left_by (Err error) r old new done = done.1

-- a use makes no new number
kept_number : (found : Option Session) (made list : SessionList) → made.next ≡ list.next → (spec.or_old (where_present found made) list).next ≡ list.next
kept_number None made list same = refl
kept_number (Some session) made list same = same

pub renewed_number : (id : Option ℕ) (now : ℕ) (list : SessionList) → (spec.renewed_id id now list).next ≡ list.next
renewed_number None now list = refl
renewed_number (Some id) now list = kept_number (only_live now (session_of id list.sessions)) (record list { sessions = changed id (used_at now) list.sessions }) list refl

pub renewed_by : (args : List Attr) (id : Option ℕ) (now : ℕ) (list new : SessionList) → id_in args ≡ id → new ≡ spec.renewed_id id now list → new ≡ spec.renewed args now list
renewed_by args id now list new same is = is ∙ ap (λ o. spec.renewed_id o now list) (sym same)

pub present_at : (list : SessionList) (sid place : ℕ) → RiseById list.sessions → IsAt list.sessions sid place → spec.Stands list place (spec.present (Some sid) list)
present_at list sid place rise at = record { in_range = at.in_range; session = ap spec.found_session (here list.sessions rise sid place at) }

pub live_at : (list : SessionList) (place now : ℕ) (found : Result Session SessionError) (session : Session) → spec.Stands list place found → session ≡ get_or list.sessions place nobody → is_live now session ≡ true
    → spec.Stands list place (spec.live_one now found)
live_at list place now found session stands is live = record {
  in_range = stands.in_range;
  session = ap (spec.live_one now) (stands.session ∙ ap Ok (sym is)) ∙ ap (λ (b : Bool). if b then Ok session else Err NoSession) live ∙ ap Ok is;
}

pub not_live_at : (list : SessionList) (place now : ℕ) (found : Result Session SessionError) (session : Session) → spec.Stands list place found → session ≡ get_or list.sessions place nobody → is_live now session ≡ false
    → spec.live_one now found ≡ Err NoSession
not_live_at list place now found session stands is gone = ap (spec.live_one now) (stands.session ∙ ap Ok (sym is)) ∙ ap (λ (b : Bool). if b then Ok session else Err NoSession) gone

pub asked : (question : Question) (args : List Attr) (now : ℕ) (found : Result Session SessionError) (session : Session) (result : Result (List Attr) SessionError) (list : SessionList) → found ≡ Ok session → result
    ≡ spec.told question args now session → spec.IsDone (spec.ask_done question args now found list) result list
asked question args now found session result list is told = subst (λ f. spec.IsDone (spec.ask_done question args now f list) result list) (sym is) (record { answered = told; kept = refl })

pub told_nothing : (due : Result SessionList SessionError) (r : Result (Unit {0}) SessionError) (old new : SessionList) → Does due r old new → IsOk r → spec.IsDone (spec.nothing_told due old) (Ok []) new
told_nothing (Ok made) r old new done is_ok = record { answered = refl; kept = done.1 }
told_nothing (Err error) r old new done is_ok = absurd (let n : false ≡ true = subst IsOk done.0 is_ok in cc)

pub refused_by : (due : Result SessionList SessionError) (error : SessionError) (old new : SessionList) → Does {A = Unit {0}} due (Err error) old new → spec.IsDone (spec.nothing_told due old) (Err error) new
refused_by (Ok made) error old new done = absurd (let n : false ≡ true = done.0 in cc)
refused_by (Err other) error old new done = record { answered = let n = done.0 in cc; kept = done.1 }

pub told_new : (due : Result SessionList SessionError) (told : List Attr) (id : ℕ) (old new : SessionList) → Does {A = ℕ} due (Ok id) old new → spec.IsDone (spec.created_done due told old) (Ok told) new
told_new (Ok made) told id old new done = record { answered = refl; kept = done.1 }
told_new (Err error) told id old new done = absurd (let n = done.0 in cc)

pub refused_new : (due : Result SessionList SessionError) (told : List Attr) (error : SessionError) (old new : SessionList) → Does {A = ℕ} due (Err error) old new → spec.IsDone (spec.created_done due told old) (Err error) new
refused_new (Ok made) told error old new done = absurd (let n : false ≡ true = done.0 in cc)
refused_new (Err other) told error old new done = record { answered = let n = done.0 in cc; kept = done.1 }

pub served : (method : List ℕ) (args : List Attr) (now word : ℕ) (list left new : SessionList) (found : Option Method) (result : Result (List Attr) SessionError) → method_of method ≡ found → left ≡ spec.renewed args now list
    → spec.IsDone (spec.method_done found args now word left) result new → spec.IsDone (spec.session_done method args now word list) result new
served method args now word list left new found result is same done =
    subst (λ l. spec.IsDone (spec.method_done (method_of method) args now word l) result new) same
    (subst (λ f. spec.IsDone (spec.method_done f args now word left) result new) (sym is) done)

-- a session that was changed at its place
module _ (change : Change) (args : List Attr) (list : SessionList) (place : ℕ) (found : Result Session SessionError) (session made : Session) where
  altered_list : RiseById list.sessions → spec.Stands list place found → session ≡ get_or list.sessions place nobody → made.id ≡ session.id → changed made.id (λ old. made) list.sessions ≡ set list.sessions place made
  altered_list rise stands is same = changed_here list.sessions rise made.id place (λ old. made) (record { in_range = stands.in_range; has_id = ap (λ (s : Session). s.id) (sym is) ∙ sym same })

  pub altered_at : RiseById list.sessions → spec.Stands list place found → session ≡ get_or list.sessions place nobody → made.id ≡ session.id → spec.altered change args session ≡ Ok made
      → spec.IsDone (spec.alter_done change args found list) (Ok []) (record list { sessions = set list.sessions place made })
  altered_at rise stands is same due =
      subst (λ f. spec.IsDone (spec.alter_done change args f list) (Ok []) (record list { sessions = set list.sessions place made })) (sym (stands.session ∙ ap Ok (sym is)))
      (subst (λ d. spec.IsDone (spec.nothing_told (spec.put list d) list) (Ok []) (record list { sessions = set list.sessions place made })) (sym due)
      (record { answered = refl; kept = ap (λ l. record list { sessions = l }) (sym (altered_list rise stands is same)) }))
