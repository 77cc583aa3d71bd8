-- Sessions that expire.
use Rattle.std.proofs.Common.{arith, ℕ, ◌≡◌, ◌<◌, ◌≤◌, List, [], ◌∷◌, Bool, true, false, cond, length, Option, Some, None, refl, ap, sym, subst, ◌∙◌}
use Rattle.std.proofs.lemmas.Bool.Decides.{nat_tests}
use Rattle.std.specs.Prelude.{Result, Ok, Err, IsOk, nat_eq}
use Rattle.snap_disk.specs.declared.snap.Snap.{Snap}
use Rattle.snap_disk.specs.Open.{state_of}
use Rattle.uci_staged.specs.declared.change.StagedChange.{StagedChange}
use Rattle.uci_staged.specs.Change.{forgotten}
use Rattle.uci_store.specs.declared.store.Store.{Store}
use Rattle.uci_store.specs.Store.{files_of, staged_in}
use Rattle.uci_tool.specs.Folder.{Folder, folder_of}
use Rattle.uci_tool.proofs.CommitLemmas.{same_all}
use Rattle.rpc_session.specs.declared.session.Session.{Session}
use Rattle.rpc_session.specs.declared.session_error.SessionError.{SessionError}
use Rattle.rpc_session.specs.declared.session_error.SessionError.TheVariants.{DefaultSession}
use Rattle.rpc_session.specs.SessionList.{SessionList}
use Rattle.rpc_session.specs.Session.{is_live}
use Rattle.rpc_session.specs.Sessions.{first_expired, destroyed, where_present, session_of, without, Does}
use Rattle.net_plane.specs.Network.{Network}
use Rattle.rpc_objects.specs.SessionCall.{StaysOpen}
use Rattle.bus_lines.specs.declared.callers.Callers.{Callers}
use Rattle.bus_lines.specs.Ended.{world_of}
use Rattle.plane_step.specs.Expiry.{Goes, Reached, keeping}

-- sessions that went behind others
pub goes_join : (now : ℕ) (a b c : SessionList) (s t u : List StagedChange) → Goes now a s b t
    → Goes now b t c u → Goes now a s c u
goes_join now _ _ c _ _ u (Goes.none list staged) second = second
goes_join now _ _ c _ _ u (Goes.more id list fewer last staged left first gone rest) second =
    Goes.more id list fewer c staged u first gone
    (goes_join now fewer last c (forgotten id staged) left u rest second)

-- one session more went
pub one_more : (now id : ℕ) (start list fewer : SessionList) (all staged left : List StagedChange)
    → Goes now start all list staged → first_expired now list.sessions ≡ Some id
    → destroyed id list ≡ Ok fewer → left ≡ forgotten id staged → Goes now start all fewer left
one_more now id start list fewer all staged left so_far first gone same =
    subst (λ (l : List StagedChange). Goes now start all fewer l) (sym same)
    (goes_join now start list fewer all staged (forgotten id staged) so_far
    (Goes.more id list fewer fewer staged (forgotten id staged) first gone
    (Goes.none fewer (forgotten id staged))))

-- what was destroyed
pub destroyed_done : {A : Type 0} (id : ℕ) (value : A) (old new : SessionList)
    → Does (destroyed id old) (Ok value) old new → destroyed id old ≡ Ok new
destroyed_done {A} id value old new done = go (destroyed id old) done
  where
    go : (made : Result SessionList SessionError) → Does {A = A} made (Ok value) old new → made ≡ Ok new
    go (Ok list) is = ap Ok (sym is.1)
    go (Err error) is = absurd (cc is.0)

-- where nothing was destroyed the sessions stay
pub destroyed_not : {A : Type 0} (id : ℕ) (result : Result A SessionError) (old new : SessionList)
    → ((value : A) → result ≡ Ok value → ⊥) → Does (destroyed id old) result old new → new ≡ old
destroyed_not {A} id (Ok value) old new never done = absurd (never value refl)
destroyed_not {A} id (Err error) old new never done = go (destroyed id old) done
  where
    go : (made : Result SessionList SessionError) → Does {A = A} made (Err error) old new → new ≡ old
    go (Ok list) is = absurd (cc is.0)
    go (Err why) is = is.1

-- the store as it was
pub stays_itself : (store : Store) → StaysOpen store store
stays_itself store = record {
  names = refl;
  snap = refl;
  failed = refl;
  store = λ h. h;
  own = λ file. refl;
  lines = λ names h. h;
}

pub stays_both : (a b c : Store) → StaysOpen a b → StaysOpen b c → StaysOpen a c
stays_both a b c one two = record {
  names = two.names ∙ one.names;
  snap = two.snap ∙ one.snap;
  failed = two.failed ∙ one.failed;
  store = λ h. two.store (one.store h);
  own = λ file. two.own file ∙ one.own file;
  lines = λ names h. two.lines names (one.lines names h);
}

-- the world within the coming of a moment
pub reaches : (now next : ℕ) (old new : Store) (callers : Callers) (list : SessionList) (net : Network)
    → now ≤ next → StaysOpen old new → Goes next callers.sessions (staged_in old) list (staged_in new)
    → Reached (world_of now old callers net) next (world_of now new (record callers { sessions = list }) net)
reaches now next old new callers list net later stays goes =
    let world = world_of now old callers net in
    let folder : folder_of new ≡ record (folder_of old) { staged = staged_in new } =
    same_all old new (files_of old) (staged_in new) stays.names (ap (λ (s : Snap). state_of s) stays.snap) refl in
    subst (λ (f : Folder). Reached world next (record (keeping world list (staged_in new)) { files = f }))
    (sym folder) (Reached.comes later list (staged_in new) goes)

shorter_by : (b : Bool) (id : ℕ) (first : Session) (others : List Session) (session : Session)
    → nat_eq first.id id ≡ b → session_of id (first ∷ others) ≡ Some session
    → (session_of id others ≡ Some session → length (without id others) < length others)
    → length (without id (first ∷ others)) < length (first ∷ others)
shorter_by true id first others session same is rest =
    let e : without id (first ∷ others) ≡ others =
    ap (λ (c : Bool). cond c others (first ∷ without id others)) same in
    let n : length (without id (first ∷ others)) ≡ length others = ap length e in
    omega arith
shorter_by false id first others session same is rest =
    let e : without id (first ∷ others) ≡ first ∷ without id others =
    ap (λ (c : Bool). cond c others (first ∷ without id others)) same in
    let n : length (without id (first ∷ others)) ≡ length (first ∷ without id others) = ap length e in
    let other : session_of id others ≡ Some session =
    sym (ap (λ (c : Bool). cond c (Some first) (session_of id others)) same) ∙ is in
    let less = rest other in
    omega arith

without_shorter : (id : ℕ) (sessions : List Session) (session : Session)
    → session_of id sessions ≡ Some session → length (without id sessions) < length sessions
without_shorter id [] session is = absurd (cc is)
without_shorter id (first ∷ others) session is =
    shorter_by (nat_eq first.id id) id first others session refl is
    (λ other. without_shorter id others session other)

present_shorter : (id : ℕ) (list fewer : SessionList) (o : Option Session) → session_of id list.sessions ≡ o
    → where_present o (record list { sessions = without id list.sessions }) ≡ Ok fewer
    → length fewer.sessions < length list.sessions
present_shorter id list fewer None is made = absurd (cc made)
present_shorter id list fewer (Some session) is made =
    let same : record list { sessions = without id list.sessions } ≡ fewer = cc made in
    subst (λ (l : SessionList). length l.sessions < length list.sessions) same
    (without_shorter id list.sessions session is)

-- there is one session less
pub destroyed_shorter : (id : ℕ) (list fewer : SessionList) → destroyed id list ≡ Ok fewer
    → length fewer.sessions < length list.sessions
destroyed_shorter id list fewer made = go (nat_eq id 0) refl
  where
    to : Result SessionList SessionError
    to = where_present (session_of id list.sessions) (record list { sessions = without id list.sessions })

    go : (b : Bool) → nat_eq id 0 ≡ b → length fewer.sessions < length list.sessions
    go true zero = absurd (cc (sym (ap (λ (c : Bool). cond c (Err DefaultSession) to) zero) ∙ made))
    go false other = present_shorter id list fewer (session_of id list.sessions) refl
        (sym (ap (λ (c : Bool). cond c (Err DefaultSession) to) other) ∙ made)

-- the first session that is not live is one of the sessions
expired_is_there : (now id : ℕ) (sessions : List Session) → first_expired now sessions ≡ Some id
    → session_of id sessions ≡ None → ⊥
expired_is_there now id [] first none = cc first
expired_is_there now id (session ∷ others) first none =
    go (expired_is_there now id others) (nat_eq session.id id) refl (is_live now session) refl
  where
    go : (first_expired now others ≡ Some id → session_of id others ≡ None → ⊥) → (same : Bool)
        → nat_eq session.id id ≡ same → (live : Bool) → is_live now session ≡ live → ⊥
    go later true same live is =
        cc (sym (ap (λ (c : Bool). cond c (Some session) (session_of id others)) same) ∙ none)
    go later false same true is =
        later (sym (ap (λ (c : Bool). cond c (first_expired now others) (Some session.id)) is) ∙ first)
        (sym (ap (λ (c : Bool). cond c (Some session) (session_of id others)) same) ∙ none)
    go later false same false is =
        let found : Some session.id ≡ Some id =
        sym (ap (λ (c : Bool). cond c (first_expired now others) (Some session.id)) is) ∙ first in
        let here : session.id ≡ id = cc found in
        let equal : nat_eq session.id id ≡ true = grind (arith, nat_tests) in
        let apart : true ≡ false = sym equal ∙ same in cc apart

never_ok : {A : Type 0} (result : Result A SessionError) → ((value : A) → result ≡ Ok value → ⊥) → IsOk result → ⊥
never_ok {A} (Ok value) never is = never value refl
never_ok {A} (Err error) never is = cc is

-- the first session that is not live is destroyed, but for the default one
pub kept_is_default : {A : Type 0} (now id : ℕ) (result : Result A SessionError) (old new : SessionList)
    → first_expired now old.sessions ≡ Some id → ((value : A) → result ≡ Ok value → ⊥)
    → Does (destroyed id old) result old new → id ≡ 0
kept_is_default {A} now id result old new first never done = go (nat_eq id 0) refl (session_of id old.sessions) refl
  where
    fewer : SessionList
    fewer = record old { sessions = without id old.sessions }

    go : (zero : Bool) → nat_eq id 0 ≡ zero → (o : Option Session) → session_of id old.sessions ≡ o → id ≡ 0
    go true zero o is = grind (arith, nat_tests)
    go false other None is = absurd (expired_is_there now id old.sessions first is)
    go false other (Some session) is =
        let goes : destroyed id old ≡ Ok fewer =
        ap (λ (c : Bool). cond c (Err DefaultSession) (where_present (session_of id old.sessions) fewer)) other
        ∙ ap (λ (o : Option Session). where_present o fewer) is in
        let made : Does (Ok fewer) result old new =
        subst (λ (r : Result SessionList SessionError). Does r result old new) goes done in
        absurd (never_ok result never made.0)
