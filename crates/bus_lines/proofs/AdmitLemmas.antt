-- The session of a call.
use Rattle.std.proofs.Common.{arith, zero, suc, ℕ, ◌≡◌, ◌<◌, ◌-◌, List, [], ◌∷◌, Option, Some, None, Bool, true, false, cond, refl, ap, sym, subst, ◌∙◌}
use Rattle.std.specs.Prelude.{Result, Ok, Err, nat_eq, nat_lt, ◌||◌, not, if◌then◌else◌}
use Rattle.std.proofs.lemmas.Bool.Decides.{Decides-ltb}
use Rattle.rpc_session.specs.declared.grant.Grant.{Grant}
use Rattle.rpc_session.specs.declared.session.Session.{Session}
use Rattle.rpc_session.specs.declared.denied.Denied.{Denied}
use Rattle.rpc_session.specs.declared.denied.Denied.TheVariants as why
use Rattle.rpc_session.specs.declared.session_error.SessionError.{SessionError}
use Rattle.blob_codec.specs.declared.blob.Attr.{Attr}
use Rattle.rpc_session.specs.SessionList.{SessionList}
use Rattle.rpc_session.specs.Session.{is_live, may, used_at}
use Rattle.rpc_session.specs.Sessions.{session_of, only_live, changed, where_present, used, denial, denial_of, Does, IsDenialOf}
use Rattle.call_texts.specs.Arguments.{with_session}
use Rattle.rpc_objects.specs.declared.local_answer.LocalAnswer.{LocalAnswer}
use Rattle.rpc_objects.specs.LocalAnswer.{refused, denied}
use Rattle.bus_lines.specs.CallLine.{Call, Admits, method_grant}

or_true : (a b : Bool) → (a ≡ false → b ≡ true) → (a || b) ≡ true
or_true true b h = refl
or_true false b h = h refl

positive : (n : ℕ) → nat_eq n 0 ≡ false → 0 < n
positive zero e = absurd (cc e)
positive (suc n) e = omega arith

-- a session that is used now is live
used_live : (now : ℕ) (session : Session) → is_live now (used_at now session) ≡ true
used_live now session =
    or_true (nat_eq session.timeout 0) (nat_lt (now - now) session.timeout)
    (λ e. let more : 0 < session.timeout = positive session.timeout e in
    (Decides-ltb (now - now) session.timeout).1 (omega arith))

-- where the first session is looked at, or the others
found_first : (id now : ℕ) (first session : Session) (others rest : List Session) (b : Bool)
    → nat_eq first.id id ≡ b
    → (session_of id others ≡ Some session → session_of id rest ≡ Some (used_at now session))
    → session_of id (first ∷ others) ≡ Some session
    → session_of id (cond (nat_eq first.id id) (used_at now first ∷ others) (first ∷ rest))
    ≡ Some (used_at now session)
found_first id now first session others rest true e more is =
    let was : Some first ≡ Some session =
    sym (ap (λ (z : Bool). cond z (Some first) (session_of id others)) e) ∙ is in
    let same : first ≡ session = cc was in
    ap (λ (z : Bool). session_of id (cond z (used_at now first ∷ others) (first ∷ rest))) e
    ∙ ap (λ (z : Bool). cond z (Some (used_at now first)) (session_of id others)) e
    ∙ ap (λ (s : Session). Some (used_at now s)) same
found_first id now first session others rest false e more is =
    ap (λ (z : Bool). session_of id (cond z (used_at now first ∷ others) (first ∷ rest))) e
    ∙ ap (λ (z : Bool). cond z (Some first) (session_of id rest)) e
    ∙ more (sym (ap (λ (z : Bool). cond z (Some first) (session_of id others)) e) ∙ is)

-- where a session is found that is used, it is the one that was used
used_found : (id now : ℕ) (sessions : List Session) (session : Session)
    → session_of id sessions ≡ Some session
    → session_of id (changed id (used_at now) sessions) ≡ Some (used_at now session)
used_found id now [] session is = absurd (cc is)
used_found id now (first ∷ others) session is =
    found_first id now first session others (changed id (used_at now) others) (nat_eq first.id id) refl
    (used_found id now others session) is

-- and its grants alone say what it may do
no_session : (b : Bool) → (if b then None else Some why.Missing) ≡ Some why.NoSession → ⊥
no_session true e = cc e
no_session false e = cc e

asked_live : (now : ℕ) (grant : Grant) (session : Session)
    → denial_of now grant (Some (used_at now session)) ≡ Some why.NoSession → ⊥
asked_live now grant session is =
    no_session (may grant (used_at now session))
    (sym (ap (λ (z : Bool). if not z then Some why.NoSession
    else (if may grant (used_at now session) then None else Some why.Missing)) (used_live now session)) ∙ is)

-- the sessions with this one used
abbrev pub with_use : ℕ → ℕ → SessionList → SessionList
with_use id now list = record list { sessions = changed id (used_at now) list.sessions }

live_asked : (id now : ℕ) (list after : SessionList) (grant : Grant) (session : Session)
    → session_of id list.sessions ≡ Some session → (b : Bool)
    → where_present (if b then Some session else None) (with_use id now list) ≡ Ok after
    → denial id grant now after ≡ Some why.NoSession → ⊥
live_asked id now list after grant session at true e denied =
    let same : with_use id now list ≡ after = cc e in
    asked_live now grant session (
    sym (ap (denial_of now grant) (used_found id now list.sessions session at))
    ∙ ap (λ (l : SessionList). denial id grant now l) same ∙ denied
    )
live_asked id now list after grant session at false e denied = cc e

found_asked : (id now : ℕ) (list after : SessionList) (grant : Grant) (found : Option Session)
    → session_of id list.sessions ≡ found
    → where_present (only_live now found) (with_use id now list) ≡ Ok after
    → denial id grant now after ≡ Some why.NoSession → ⊥
found_asked id now list after grant None at e denied = cc e
found_asked id now list after grant (Some session) at e denied =
    live_asked id now list after grant session at (is_live now session) e denied

pub used_asked : (id now : ℕ) (list after : SessionList) (grant : Grant)
    → used id now list ≡ Ok after → denial id grant now after ≡ Some why.NoSession → ⊥
used_asked id now list after grant is denied =
    found_asked id now list after grant (session_of id list.sessions) refl is denied

-- ---- what calls of the sessions answered

pub is_used : (expected : Result SessionList SessionError) (value : Unit {0})
    (old new : SessionList) → Does expected (Ok value) old new → expected ≡ Ok new
is_used (Ok made) value old new does = ap Ok (sym does.1)
is_used (Err e) value old new does = absurd (cc does.0)

pub is_unused : (expected : Result SessionList SessionError) (error : SessionError)
    (old new : SessionList) → Does {A = Unit {0}} expected (Err error) old new
    → (e : SessionError) × (expected ≡ Err e) × (new ≡ old)
is_unused (Ok made) error old new does = absurd (cc does.0)
is_unused (Err e) error old new does = (e, refl, does.1)

pub is_allowed : (expected : Option Denied) (value : Unit {0})
    → IsDenialOf expected (Ok value) → expected ≡ None
is_allowed None value is = refl
is_allowed (Some e) value is = absurd (cc is)

pub is_denied : (expected : Option Denied) (error : Denied)
    → IsDenialOf {A = Unit {0}} expected (Err error) → (expected ≡ Some why.NoSession → ⊥)
    → expected ≡ Some why.Missing
is_denied None error is live = absurd (cc is)
is_denied (Some why.NoSession) error is live = absurd (live refl)
is_denied (Some why.Missing) error is live = refl

-- ---- a call

module _ (now session : ℕ) (sessions after : SessionList) (call : Call) where
  -- no live session has the id
  pub not_live : (error : SessionError)
      → Does {A = Unit {0}} (used session now sessions) (Err error) sessions after
      → Admits now sessions call (Some session) after (Err (refused 4))
  not_live error does =
      let unused = is_unused (used session now sessions) error sessions after does in
      subst (λ (l : SessionList). Admits now sessions call (Some session) l (Err (refused 4)))
      (sym unused.2) (Admits.unknown session unused.0 unused.1)

  module _ (value : Unit {0})
      (does : Does (used session now sessions) (Ok value) sessions after)
      (grant : Grant) (is : grant ≡ method_grant call.path call.method) where
    renewed : used session now sessions ≡ Ok after
    renewed = is_used (used session now sessions) value sessions after does

    -- it has the grant
    pub may_call : (answer : Unit {0}) (named : List Attr)
        → IsDenialOf (denial session grant now after) (Ok answer)
        → named ≡ with_session session call.args
        → Admits now sessions call (Some session) after (Ok named)
    may_call answer named allowed names =
        subst (λ (a : List Attr). Admits now sessions call (Some session) after (Ok a)) (sym names)
        (Admits.may session after renewed
        (subst (λ (g : Grant). denial session g now after ≡ None) is
        (is_allowed (denial session grant now after) answer allowed)))

    -- it lacks it
    pub lacks_grant : (error : Denied) (answer : LocalAnswer)
        → IsDenialOf {A = Unit {0}} (denial session grant now after) (Err error) → answer ≡ denied grant
        → Admits now sessions call (Some session) after (Err answer)
    lacks_grant error answer denies told =
        subst (λ (a : LocalAnswer). Admits now sessions call (Some session) after (Err a))
        (sym (told ∙ ap denied is))
        (Admits.lacks session after renewed
        (subst (λ (g : Grant). denial session g now after ≡ Some why.Missing) is
        (is_denied (denial session grant now after) error denies
        (used_asked session now sessions after grant renewed))))
