-- A call as a whole.
use Rattle.std.proofs.Common.{ℕ, ◌≡◌, ◌≢◌, ◌+◌, inl, inr, List, length, Option, Some, None, Result, Ok, Err, IfOk, Bool, true, false, refl, sym, ap, subst, ◌∙◌, arith}
use Rattle.blob_codec.specs.declared.blob.Attr.{Attr}
use Rattle.plane_disk.specs.Files.{Files}
use Rattle.plane_disk.specs.View.{View, IsSound}
use Rattle.snap_disk.specs.declared.snap.Snap.{Snap}
use Rattle.snap_disk.specs.Images.{SameDisk}
use Rattle.snap_disk.specs.Opened.{State}
use Rattle.snap_disk.specs.Open.{IsOpenOn}
use Rattle.snap_disk.specs.Refusals.{IsGood}
use Rattle.snap_disk.proofs.Moments.{started}
use Rattle.uci_staged.specs.Kept.{Follows, AreStagedIn, AreKept}
use Rattle.uci_store.specs.declared.store.Store.{Store}
use Rattle.uci_store.specs.Store.{names_of, snap_of, files_of, staged_in, has_failed, IsStore, IsOnFiles, IsOnStaged}
use Rattle.uci_store.specs.Stops.{OpensAsOne, StopLeaves}
use Rattle.rpc_session.specs.declared.grant.Grant.{Grant}
use Rattle.rpc_session.specs.SessionList.{SessionList}
use Rattle.rpc_rules.specs.declared.caller.Caller.{Caller}
use Rattle.rpc_rules.specs.declared.method.Question.{Question}
use Rattle.rpc_rules.specs.declared.method.Method.{Method}
use Rattle.rpc_rules.specs.declared.method.Method.TheVariants.{Ask, Stage, Revert, Commit, Apply, Confirm, Rollback}
use Rattle.rpc_rules.specs.declared.rpc_error.RpcError.{RpcError}
use Rattle.rpc_rules.specs.declared.rpc_error.RpcError.TheVariants.{Status, Denied, DiskFailed, Memory}
use Rattle.rpc_rules.specs.Status.{bad_argument, no_method, not_found}
use Rattle.rpc_rules.specs.Method.{method_of}
use Rattle.rpc_rules.specs.Arguments.{caller_in, config_in, holder_of, apply_deadline}
use Rattle.rpc_rules.specs.Grants.{needed, is_admitted}
use Rattle.rpc_uci.specs.declared.reply.Reply.{Reply}
use Rattle.rpc_uci.specs.Call.{Call, call_by, renewed, missing, denied_grant}
use Rattle.rpc_uci.specs.Done.{Rests, AskAnswers, IsRefusal, WithConfig, WithDeadline, RevertDone, CommitDone, ApplyDone, MethodDone, GrantedDone, CallDone, Answers, reloads, MethodLeads, GrantedLeads, CallLeads, Leads}
use Rattle.rpc_uci.specs.Staging.{HasCause}
use Rattle.rpc_uci.specs.Ending.{HasDiskCause}

-- ---- disks and stores that stay

pub same_disk : (view : View) → SameDisk view view
same_disk view = record { names = refl; tells = λ files e. (files, e); silent = λ e. e; later = omega arith }

pub same_follows : (view : View) → Follows view view
same_follows view = record { names = refl; tells = λ files e. (files, e); silent = λ e. e; later = omega arith }

pub files_kept : (old new : Store) (view : View) → IsOnFiles old view → has_failed old ≡ false → names_of new ≡ names_of old → snap_of new ≡ snap_of old → IsStore new → IsOnFiles new view
files_kept old new view on ready names snap is = record {
  is = is;
  names = on.names ∙ sym names;
  count = subst (λ (n : List (List ℕ)). length view.names ≡ length n + 2) (sym names) on.count;
  snap = subst (λ (s : Snap). IsOpenOn s view) (sym snap) on.snap;
  ready = λ _. subst IsGood (sym snap) (on.ready ready);
}

pub staged_kept : (old new : Store) (view : View) → IsOnStaged old view → has_failed old ≡ false → names_of new ≡ names_of old → staged_in new ≡ staged_in old → IsStore new → IsOnStaged new view
staged_kept old new view on ready names staged is = record {
  is = is;
  names = on.names ∙ sym names;
  count = subst (λ (n : List (List ℕ)). length view.names ≡ length n + 2) (sym names) on.count;
  lines = subst (AreStagedIn view.names) (sym staged) on.lines;
  kept = λ _. subst (AreKept view) (sym staged) (on.kept ready);
}

-- a call that leaves the disk leaves the images
pub nothing_moved : (store : Store) (view : View) (To : State → Type 0) → IsSound view → IsOnFiles store view → StopLeaves store view view To
nothing_moved store view To sound on good files seen =
    let opens : (image : Files) → view.is_image image → OpensAsOne view.names (files_of store) To image = λ image is. inl (on.snap.durable good files seen image is) in
    let run = started view (OpensAsOne view.names (files_of store) To) sound opens in
    run.leaves

-- ---- why a disk failed

pub staged_failed : {X : Type 0} (result : Result X RpcError) (failed : Bool) (files_old files_new staged_old staged_new : View) → HasCause result failed staged_old staged_new
    → HasDiskCause result failed files_old files_new staged_old staged_new
staged_failed (Ok x) failed files_old files_new staged_old staged_new h = h
staged_failed (Err (Status status)) failed files_old files_new staged_old staged_new h = h
staged_failed (Err (Denied grant)) failed files_old files_new staged_old staged_new h = h
staged_failed (Err DiskFailed) failed files_old files_new staged_old staged_new h = (h.0, inr h.1)
staged_failed (Err Memory) failed files_old files_new staged_old staged_new h = h

pub files_failed : {X : Type 0} (result : Result X RpcError) (failed : Bool) (files_old files_new staged_old staged_new : View) → HasCause result failed files_old files_new
    → HasDiskCause result failed files_old files_new staged_old staged_new
files_failed (Ok x) failed files_old files_new staged_old staged_new h = h
files_failed (Err (Status status)) failed files_old files_new staged_old staged_new h = h
files_failed (Err (Denied grant)) failed files_old files_new staged_old staged_new h = h
files_failed (Err DiskFailed) failed files_old files_new staged_old staged_new h = (h.0, inl h.1)
files_failed (Err Memory) failed files_old files_new staged_old staged_new h = h

-- a question fails no disk
pub ask_failed : (question : Question) (store : Store) (call : Call) (result : Result Reply RpcError) (failed : Bool) (files_old files_new staged_old staged_new : View) → AskAnswers question store call result → failed ≡ false
    → HasDiskCause result failed files_old files_new staged_old staged_new
ask_failed question store call (Ok reply) failed files_old files_new staged_old staged_new h ready = ready
ask_failed question store call (Err (Status status)) failed files_old files_new staged_old staged_new h ready = ready
ask_failed question store call (Err (Denied grant)) failed files_old files_new staged_old staged_new h ready = absurd h
ask_failed question store call (Err DiskFailed) failed files_old files_new staged_old staged_new h ready = absurd h
ask_failed question store call (Err Memory) failed files_old files_new staged_old staged_new h ready = ready

-- ---- grants that are needed

pub needed_same : (method : Method) (caller : Caller) (args : List Attr) (staged names : List (List ℕ)) (waiting : Option ℕ) → (method ≡ Apply → staged ≡ names) → needed method caller args staged waiting
    ≡ needed method caller args names waiting
needed_same (Ask question) caller args staged names waiting h = refl
needed_same (Stage edit) caller args staged names waiting h = refl
needed_same Revert caller args staged names waiting h = refl
needed_same Commit caller args staged names waiting h = refl
needed_same Apply caller args staged names waiting h = ap (λ (z : List (List ℕ)). needed Apply caller args z waiting) (h refl)
needed_same Confirm caller args staged names waiting h = refl
needed_same Rollback caller args staged names waiting h = refl

-- ---- what is told of the whole call

not_denied : (grant : Grant) (status : ℕ) → IsRefusal (Status status) (Err (Denied grant)) → ⊥
not_denied grant status (inl e) = let f : ◌≡◌ {A = RpcError} (Denied grant) (Status status) = e in cc
not_denied grant status (inr e) = let f : ◌≡◌ {A = RpcError} (Denied grant) Memory = e in cc

config_not_denied : (config : Option (List ℕ)) (old new : Store) (grant : Grant) (Done : List ℕ → Type 0) → ((name : List ℕ) → Done name → ⊥) → WithConfig config old new (Err (Denied grant)) Done → ⊥
config_not_denied None old new grant Done never h = not_denied grant bad_argument h.answer
config_not_denied (Some name) old new grant Done never h = never name h

deadline_not_denied : (deadline : Result (Option ℕ) ℕ) (old new : Store) (grant : Grant) (Done : Option ℕ → Type 0) → ((d : Option ℕ) → Done d → ⊥) → WithDeadline deadline old new (Err (Denied grant)) Done → ⊥
deadline_not_denied (Err status) old new grant Done never h = not_denied grant status h.answer
deadline_not_denied (Ok d) old new grant Done never h = never d h

-- a method never answers that a grant is missing
method_not_denied : (method : Method) (call : Call) (old new : Store) (grant : Grant) → MethodDone method call old new (Err (Denied grant)) → ⊥
method_not_denied (Ask question) call old new grant h = h.answers
method_not_denied (Stage edit) call old new grant h = h
method_not_denied Revert call old new grant h = config_not_denied (config_in call.args) old new grant (RevertDone (holder_of call.caller) old new (Err (Denied grant))) (λ name never. never) h
method_not_denied Commit call old new grant h = config_not_denied (config_in call.args) old new grant (CommitDone (holder_of call.caller) old new (Err (Denied grant))) (λ name never. never) h
method_not_denied Apply call old new grant h = deadline_not_denied (apply_deadline call.args call.now) old new grant (ApplyDone (holder_of call.caller) old new (Err (Denied grant))) (λ d never. never) h
method_not_denied Confirm call old new grant h = h
method_not_denied Rollback call old new grant h = h

only_memory : (grant : Grant) → IsRefusal Memory (Err (Denied grant)) → ⊥
only_memory grant (inl e) = let f : ◌≡◌ {A = RpcError} (Denied grant) Memory = e in cc
only_memory grant (inr e) = let f : ◌≡◌ {A = RpcError} (Denied grant) Memory = e in cc

same_grant_told : (told grant : Grant) → IsRefusal (Denied told) (Err (Denied grant)) → ◌≡◌ {A = Option Grant} (Some told) (Some grant)
same_grant_told told grant (inl e) = let f : ◌≡◌ {A = RpcError} (Denied grant) (Denied told) = e in let g : grant ≡ told = cc in ap (λ (z : Grant). Some z) (sym g)
same_grant_told told grant (inr e) = absurd (let f : ◌≡◌ {A = RpcError} (Denied grant) Memory = e in cc)

granted_denied : (found : Option Grant) (method : Method) (call : Call) (old new : Store) (grant : Grant) → GrantedDone found method call old new (Err (Denied grant)) → found ≡ Some grant
granted_denied None method call old new grant h = absurd (method_not_denied method call old new grant h)
granted_denied (Some told) method call old new grant h = same_grant_told told grant h.answer

-- the grant that a call is told to lack is the first that is missing
pub denied_is : (method : Option Method) (admitted : Bool) (call : Call) (old new : Store) (grant : Grant) → CallDone method admitted call old new (Err (Denied grant)) → denied_grant method admitted call old ≡ Some grant
denied_is None admitted call old new grant h = absurd (not_denied grant no_method h.answer)
denied_is (Some method) false call old new grant h = absurd (not_denied grant not_found h.answer)
denied_is (Some method) true call old new grant (inl h) = absurd (only_memory grant h.answer)
denied_is (Some method) true call old new grant (inr h) = granted_denied (missing method call old) method call old new grant h

told_denied : (result : Result Reply RpcError) (grant : Grant) → result ≢ Err Memory → IsRefusal (Denied grant) result → result ≡ Err (Denied grant)
told_denied (Ok reply) grant ample h = absurd h
told_denied (Err error) grant ample (inl e) = ap (λ (z : RpcError). Err z) e
told_denied (Err error) grant ample (inr e) = absurd (ample (ap (λ (z : RpcError). Err z) e))

told_memory : (result : Result Reply RpcError) → result ≢ Err Memory → IsRefusal Memory result → ⊥
told_memory (Ok reply) ample h = h
told_memory (Err error) ample (inl e) = ample (ap (λ (z : RpcError). Err z) e)
told_memory (Err error) ample (inr e) = ample (ap (λ (z : RpcError). Err z) e)

-- and where one is missing the call is told so
pub is_denied : (method : Option Method) (admitted : Bool) (call : Call) (old new : Store) (result : Result Reply RpcError) (grant : Grant) → CallDone method admitted call old new result → result ≢ Err Memory
    → denied_grant method admitted call old ≡ Some grant → result ≡ Err (Denied grant)
is_denied None admitted call old new result grant h ample e = absurd (let f : ◌≡◌ {A = Option Grant} None (Some grant) = e in cc)
is_denied (Some method) false call old new result grant h ample e = absurd (let f : ◌≡◌ {A = Option Grant} None (Some grant) = e in cc)
is_denied (Some method) true call old new result grant (inl h) ample e = absurd (told_memory result ample h.answer)
is_denied (Some method) true call old new result grant (inr h) ample e =
    let d = subst (λ (g : Option Grant). GrantedDone g method call old new result) e h in
    told_denied result grant ample d.answer

config_reloads : (config : Option (List ℕ)) (old new : Store) (reply : Reply) (Done : List ℕ → Type 0) → ((name : List ℕ) → Done name → reply.reload ≡ false) → WithConfig config old new (Ok reply) Done → reply.reload ≡ false
config_reloads None old new reply Done quiet h = absurd h.answer
config_reloads (Some name) old new reply Done quiet h = quiet name h

deadline_reloads : (deadline : Result (Option ℕ) ℕ) (old new : Store) (reply : Reply) (Done : Option ℕ → Type 0) → ((d : Option ℕ) → Done d → reply.reload ≡ true) → WithDeadline deadline old new (Ok reply) Done → reply.reload ≡ true
deadline_reloads (Err status) old new reply Done loud h = absurd h.answer
deadline_reloads (Ok d) old new reply Done loud h = loud d h

abbrev reload_of : Reply → Bool
reload_of reply = reply.reload

method_reloads : (method : Method) (call : Call) (old new : Store) (reply : Reply) → MethodDone method call old new (Ok reply) → reply.reload ≡ reloads (Some method)
method_reloads (Ask question) call old new reply h = h.answers.1
method_reloads (Stage edit) call old new reply h = ap reload_of h.told
method_reloads Revert call old new reply h = config_reloads (config_in call.args) old new reply (RevertDone (holder_of call.caller) old new (Ok reply)) (λ name done. ap reload_of done.0) h
method_reloads Commit call old new reply h = config_reloads (config_in call.args) old new reply (CommitDone (holder_of call.caller) old new (Ok reply)) (λ name done. ap reload_of done.0) h
method_reloads Apply call old new reply h = deadline_reloads (apply_deadline call.args call.now) old new reply (ApplyDone (holder_of call.caller) old new (Ok reply)) (λ d done. ap reload_of done.0) h
method_reloads Confirm call old new reply h = ap reload_of h.0
method_reloads Rollback call old new reply h = ap reload_of h.0

granted_reloads : (found : Option Grant) (method : Method) (call : Call) (old new : Store) (reply : Reply) → GrantedDone found method call old new (Ok reply) → reply.reload ≡ reloads (Some method)
granted_reloads None method call old new reply h = method_reloads method call old new reply h
granted_reloads (Some grant) method call old new reply h = absurd h.answer

call_reloads : (method : Option Method) (admitted : Bool) (call : Call) (old new : Store) (reply : Reply) → CallDone method admitted call old new (Ok reply) → reply.reload ≡ reloads method
call_reloads None admitted call old new reply h = absurd h.answer
call_reloads (Some method) false call old new reply h = absurd h.answer
call_reloads (Some method) true call old new reply (inl h) = absurd h.answer
call_reloads (Some method) true call old new reply (inr h) = granted_reloads (missing method call old) method call old new reply h

pub reloads_once_told : (method : Option Method) (admitted : Bool) (call : Call) (old new : Store) (result : Result Reply RpcError) → CallDone method admitted call old new result → IfOk result (λ reply. reply.reload ≡ reloads method)
reloads_once_told method admitted call old new (Ok reply) h = call_reloads method admitted call old new reply h
reloads_once_told method admitted call old new (Err error) h = tt

-- ---- the parts of a call, put together

-- the call is that of its arguments
pub by_arguments : (list after : SessionList) (name : List ℕ) (args : List Attr) (now : ℕ) (caller : Caller) (method : Option Method) (admitted : Bool) (old new : Store) (result : Result Reply RpcError)
    → caller ≡ caller_in args → after ≡ renewed caller now list → method ≡ method_of name → admitted ≡ is_admitted caller now list → CallDone method admitted (call_by after caller args now) old new result
    → Answers list name args now old new result
by_arguments list after name args now caller method admitted old new result c a m t done =
    let one = subst (λ (l : SessionList). CallDone method admitted (call_by l caller args now) old new result) a done in
    let two = subst (λ (b : Bool). CallDone method b (call_by (renewed caller now list) caller args now) old new result) t one in
    let three = subst (λ (z : Caller). CallDone method (is_admitted z now list) (call_by (renewed z now list) z args now) old new result) c two in
    subst (λ (z : Option Method). CallDone z (is_admitted (caller_in args) now list) (call_by (renewed (caller_in args) now list) (caller_in args) args now) old new result) m three

-- and so is what it leads to
pub leads_by_arguments : (list after : SessionList) (name : List ℕ) (args : List Attr) (now : ℕ) (caller : Caller) (method : Method) (found : Option Method) (admitted : Bool) (old : Store) (before behind : View)
    → caller ≡ caller_in args → after ≡ renewed caller now list → found ≡ method_of name → found ≡ Some method → admitted ≡ is_admitted caller now list → admitted ≡ true → missing method (call_by after caller args now) old ≡ None
    → StopLeaves old before behind (MethodLeads method (call_by after caller args now) old) → StopLeaves old before behind (Leads list name args now old)
leads_by_arguments list after name args now caller method found admitted old before behind c a m s t admits none leaves =
    let call = call_by after caller args now in
    let granted = subst (λ (g : Option Grant). StopLeaves old before behind (GrantedLeads g method call old)) (sym none) leaves in
    let zero = subst (λ (b : Bool). StopLeaves old before behind (CallLeads (Some method) b call old)) (sym admits) granted in
    let one = subst (λ (l : SessionList). StopLeaves old before behind (CallLeads (Some method) admitted (call_by l caller args now) old)) a zero in
    let two = subst (λ (b : Bool). StopLeaves old before behind (CallLeads (Some method) b (call_by (renewed caller now list) caller args now) old)) t one in
    let three = subst (λ (z : Caller). StopLeaves old before behind (CallLeads (Some method) (is_admitted z now list) (call_by (renewed z now list) z args now) old)) c two in
    subst (λ (z : Option Method). StopLeaves old before behind (CallLeads z (is_admitted (caller_in args) now list) (call_by (renewed (caller_in args) now list) (caller_in args) args now) old)) (sym s ∙ m) three

pub rests_itself : (store : Store) → Rests store store
rests_itself store = record { files = refl; staged = refl }

pub no_such_method : (admitted : Bool) (call : Call) (store : Store) → CallDone None admitted call store store (Err (Status no_method))
no_such_method admitted call store = record { answer = inl refl; rests = rests_itself store }

pub no_such_session : (method : Method) (call : Call) (store : Store) → CallDone (Some method) false call store store (Err (Status not_found))
no_such_session method call store = record { answer = inl refl; rests = rests_itself store }

pub no_memory : (method : Method) (call : Call) (store : Store) → CallDone (Some method) true call store store (Err Memory)
no_memory method call store = inl (record { answer = inl refl; rests = rests_itself store })

pub grant_missing : (method : Method) (call : Call) (store : Store) (grant : Grant) → missing method call store ≡ Some grant → CallDone (Some method) true call store store (Err (Denied grant))
grant_missing method call store grant e = inr (subst (λ (g : Option Grant). GrantedDone g method call store store (Err (Denied grant))) (sym e) (record { answer = inl refl; rests = rests_itself store }))

pub method_carried_out : (method : Method) (call : Call) (old new : Store) (result : Result Reply RpcError) → missing method call old ≡ None → MethodDone method call old new result → CallDone (Some method) true call old new result
method_carried_out method call old new result e done = inr (subst (λ (g : Option Grant). GrantedDone g method call old new result) (sym e) done)

-- what a call goes by, worked out of its arguments
pub record AreParts (list after : SessionList) (name : List ℕ) (args : List Attr) (now : ℕ) (caller : Caller) (found : Option Method) (admitted : Bool) : Type 0 where
  pub caller_is : caller ≡ caller_in args
  pub after_is : after ≡ renewed caller now list
  pub method_is : found ≡ method_of name
  pub admitted_is : admitted ≡ is_admitted caller now list

parts_answer : (list after : SessionList) (name : List ℕ) (args : List Attr) (now : ℕ) (caller : Caller) (found : Option Method) (admitted : Bool) (old new : Store) (result : Result Reply RpcError)
    → AreParts list after name args now caller found admitted → CallDone found admitted (call_by after caller args now) old new result → Answers list name args now old new result
parts_answer list after name args now caller found admitted old new result parts done =
    by_arguments list after name args now caller found admitted old new result parts.caller_is parts.after_is parts.method_is parts.admitted_is done

pub answers_no_method : (list after : SessionList) (name : List ℕ) (args : List Attr) (now : ℕ) (caller : Caller) (found : Option Method) (admitted : Bool) (store : Store)
    → AreParts list after name args now caller found admitted → found ≡ None → Answers list name args now store store (Err (Status no_method))
answers_no_method list after name args now caller found admitted store parts none =
    let call = call_by after caller args now in
    parts_answer list after name args now caller found admitted store store (Err (Status no_method)) parts
    (subst (λ (m : Option Method). CallDone m admitted call store store (Err (Status no_method))) (sym none) (no_such_method admitted call store))

-- with a method
some_answer : (list after : SessionList) (name : List ℕ) (args : List Attr) (now : ℕ) (caller : Caller) (found : Option Method) (method : Method) (admitted known : Bool) (old new : Store) (result : Result Reply RpcError)
    → AreParts list after name args now caller found admitted → found ≡ Some method → admitted ≡ known → CallDone (Some method) known (call_by after caller args now) old new result → Answers list name args now old new result
some_answer list after name args now caller found method admitted known old new result parts some is done =
    let call = call_by after caller args now in
    parts_answer list after name args now caller found admitted old new result parts
    (subst (λ (m : Option Method). CallDone m admitted call old new result) (sym some)
    (subst (λ (b : Bool). CallDone (Some method) b call old new result) (sym is) done))

pub answers_no_session : (list after : SessionList) (name : List ℕ) (args : List Attr) (now : ℕ) (caller : Caller) (found : Option Method) (method : Method) (admitted : Bool) (store : Store)
    → AreParts list after name args now caller found admitted → found ≡ Some method → admitted ≡ false → Answers list name args now store store (Err (Status not_found))
answers_no_session list after name args now caller found method admitted store parts some is =
    some_answer list after name args now caller found method admitted false store store (Err (Status not_found)) parts some is (no_such_session method (call_by after caller args now) store)

pub answers_no_memory : (list after : SessionList) (name : List ℕ) (args : List Attr) (now : ℕ) (caller : Caller) (found : Option Method) (method : Method) (admitted : Bool) (store : Store)
    → AreParts list after name args now caller found admitted → found ≡ Some method → admitted ≡ true → Answers list name args now store store (Err Memory)
answers_no_memory list after name args now caller found method admitted store parts some is =
    some_answer list after name args now caller found method admitted true store store (Err Memory) parts some is (no_memory method (call_by after caller args now) store)

pub answers_denied : (list after : SessionList) (name : List ℕ) (args : List Attr) (now : ℕ) (caller : Caller) (found : Option Method) (method : Method) (admitted : Bool) (store : Store) (grant : Grant)
    → AreParts list after name args now caller found admitted → found ≡ Some method → admitted ≡ true → missing method (call_by after caller args now) store ≡ Some grant → Answers list name args now store store (Err (Denied grant))
answers_denied list after name args now caller found method admitted store grant parts some is lacks =
    some_answer list after name args now caller found method admitted true store store (Err (Denied grant)) parts some is (grant_missing method (call_by after caller args now) store grant lacks)

pub answers_method : (list after : SessionList) (name : List ℕ) (args : List Attr) (now : ℕ) (caller : Caller) (found : Option Method) (method : Method) (admitted : Bool) (old new : Store) (result : Result Reply RpcError)
    → AreParts list after name args now caller found admitted → found ≡ Some method → admitted ≡ true → missing method (call_by after caller args now) old ≡ None → MethodDone method (call_by after caller args now) old new result
    → Answers list name args now old new result
answers_method list after name args now caller found method admitted old new result parts some is none done =
    some_answer list after name args now caller found method admitted true old new result parts some is (method_carried_out method (call_by after caller args now) old new result none done)

pub leads_method : (list after : SessionList) (name : List ℕ) (args : List Attr) (now : ℕ) (caller : Caller) (found : Option Method) (method : Method) (admitted : Bool) (old : Store) (before behind : View)
    → AreParts list after name args now caller found admitted → found ≡ Some method → admitted ≡ true → missing method (call_by after caller args now) old ≡ None
    → StopLeaves old before behind (MethodLeads method (call_by after caller args now) old) → StopLeaves old before behind (Leads list name args now old)
leads_method list after name args now caller found method admitted old before behind parts some is none leaves =
    leads_by_arguments list after name args now caller method found admitted old before behind parts.caller_is parts.after_is parts.method_is some parts.admitted_is is none leaves

-- a method that is known
pub by_method : (method known : Method) (call : Call) (old new : Store) (result : Result Reply RpcError) → method ≡ known → MethodDone known call old new result → MethodDone method call old new result
by_method method known call old new result e h = subst (λ (m : Method). MethodDone m call old new result) (sym e) h

pub leads_by_method : (method known : Method) (call : Call) (old : Store) (before behind : View) → method ≡ known → StopLeaves old before behind (MethodLeads known call old) → StopLeaves old before behind (MethodLeads method call old)
leads_by_method method known call old before behind e h = subst (λ (m : Method). StopLeaves old before behind (MethodLeads m call old)) (sym e) h

pub none_missing : (method known : Method) (call : Call) (store : Store) → method ≡ known → missing method call store ≡ None → missing known call store ≡ None
none_missing method known call store e h = subst (λ (m : Method). missing m call store ≡ None) e h

pub ask_done : (question : Question) (call : Call) (store : Store) (result : Result Reply RpcError) → AskAnswers question store call result → MethodDone (Ask question) call store store result
ask_done question call store result h = record { answers = h; rests = rests_itself store }
