-- A call has one answer.
use Rattle.std.proofs.Common.{ℕ, ◌≡◌, ◌≤◌, ◌⊎◌, inl, inr, List, [], ◌∷◌, length, Option, Some, None, Result, Ok, Err, Bool, true, false, nat_eq, refl, sym, ap, subst, ◌∙◌, arith}
use Rattle.std.specs.Prelude.{◌&&◌, ◌||◌}
use Rattle.std.specs.List.{AllByRecursion, list_any}
use Rattle.snap_disk.specs.declared.new_file.NewFile.{NewFile}
use Rattle.snap_disk.specs.declared.new_file.Pending.{Pending}
use Rattle.snap_disk.specs.Body.{most_bytes}
use Rattle.snap_disk.specs.Opened.{State}
use Rattle.snap_disk.specs.Open.{pending_of}
use Rattle.snap_disk.specs.Phase.{Stands}
use Rattle.blob_codec.specs.declared.blob.Attr.{Attr}
use Rattle.uci_tree.specs.declared.package.Package.{Package}
use Rattle.uci_tree.specs.declared.tree_error.TreeError.{TreeError}
use Rattle.uci_tree.proofs.LawLemmas.{no_package}
use Rattle.uci_staged.specs.declared.change.StagedChange.{StagedChange}
use Rattle.uci_staged.specs.Change.{is_of, has_deltas, has_staged}
use Rattle.uci_store.specs.declared.store.Store.{Store}
use Rattle.uci_store.specs.Store.{names_of, files_of, staged_in, name_of, text_of}
use Rattle.uci_store.specs.Refusals.{HasFile, HasNoFile, IsSeenAt, LacksReading}
use Rattle.uci_store.specs.Committing.{file_text, IsNewFile, HasCommitted, IsSeenTooLarge}
use Rattle.uci_store.specs.Applying.{HasSmallView, HasApplied, IsFirstUnread, AreReadAndLarge}
use Rattle.uci_store.specs.Waiting.{WaitsFor, ConfirmsTo, RollsBackTo}
use Rattle.rpc_session.specs.declared.grant.Grant.{Grant}
use Rattle.rpc_session.specs.SessionList.{SessionList}
use Rattle.rpc_rules.specs.declared.method.Question.{Question}
use Rattle.rpc_rules.specs.declared.method.Question.TheVariants.{Configs, Get, Changes}
use Rattle.rpc_rules.specs.declared.method.Edit.{Edit}
use Rattle.rpc_rules.specs.declared.method.Method.{Method}
use Rattle.rpc_rules.specs.declared.method.Method.TheVariants.{Ask, Stage, Revert, Commit, Apply, Confirm, Rollback}
use Rattle.rpc_rules.specs.declared.plan.Plan.{Plan}
use Rattle.rpc_rules.specs.declared.rpc_error.RpcError.{RpcError}
use Rattle.rpc_rules.specs.declared.rpc_error.RpcError.TheVariants.{Status, Denied, DiskFailed, Memory}
use Rattle.rpc_rules.specs.Status.{bad_argument, no_method, not_found, and_then}
use Rattle.rpc_rules.specs.Method.{method_of}
use Rattle.rpc_rules.specs.Arguments.{caller_in, config_in, holder_of, question_fits, edit_fits, apply_deadline}
use Rattle.rpc_rules.specs.Grants.{is_admitted}
use Rattle.rpc_rules.specs.Told.{get_told}
use Rattle.rpc_uci.specs.declared.reply.Reply.{Reply}
use Rattle.rpc_uci.specs.Call.{Call, call_of, missing}
use Rattle.rpc_uci.specs.Sight.{Sees}
use Rattle.rpc_uci.specs.Outcome.{SeesNamed, ComesOf, planned_of, AskComesTo, EditComesTo}
use Rattle.rpc_uci.specs.Done.{quiet, reloading, IsRefusal, IsRefused, AskAnswers, EditDone, WithConfig, WithDeadline, RevertDone, CommitIsRefused, CommitDone, ApplyIsRefused, ApplyDone, EndDone, MethodDone, GrantedDone, AdmittedDone}
use Rattle.rpc_uci.specs.Done.{CallDone, Answers, IsGiven}
use Rattle.rpc_uci.proofs.SightLemmas.{one_file, one_sight}

-- ---- refusals

refused_so : (error : RpcError) (result : Result Reply RpcError) → IsGiven result → IsRefusal error result → result ≡ Err error
refused_so error (Ok reply) given h = absurd h
refused_so error (Err told) given (inl e) = ap (λ (z : RpcError). Err z) e
refused_so error (Err told) given (inr e) = absurd (subst (λ (z : RpcError). IsGiven (Err z)) e given)

same_refusal : (error : RpcError) (old one other : Store) (result again : Result Reply RpcError) → IsRefused error old one result → IsRefused error old other again → IsGiven result → IsGiven again → again ≡ result
same_refusal error old one other result again h k g f = refused_so error again f k.answer ∙ sym (refused_so error result g h.answer)

same_status : (a b : ℕ) → a ≡ b → ◌≡◌ {A = Result Reply RpcError} (Err (Status a)) (Err (Status b))
same_status a b e = ap (λ (z : ℕ). Err (Status z)) e

same_ok : (a b : Reply) → a ≡ b → ◌≡◌ {A = Result Reply RpcError} (Ok a) (Ok b)
same_ok a b e = ap (λ (z : Reply). Ok z) e

-- what is known of two answers of which neither is that a grant is missing
record AreOne (D E : Result Reply RpcError → Type 0) : Type 0 where
  replies : (a b : Reply) → D (Ok a) → E (Ok b) → b ≡ a
  first : (a : Reply) (n : ℕ) → D (Ok a) → E (Err (Status n)) → ⊥
  second : (n : ℕ) (b : Reply) → D (Err (Status n)) → E (Ok b) → ⊥
  statuses : (n m : ℕ) → D (Err (Status n)) → E (Err (Status m)) → m ≡ n
  grants : (grant : Grant) → D (Err (Denied grant)) → ⊥
  others : (grant : Grant) → E (Err (Denied grant)) → ⊥

once : (D E : Result Reply RpcError → Type 0) → AreOne D E → (result again : Result Reply RpcError) → D result → E again → IsGiven result → IsGiven again → again ≡ result
once D E one (Ok a) (Ok b) h k g f = same_ok b a (one.replies a b h k)
once D E one (Ok a) (Err (Status n)) h k g f = absurd (one.first a n h k)
once D E one (Ok a) (Err (Denied grant)) h k g f = absurd (one.others grant k)
once D E one (Ok a) (Err DiskFailed) h k g f = absurd f
once D E one (Ok a) (Err Memory) h k g f = absurd f
once D E one (Err (Status n)) (Ok b) h k g f = absurd (one.second n b h k)
once D E one (Err (Status n)) (Err (Status m)) h k g f = same_status m n (one.statuses n m h k)
once D E one (Err (Status n)) (Err (Denied grant)) h k g f = absurd (one.others grant k)
once D E one (Err (Status n)) (Err DiskFailed) h k g f = absurd f
once D E one (Err (Status n)) (Err Memory) h k g f = absurd f
once D E one (Err (Denied grant)) again h k g f = absurd (one.grants grant h)
once D E one (Err DiskFailed) again h k g f = absurd g
once D E one (Err Memory) again h k g f = absurd g

-- ---- what is seen

there_or_not : (store : Store) (name : List ℕ) (file : ℕ) → HasFile store name file → HasNoFile store name → ⊥
there_or_not store name file h none = let e : ◌≡◌ {A = Option ℕ} None (Some file) = sym none ∙ h in cc

reads_or_not : (store : Store) (holder file other : ℕ) (view : Package) (error : TreeError) → other ≡ file → IsSeenAt store holder file view → LacksReading store other error → ⊥
reads_or_not store holder file other view error same seen lacks =
    no_package (name_of (names_of store) file) (text_of (files_of store) file) error seen.base (subst (λ (k : ℕ). LacksReading store k error) same lacks) seen.reads

one_seen : (store : Store) (holder : ℕ) (name : List ℕ) (a b : Result Package ℕ) → Sees store holder name a → Sees store holder name b → b ≡ a
one_seen store holder name (Ok v) (Ok w) h k =
    let same : k.file ≡ h.file = one_file store name h.file k.file h.number k.number in
    let seen : IsSeenAt store holder h.file w = subst (λ (n : ℕ). IsSeenAt store holder n w) same k.seen in
    ap (λ (z : Package). Ok z) (one_sight store holder h.file v w h.seen seen)
one_seen store holder name (Ok v) (Err n) h (inl k) = absurd (there_or_not store name h.file h.number k.0)
one_seen store holder name (Ok v) (Err n) h (inr k) = absurd (reads_or_not store holder h.file k.1.file v k.0 (one_file store name h.file k.1.file h.number k.1.number) h.seen k.1.fault)
one_seen store holder name (Err n) (Ok v) (inl h) k = absurd (there_or_not store name k.file k.number h.0)
one_seen store holder name (Err n) (Ok v) (inr h) k = absurd (reads_or_not store holder k.file h.1.file v h.0 (one_file store name k.file h.1.file k.number h.1.number) k.seen h.1.fault)
one_seen store holder name (Err n) (Err m) (inl h) (inl k) = ap (λ (z : ℕ). Err z) (k.1 ∙ sym h.1)
one_seen store holder name (Err n) (Err m) (inl h) (inr k) = absurd (there_or_not store name k.1.file k.1.number h.0)
one_seen store holder name (Err n) (Err m) (inr h) (inl k) = absurd (there_or_not store name h.1.file h.1.number k.0)
one_seen store holder name (Err n) (Err m) (inr h) (inr k) = ap (λ (z : ℕ). Err z) (k.2 ∙ sym h.2)

one_named : (store : Store) (holder : ℕ) (fits : Bool) (config : Option (List ℕ)) (a b : Result Package ℕ) → SeesNamed store holder fits config a → SeesNamed store holder fits config b → b ≡ a
one_named store holder false config a b h k = k ∙ sym h
one_named store holder true None a b h k = k ∙ sym h
one_named store holder true (Some name) a b h k = one_seen store holder name a b h k

one_outcome : {X : Type 0} (store : Store) (holder : ℕ) (fits : Bool) (config : Option (List ℕ)) (next : Package → Result X ℕ) (a b : Result X ℕ) → ComesOf store holder fits config next a → ComesOf store holder fits config next b → b ≡ a
one_outcome store holder fits config next a b h k =
    k.2 ∙ ap (λ (z : Result Package ℕ). and_then z next) (one_named store holder fits config h.0 k.0 h.1 k.1) ∙ sym h.2

-- ---- questions

one_told : (question : Question) (store : Store) (call : Call) (a b : Result (List Attr) ℕ) → AskComesTo question store call a → AskComesTo question store call b → b ≡ a
one_told Configs store call a b h k = k ∙ sym h
one_told Get store call a b h k = one_outcome store (holder_of call.caller) (question_fits Get call.args) (config_in call.args) (get_told call.args) a b h k
one_told Changes store call a b h k = k ∙ sym h

same_reply : (a b : Reply) → b.payload ≡ a.payload → b.reload ≡ a.reload → b ≡ a
same_reply a b p r = ap (λ (z : List Attr). reply_of z b.reload) p ∙ ap (λ (z : Bool). reply_of a.payload z) r
  where
    reply_of : List Attr → Bool → Reply
    reply_of payload reload = record { payload = payload; reload = reload }

ok_or_not : {X : Type 0} (x : X) (n : ℕ) → ◌≡◌ {A = Result X ℕ} (Ok x) (Err n) → ⊥
ok_or_not x n e = cc

pub ok_is : {X : Type 0} (x y : X) → ◌≡◌ {A = Result X ℕ} (Ok x) (Ok y) → x ≡ y
ok_is x y e = cc

err_is : {X : Type 0} (n m : ℕ) → ◌≡◌ {A = Result X ℕ} (Err n) (Err m) → n ≡ m
err_is n m e = cc

asked_once : (question : Question) (store : Store) (call : Call) → AreOne (AskAnswers question store call) (AskAnswers question store call)
asked_once question store call = record {
  replies = λ a b h k. same_reply a b (ok_is b.payload a.payload (one_told question store call (Ok a.payload) (Ok b.payload) h.0 k.0)) (k.1 ∙ sym h.1);
  first = λ a n h k. ok_or_not a.payload n (one_told question store call (Err n) (Ok a.payload) k h.0);
  second = λ n b h k. ok_or_not b.payload n (one_told question store call (Err n) (Ok b.payload) h k.0);
  statuses = λ n m h k. err_is {X = List Attr} m n (one_told question store call (Err n) (Err m) h k);
  grants = λ grant h. h;
  others = λ grant h. h;
}

-- ---- changes that are staged

pub one_plan : (edit : Edit) (store : Store) (holder : ℕ) (args : List Attr) (a b : Result Plan ℕ) → EditComesTo edit store holder args a → EditComesTo edit store holder args b → b ≡ a
one_plan edit store holder args a b h k = one_outcome store holder (edit_fits edit args) (config_in args) (planned_of edit (config_in args) args) a b h k

staged_once : (edit : Edit) (holder : ℕ) (args : List Attr) (old one other : Store) → AreOne (EditDone edit holder args old one) (EditDone edit holder args old other)
staged_once edit holder args old one other = record {
  replies = λ a b h k. k.told ∙ ap (λ (z : Plan). quiet z.told) (ok_is k.plan h.plan (one_plan edit old holder args (Ok h.plan) (Ok k.plan) h.comes k.comes)) ∙ sym h.told;
  first = λ a n h k. ok_or_not h.plan n (one_plan edit old holder args (Err n) (Ok h.plan) k.0 h.comes);
  second = λ n b h k. ok_or_not k.plan n (one_plan edit old holder args (Err n) (Ok k.plan) h.0 k.comes);
  statuses = λ n m h k. err_is {X = Plan} m n (one_plan edit old holder args (Err n) (Err m) h.0 k.0);
  grants = λ grant h. h;
  others = λ grant h. h;
}

-- ---- `revert`

reverted_once : (holder : ℕ) (old one other : Store) (name : List ℕ) → AreOne (λ r. RevertDone holder old one r name) (λ r. RevertDone holder old other r name)
reverted_once holder old one other name = record {
  replies = λ a b h k. k.0 ∙ sym h.0;
  first = λ a n h k. there_or_not old name h.1.file h.1.number k.0;
  second = λ n b h k. there_or_not old name k.1.file k.1.number h.0;
  statuses = λ n m h k. k.1 ∙ sym h.1;
  grants = λ grant h. h;
  others = λ grant h. h;
}

-- ---- `commit`

pub true_or_false : (t : Bool) → t ≡ true → t ≡ false → ⊥
true_or_false t h k = let e : true ≡ false = sym h ∙ k in cc

fits_or_not : (store : Store) (holder file other bytes : ℕ) (view : Package) → other ≡ file → IsSeenAt store holder file view → length (file_text view) ≤ most_bytes → IsSeenTooLarge store holder other bytes → ⊥
fits_or_not store holder file other bytes view same seen fits large =
    let there : IsSeenAt store holder file large.view = subst (λ (k : ℕ). IsSeenAt store holder k large.view) same large.seen in
    let view_is : large.view ≡ view = one_sight store holder file view large.view seen there in
    let size : length (file_text large.view) ≡ length (file_text view) = ap (λ (z : Package). length (file_text z)) view_is in
    omega (arith, large.large.size, large.large.passes, size, fits)

committed_or_not : (store : Store) (new : Store) (holder : ℕ) (name : List ℕ) (n : ℕ) → HasCommitted store new holder name → CommitIsRefused store holder name n → ⊥
committed_or_not store new holder name n (inl h) (inl k) = there_or_not store name h.nothing.file h.nothing.number k.0
committed_or_not store new holder name n (inl h) (inr (inl k)) =
    true_or_false (has_deltas holder h.nothing.file (staged_in store)) (subst (λ (f : ℕ). has_deltas holder f (staged_in store) ≡ true) (one_file store name h.nothing.file k.0.file h.nothing.number k.0.number) k.0.some) h.nothing.nothing
committed_or_not store new holder name n (inl h) (inr (inr k)) =
    true_or_false (has_deltas holder h.nothing.file (staged_in store)) (subst (λ (f : ℕ). has_deltas holder f (staged_in store) ≡ true) (one_file store name h.nothing.file k.0.file h.nothing.number k.0.number) k.0.some) h.nothing.nothing
committed_or_not store new holder name n (inr h) (inl k) = there_or_not store name h.file.file h.is.number k.0
committed_or_not store new holder name n (inr h) (inr (inl k)) =
    reads_or_not store holder h.file.file k.0.file h.is.is.view k.0.because.0 (one_file store name h.file.file k.0.file h.is.number k.0.number) h.is.is.seen k.0.because.1
committed_or_not store new holder name n (inr h) (inr (inr k)) =
    fits_or_not store holder h.file.file k.0.file k.0.because.0 h.is.is.view (one_file store name h.file.file k.0.file h.is.number k.0.number) h.is.is.seen
    (subst (λ (t : List ℕ). length t ≤ most_bytes) h.is.is.text h.is.is.fits) k.0.because.1

large_or_not : (store : Store) (holder file other bytes : ℕ) (error : TreeError) → other ≡ file → IsSeenTooLarge store holder file bytes → LacksReading store other error → ⊥
large_or_not store holder file other bytes error same large lacks = reads_or_not store holder file other large.view error same large.seen lacks

commit_status : (store : Store) (holder : ℕ) (name : List ℕ) (n m : ℕ) → CommitIsRefused store holder name n → CommitIsRefused store holder name m → m ≡ n
commit_status store holder name n m (inl h) (inl k) = k.1 ∙ sym h.1
commit_status store holder name n m (inl h) (inr (inl k)) = absurd (there_or_not store name k.0.file k.0.number h.0)
commit_status store holder name n m (inl h) (inr (inr k)) = absurd (there_or_not store name k.0.file k.0.number h.0)
commit_status store holder name n m (inr (inl h)) (inl k) = absurd (there_or_not store name h.0.file h.0.number k.0)
commit_status store holder name n m (inr (inr h)) (inl k) = absurd (there_or_not store name h.0.file h.0.number k.0)
commit_status store holder name n m (inr (inl h)) (inr (inl k)) = k.1 ∙ sym h.1
commit_status store holder name n m (inr (inl h)) (inr (inr k)) =
    absurd (large_or_not store holder k.0.file h.0.file k.0.because.0 h.0.because.0 (one_file store name k.0.file h.0.file k.0.number h.0.number) k.0.because.1 h.0.because.1)
commit_status store holder name n m (inr (inr h)) (inr (inl k)) =
    absurd (large_or_not store holder h.0.file k.0.file h.0.because.0 k.0.because.0 (one_file store name h.0.file k.0.file h.0.number k.0.number) h.0.because.1 k.0.because.1)
commit_status store holder name n m (inr (inr h)) (inr (inr k)) = k.1 ∙ sym h.1

committed_once : (holder : ℕ) (old one other : Store) (name : List ℕ) → AreOne (λ r. CommitDone holder old one r name) (λ r. CommitDone holder old other r name)
committed_once holder old one other name = record {
  replies = λ a b h k. k.0 ∙ sym h.0;
  first = λ a n h k. committed_or_not old one holder name n h.1 k.0;
  second = λ n b h k. committed_or_not old other holder name n k.1 h.0;
  statuses = λ n m h k. commit_status old holder name n m h.0 k.0;
  grants = λ grant h. h;
  others = λ grant h. h;
}

-- ---- `apply`

either_true : (s t : Bool) → (s || t) ≡ true → (s ≡ true) ⊎ (t ≡ true)
either_true true t e = inl refl
either_true false t e = inr e

or_first : (s t : Bool) → s ≡ true → (s || t) ≡ true
or_first s t e = subst (λ (b : Bool). (b || t) ≡ true) (sym e) refl

or_second : (s t : Bool) → t ≡ true → (s || t) ≡ true
or_second true t e = refl
or_second false t e = e

and_first : (s t : Bool) → (s && t) ≡ true → s ≡ true
and_first true t e = refl
and_first false t e = e

-- what is staged of a package is staged
some_staged : (holder file : ℕ) (changes : List StagedChange) → has_deltas holder file changes ≡ true → has_staged holder changes ≡ true
some_staged holder file [] e = e
some_staged holder file (change ∷ changes) e = elim (either_true (is_of holder file change) (list_any (is_of holder file) changes) e) as (λ _. has_staged holder (change ∷ changes) ≡ true) [
  | inl h ↦ or_first (nat_eq change.holder holder) (has_staged holder changes) (and_first (nat_eq change.holder holder) (nat_eq change.file file) h)
  | inr h ↦ or_second (nat_eq change.holder holder) (has_staged holder changes) (some_staged holder file changes h)
]

small_there : (store : Store) (holder : ℕ) (new : List NewFile) (file : ℕ) → AllByRecursion (IsNewFile store holder) new → Stands new file → HasSmallView store holder file
small_there store holder [] file all h = absurd h
small_there store holder (one ∷ new) file all (inl same) =
    let small : HasSmallView store holder one.file = record { view = all.0.view; seen = all.0.seen; fits = subst (λ (t : List ℕ). length t ≤ most_bytes) all.0.text all.0.fits } in
    subst (HasSmallView store holder) (sym same) small
small_there store holder (one ∷ new) file all (inr h) = small_there store holder new file all.1 h

applied_or_not : (store new : Store) (holder : ℕ) (deadline : Option ℕ) (n : ℕ) → HasApplied store new holder deadline → ApplyIsRefused store holder n → ⊥
applied_or_not store new holder deadline n h (inl k) = true_or_false (has_staged holder (staged_in store)) h.leads.written.some k.0
applied_or_not store new holder deadline n h (inr (inl k)) =
    let u = k.1 in
    let small : HasSmallView store holder u.file = small_there store holder h.leads.new u.file h.leads.written.each (h.leads.written.all u.file u.low u.number u.some) in
    reads_or_not store holder u.file u.file small.view k.0 refl small.seen u.fault
applied_or_not store new holder deadline n h (inr (inr k)) =
    let l = k.1.first in
    let small : HasSmallView store holder l.file = small_there store holder h.leads.new l.file h.leads.written.each (h.leads.written.all l.file l.low l.number l.some) in
    fits_or_not store holder l.file l.file k.0 small.view refl small.seen small.fits l.large

unread_or_read : (store : Store) (holder bytes : ℕ) (error : TreeError) → IsFirstUnread store holder error → AreReadAndLarge store holder bytes → ⊥
unread_or_read store holder bytes error u r =
    let v = r.read u.file u.low u.number u.some in
    reads_or_not store holder u.file u.file v.0 error refl v.1 u.fault

apply_status : (store : Store) (holder : ℕ) (n m : ℕ) → ApplyIsRefused store holder n → ApplyIsRefused store holder m → m ≡ n
apply_status store holder n m (inl h) (inl k) = k.1 ∙ sym h.1
apply_status store holder n m (inl h) (inr (inl k)) = absurd (true_or_false (has_staged holder (staged_in store)) (some_staged holder k.1.file (staged_in store) k.1.some) h.0)
apply_status store holder n m (inl h) (inr (inr k)) = absurd (true_or_false (has_staged holder (staged_in store)) (some_staged holder k.1.first.file (staged_in store) k.1.first.some) h.0)
apply_status store holder n m (inr (inl h)) (inl k) = absurd (true_or_false (has_staged holder (staged_in store)) (some_staged holder h.1.file (staged_in store) h.1.some) k.0)
apply_status store holder n m (inr (inr h)) (inl k) = absurd (true_or_false (has_staged holder (staged_in store)) (some_staged holder h.1.first.file (staged_in store) h.1.first.some) k.0)
apply_status store holder n m (inr (inl h)) (inr (inl k)) = k.2 ∙ sym h.2
apply_status store holder n m (inr (inl h)) (inr (inr k)) = absurd (unread_or_read store holder k.0 h.0 h.1 k.1)
apply_status store holder n m (inr (inr h)) (inr (inl k)) = absurd (unread_or_read store holder h.0 k.0 k.1 h.1)
apply_status store holder n m (inr (inr h)) (inr (inr k)) = k.2 ∙ sym h.2

applied_once : (holder : ℕ) (old one other : Store) (deadline : Option ℕ) → AreOne (λ r. ApplyDone holder old one r deadline) (λ r. ApplyDone holder old other r deadline)
applied_once holder old one other deadline = record {
  replies = λ a b h k. k.0 ∙ sym h.0;
  first = λ a n h k. applied_or_not old one holder deadline n h.1 k.0;
  second = λ n b h k. applied_or_not old other holder deadline n k.1 h.0;
  statuses = λ n m h k. apply_status old holder n m h.0 k.0;
  grants = λ grant h. h;
  others = λ grant h. h;
}

-- ---- `confirm`, `rollback`

waits_or_not : (holder : ℕ) (pending : Option Pending) → WaitsFor holder pending → pending ≡ None → ⊥
waits_or_not holder None h e = h
waits_or_not holder (Some pending) h e = let f : ◌≡◌ {A = Option Pending} (Some pending) None = e in cc

ended_once : (told : Reply) (To : State → Type 0) (old one other : Store) → ((after : State) → To after → pending_of (files_of old).waits ≡ None → ⊥) → AreOne (EndDone told To old one) (EndDone told To old other)
ended_once told To old one other apart = record {
  replies = λ a b h k. k.0 ∙ sym h.0;
  first = λ a n h k. apart (files_of one) h.1.files k.0;
  second = λ n b h k. apart (files_of other) k.1.files h.0;
  statuses = λ n m h k. k.1 ∙ sym h.1;
  grants = λ grant h. h;
  others = λ grant h. h;
}

-- ---- all

config_once : (config : Option (List ℕ)) (old one other : Store) (D E : Result Reply RpcError → List ℕ → Type 0) → ((name : List ℕ) → AreOne (λ r. D r name) (λ r. E r name)) → (result again : Result Reply RpcError)
    → WithConfig config old one result (D result) → WithConfig config old other again (E again) → IsGiven result → IsGiven again → again ≡ result
config_once None old one other D E each result again h k g f = same_refusal (Status bad_argument) old one other result again h k g f
config_once (Some name) old one other D E each result again h k g f = once (λ r. D r name) (λ r. E r name) (each name) result again h k g f

deadline_once : (deadline : Result (Option ℕ) ℕ) (old one other : Store) (D E : Result Reply RpcError → Option ℕ → Type 0) → ((d : Option ℕ) → AreOne (λ r. D r d) (λ r. E r d)) → (result again : Result Reply RpcError)
    → WithDeadline deadline old one result (D result) → WithDeadline deadline old other again (E again) → IsGiven result → IsGiven again → again ≡ result
deadline_once (Err status) old one other D E each result again h k g f = same_refusal (Status status) old one other result again h k g f
deadline_once (Ok d) old one other D E each result again h k g f = once (λ r. D r d) (λ r. E r d) (each d) result again h k g f

method_once : (method : Method) (call : Call) (old one other : Store) (result again : Result Reply RpcError) → MethodDone method call old one result → MethodDone method call old other again → IsGiven result → IsGiven again → again ≡ result
method_once (Ask question) call old one other result again h k g f = once (AskAnswers question old call) (AskAnswers question old call) (asked_once question old call) result again h.answers k.answers g f
method_once (Stage edit) call old one other result again h k g f =
    once (EditDone edit (holder_of call.caller) call.args old one) (EditDone edit (holder_of call.caller) call.args old other) (staged_once edit (holder_of call.caller) call.args old one other) result again h k g f
method_once Revert call old one other result again h k g f =
    config_once (config_in call.args) old one other (RevertDone (holder_of call.caller) old one) (RevertDone (holder_of call.caller) old other) (reverted_once (holder_of call.caller) old one other) result again h k g f
method_once Commit call old one other result again h k g f =
    config_once (config_in call.args) old one other (CommitDone (holder_of call.caller) old one) (CommitDone (holder_of call.caller) old other) (committed_once (holder_of call.caller) old one other) result again h k g f
method_once Apply call old one other result again h k g f =
    deadline_once (apply_deadline call.args call.now) old one other (ApplyDone (holder_of call.caller) old one) (ApplyDone (holder_of call.caller) old other) (applied_once (holder_of call.caller) old one other) result again h k g f
method_once Confirm call old one other result again h k g f =
    once (EndDone (quiet []) (ConfirmsTo old (holder_of call.caller)) old one) (EndDone (quiet []) (ConfirmsTo old (holder_of call.caller)) old other)
    (ended_once (quiet []) (ConfirmsTo old (holder_of call.caller)) old one other (λ after to. waits_or_not (holder_of call.caller) (pending_of (files_of old).waits) to.waits.waits)) result again h k g f
method_once Rollback call old one other result again h k g f =
    once (EndDone reloading (RollsBackTo old (holder_of call.caller)) old one) (EndDone reloading (RollsBackTo old (holder_of call.caller)) old other)
    (ended_once reloading (RollsBackTo old (holder_of call.caller)) old one other (λ after to. waits_or_not (holder_of call.caller) (pending_of (files_of old).waits) to.waits.waits)) result again h k g f

granted_once : (found : Option Grant) (method : Method) (call : Call) (old one other : Store) (result again : Result Reply RpcError) → GrantedDone found method call old one result → GrantedDone found method call old other again
    → IsGiven result → IsGiven again → again ≡ result
granted_once (Some grant) method call old one other result again h k g f = same_refusal (Denied grant) old one other result again h k g f
granted_once None method call old one other result again h k g f = method_once method call old one other result again h k g f

pub memory_given : (result : Result Reply RpcError) → IsGiven result → IsRefusal Memory result → ⊥
memory_given result g h = subst IsGiven (refused_so Memory result g h) g

admitted_once : (admitted : Bool) (method : Method) (call : Call) (old one other : Store) (result again : Result Reply RpcError) → AdmittedDone admitted method call old one result → AdmittedDone admitted method call old other again
    → IsGiven result → IsGiven again → again ≡ result
admitted_once false method call old one other result again h k g f = same_refusal (Status not_found) old one other result again h k g f
admitted_once true method call old one other result again (inl h) k g f = absurd (memory_given result g h.answer)
admitted_once true method call old one other result again (inr h) (inl k) g f = absurd (memory_given again f k.answer)
admitted_once true method call old one other result again (inr h) (inr k) g f = granted_once (missing method call old) method call old one other result again h k g f

call_once : (method : Option Method) (admitted : Bool) (call : Call) (old one other : Store) (result again : Result Reply RpcError) → CallDone method admitted call old one result → CallDone method admitted call old other again
    → IsGiven result → IsGiven again → again ≡ result
call_once None admitted call old one other result again h k g f = same_refusal (Status no_method) old one other result again h k g f
call_once (Some method) admitted call old one other result again h k g f = admitted_once admitted method call old one other result again h k g f

pub answers_are_one : (list : SessionList) (name : List ℕ) (args : List Attr) (now : ℕ) (store one other : Store) (result again : Result Reply RpcError) → Answers list name args now store one result
    → Answers list name args now store other again → IsGiven result → IsGiven again → again ≡ result
answers_are_one list name args now store one other result again h k g f = call_once (method_of name) (is_admitted (caller_in args) now list) (call_of list args now) store one other result again h k g f
