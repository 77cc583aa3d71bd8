-- Why staged changes are not written, and an apply does not end.
use Rattle.std.proofs.Common.{ℕ, ◌≡◌, ◌⊎◌, inl, inr, List, Option, Some, None, Result, Ok, Err, Bool, true, false, refl, sym, ap, subst, ◌∙◌}
use Rattle.std.specs.Option.{option_map}
use Rattle.plane_words.specs.Causes.{Rose}
use Rattle.plane_disk.specs.View.{View}
use Rattle.snap_disk.specs.declared.new_file.Pending.{Pending}
use Rattle.snap_disk.specs.declared.snap_error.SnapError.TheVariants.{DiskFailed, Waiting, NothingWaits, BadSnapshot, Reopen, Limit, Memory as SnapMemory}
use Rattle.snap_disk.specs.Opened.{State, Waits}
use Rattle.snap_disk.specs.Open.{pending_of}
use Rattle.snap_disk.specs.Refusals.{WaitsUntil}
use Rattle.uci_store.specs.declared.store.Store.{Store}
use Rattle.uci_store.specs.declared.store_error.StoreError.{StoreError}
use Rattle.uci_store.specs.declared.store_error.StoreError.TheVariants.{Snap, NoPackage, Parse, Delta as NotTaken, TooLarge, NotHolder, NothingStaged, Memory as StoreMemory}
use Rattle.uci_store.specs.Store.{files_of, has_failed}
use Rattle.uci_store.specs.Refusals.{RevertRefuses}
use Rattle.uci_store.specs.Staging.{IsWhole}
use Rattle.uci_store.specs.Stops.{IsLeft, UnlessFailed as StoreUnlessFailed}
use Rattle.uci_store.specs.Committing.{CommitsTo, CommitStops, CommitRefuses, OfStaged, DiskRose}
use Rattle.uci_store.specs.Applying.{AppliesTo, ApplyStops, ApplyRefuses}
use Rattle.uci_store.specs.Waiting.{WaitsFor, EndStops, EndRefuses}
use Rattle.rpc_rules.specs.declared.rpc_error.RpcError.{RpcError}
use Rattle.rpc_rules.specs.declared.rpc_error.RpcError.TheVariants.{Status, Denied, DiskFailed as DiskError, Memory as NoMemory}
use Rattle.rpc_rules.specs.Status.{bad_argument, IsStatusOf}
use Rattle.rpc_uci.specs.declared.reply.Reply.{Reply}
use Rattle.rpc_uci.specs.Call.{waiting_in}
use Rattle.rpc_uci.specs.Done.{Rests, WithConfig, WithDeadline, LeavesEither, RevertDone, CommitDone, ApplyDone, EndDone}
use Rattle.rpc_uci.specs.Staging.{HasCause}
use Rattle.rpc_uci.specs.Ending.{IsOwn, HasDiskCause, UnlessFailed}
use Rattle.rpc_uci.specs.Refused.{store_told}

ready_not_failed : (failed : Bool) → failed ≡ false → failed ≡ true → ⊥
ready_not_failed failed ready h = let e : true ≡ false = sym h ∙ ready in cc

rests_unless_failed : {U : Type 0} (old new : Store) (To : State → Type 0) (error : StoreError) → (error ≡ Snap DiskFailed → ⊥) → IsLeft old new To U error → Rests old new
rests_unless_failed {U} old new To error other left = record { files = by left.files; staged = left.staged }
  where
    by : ((files_of new ≡ files_of old) × U) ⊎ ((error ≡ Snap DiskFailed) × To (files_of new)) → files_of new ≡ files_of old
    by (inl h) = h.0
    by (inr h) = absurd (other h.0)

either_left : {U : Type 0} (old new : Store) (To : State → Type 0) (error : StoreError) → IsLeft old new To U error → LeavesEither old new To
either_left {U} old new To error left = record { staged = left.staged; files = by left.files }
  where
    by : ((files_of new ≡ files_of old) × U) ⊎ ((error ≡ Snap DiskFailed) × To (files_of new)) → (files_of new ≡ files_of old) ⊎ To (files_of new)
    by (inl h) = inl h.0
    by (inr h) = inr h.1

not_waiting : (waits : Option Waits) (deadline : ℕ) → option_map (λ (p : Pending). p.holder) (pending_of waits) ≡ None → WaitsUntil deadline waits → ⊥
not_waiting None deadline none h = h
not_waiting (Some waits) deadline none h = let e : ◌≡◌ {A = Option ℕ} (Some waits.pending.holder) None = none in cc

-- what holds behind a refusal of the store holds behind the refusal that is told
pub told_unless_failed : {P : Type 0} (error : StoreError) (told : RpcError) → told ≡ store_told error → StoreUnlessFailed P error → UnlessFailed P told
told_unless_failed {P} error told e h other = h (λ (s : error ≡ Snap DiskFailed). other (e ∙ ap store_told s))

-- ---- `revert`

pub revert_refused : (old new : Store) (holder : ℕ) (name : List ℕ) (failed : Bool) (before after : View) (error : StoreError) → has_failed old ≡ false → Rests old new → IsWhole {X = Unit {0}} (Err error) (has_failed old) failed
    → RevertRefuses old holder name before after error
    → RevertDone holder old new (Err (store_told error)) name × HasCause {X = Reply} (Err (store_told error)) failed before after
revert_refused old new holder name failed before after (Snap DiskFailed) ready rests whole h = (rests, (whole, h.3))
revert_refused old new holder name failed before after (Snap Reopen) ready rests whole h = absurd (ready_not_failed (has_failed old) ready h)
revert_refused old new holder name failed before after (Snap (Waiting deadline)) ready rests whole h = absurd h
revert_refused old new holder name failed before after (Snap NothingWaits) ready rests whole h = absurd h
revert_refused old new holder name failed before after (Snap (BadSnapshot byte)) ready rests whole h = absurd h
revert_refused old new holder name failed before after (Snap (Limit number)) ready rests whole h = absurd h
revert_refused old new holder name failed before after (Snap SnapMemory) ready rests whole h = absurd h
revert_refused old new holder name failed before after NoPackage ready rests whole h = ((h.1, refl, rests), whole ∙ ready)
revert_refused old new holder name failed before after (Parse error) ready rests whole h = absurd h
revert_refused old new holder name failed before after (NotTaken error) ready rests whole h = absurd h
revert_refused old new holder name failed before after (TooLarge bytes) ready rests whole h = absurd h
revert_refused old new holder name failed before after (NotHolder other) ready rests whole h = absurd h
revert_refused old new holder name failed before after NothingStaged ready rests whole h = absurd h
revert_refused old new holder name failed before after StoreMemory ready rests whole h = (rests, whole ∙ ready)

-- ---- `commit`

because : {store : Store} {holder : ℕ} {name : List ℕ} {P Q : ℕ → Type 0} → OfStaged store holder name P → ((file : ℕ) → P file → Q file) → OfStaged store holder name Q
because h step = record { free = h.free; file = h.file; number = h.number; some = h.some; because = step h.file h.because }

rose_of : (holder : ℕ) (files_old files_new staged_old staged_new : View) → DiskRose holder files_old files_new staged_old staged_new → Rose files_old.faults files_new.faults ⊎ Rose staged_old.faults staged_new.faults
rose_of holder files_old files_new staged_old staged_new (inl h) = inl h
rose_of holder files_old files_new staged_old staged_new (inr h) = inr h.1

commit_stopped : {U : Type 0} (old new : Store) (holder : ℕ) (name : List ℕ) (failed : Bool) (files_old files_new staged_old staged_new : View) (error : StoreError) → has_failed old ≡ false → waiting_in old ≡ None
    → IsLeft old new (CommitsTo old holder name) U error → IsWhole {X = Unit {0}} (Err error) (has_failed old) failed
    → CommitStops old holder name error → CommitDone holder old new (Err (store_told error)) name × HasDiskCause {X = Reply} (Err (store_told error)) failed files_old files_new staged_old staged_new
commit_stopped old new holder name failed files_old files_new staged_old staged_new (Snap DiskFailed) ready free left whole h = absurd h
commit_stopped old new holder name failed files_old files_new staged_old staged_new (Snap Reopen) ready free left whole h = absurd (ready_not_failed (has_failed old) ready h)
commit_stopped old new holder name failed files_old files_new staged_old staged_new (Snap (Waiting deadline)) ready free left whole h = absurd (not_waiting (files_of old).waits deadline free h.waits.1)
commit_stopped old new holder name failed files_old files_new staged_old staged_new (Snap NothingWaits) ready free left whole h = absurd h
commit_stopped old new holder name failed files_old files_new staged_old staged_new (Snap (BadSnapshot byte)) ready free left whole h = absurd h
commit_stopped old new holder name failed files_old files_new staged_old staged_new (Snap (Limit number)) ready free left whole h = absurd h
commit_stopped old new holder name failed files_old files_new staged_old staged_new (Snap SnapMemory) ready free left whole h = absurd h
commit_stopped old new holder name failed files_old files_new staged_old staged_new NoPackage ready free left whole h = ((inl (h.1, refl), rests_unless_failed old new (CommitsTo old holder name) NoPackage (λ e. cc) left), whole ∙ ready)
commit_stopped old new holder name failed files_old files_new staged_old staged_new (Parse error) ready free left whole h =
    ((inr (inl (because h (λ file lacks. (error, lacks)), refl)), rests_unless_failed old new (CommitsTo old holder name) (Parse error) (λ e. cc) left), whole ∙ ready)
commit_stopped old new holder name failed files_old files_new staged_old staged_new (NotTaken error) ready free left whole h = absurd h
commit_stopped old new holder name failed files_old files_new staged_old staged_new (TooLarge bytes) ready free left whole h =
    ((inr (inr (because h (λ file large. (bytes, large)), refl)), rests_unless_failed old new (CommitsTo old holder name) (TooLarge bytes) (λ e. cc) left), whole ∙ ready)
commit_stopped old new holder name failed files_old files_new staged_old staged_new (NotHolder other) ready free left whole h = absurd h
commit_stopped old new holder name failed files_old files_new staged_old staged_new NothingStaged ready free left whole h = absurd h
commit_stopped old new holder name failed files_old files_new staged_old staged_new StoreMemory ready free left whole h = (rests_unless_failed old new (CommitsTo old holder name) StoreMemory (λ e. cc) left, whole ∙ ready)

pub commit_refused : {U : Type 0} (old new : Store) (holder : ℕ) (name : List ℕ) (failed : Bool) (files_old files_new staged_old staged_new : View) (error : StoreError) → has_failed old ≡ false → waiting_in old ≡ None
    → IsLeft old new (CommitsTo old holder name) U error → IsWhole {X = Unit {0}} (Err error) (has_failed old) failed
    → CommitRefuses old holder name files_old files_new staged_old staged_new error → CommitDone holder old new (Err (store_told error)) name
    × HasDiskCause {X = Reply} (Err (store_told error)) failed files_old files_new staged_old staged_new
commit_refused old new holder name failed files_old files_new staged_old staged_new error ready free left whole (inl h) = commit_stopped old new holder name failed files_old files_new staged_old staged_new error ready free left whole h
commit_refused old new holder name failed files_old files_new staged_old staged_new error ready free left whole (inr h) =
    let closed : failed ≡ true = subst (λ (e : StoreError). IsWhole {X = Unit {0}} (Err e) (has_failed old) failed) h.0 whole in
    subst (λ (e : StoreError). CommitDone holder old new (Err (store_told e)) name × HasDiskCause {X = Reply} (Err (store_told e)) failed files_old files_new staged_old staged_new) (sym h.0)
    (either_left old new (CommitsTo old holder name) error left, (closed, rose_of holder files_old files_new staged_old staged_new h.1.because))

-- ---- `apply`

apply_stopped : {U : Type 0} (old new : Store) (holder : ℕ) (deadline : Option ℕ) (failed : Bool) (files_old files_new staged_old staged_new : View) (error : StoreError) → has_failed old ≡ false → waiting_in old ≡ None
    → IsLeft old new (AppliesTo old holder deadline) U error → IsWhole {X = Unit {0}} (Err error) (has_failed old) failed
    → ApplyStops old holder error → ApplyDone holder old new (Err (store_told error)) deadline × HasDiskCause {X = Reply} (Err (store_told error)) failed files_old files_new staged_old staged_new
apply_stopped old new holder deadline failed files_old files_new staged_old staged_new (Snap DiskFailed) ready free left whole h = absurd h
apply_stopped old new holder deadline failed files_old files_new staged_old staged_new (Snap Reopen) ready free left whole h = absurd (ready_not_failed (has_failed old) ready h)
apply_stopped old new holder deadline failed files_old files_new staged_old staged_new (Snap (Waiting moment)) ready free left whole h = absurd (not_waiting (files_of old).waits moment free h.1)
apply_stopped old new holder deadline failed files_old files_new staged_old staged_new (Snap NothingWaits) ready free left whole h = absurd h
apply_stopped old new holder deadline failed files_old files_new staged_old staged_new (Snap (BadSnapshot byte)) ready free left whole h = absurd h
apply_stopped old new holder deadline failed files_old files_new staged_old staged_new (Snap (Limit number)) ready free left whole h = absurd h
apply_stopped old new holder deadline failed files_old files_new staged_old staged_new (Snap SnapMemory) ready free left whole h = absurd h
apply_stopped old new holder deadline failed files_old files_new staged_old staged_new NoPackage ready free left whole h = absurd h
apply_stopped old new holder deadline failed files_old files_new staged_old staged_new (Parse error) ready free left whole h =
    ((inr (inl (error, h.1, refl)), rests_unless_failed old new (AppliesTo old holder deadline) (Parse error) (λ e. cc) left), whole ∙ ready)
apply_stopped old new holder deadline failed files_old files_new staged_old staged_new (NotTaken error) ready free left whole h = absurd h
apply_stopped old new holder deadline failed files_old files_new staged_old staged_new (TooLarge bytes) ready free left whole h =
    ((inr (inr (bytes, h.1, refl)), rests_unless_failed old new (AppliesTo old holder deadline) (TooLarge bytes) (λ e. cc) left), whole ∙ ready)
apply_stopped old new holder deadline failed files_old files_new staged_old staged_new (NotHolder other) ready free left whole h = absurd h
apply_stopped old new holder deadline failed files_old files_new staged_old staged_new NothingStaged ready free left whole h =
    ((inl (h.1, refl), rests_unless_failed old new (AppliesTo old holder deadline) NothingStaged (λ e. cc) left), whole ∙ ready)
apply_stopped old new holder deadline failed files_old files_new staged_old staged_new StoreMemory ready free left whole h = (rests_unless_failed old new (AppliesTo old holder deadline) StoreMemory (λ e. cc) left, whole ∙ ready)

pub apply_refused : {U : Type 0} (old new : Store) (holder : ℕ) (deadline : Option ℕ) (failed : Bool) (files_old files_new staged_old staged_new : View) (error : StoreError) → has_failed old ≡ false → waiting_in old ≡ None
    → IsLeft old new (AppliesTo old holder deadline) U error → IsWhole {X = Unit {0}} (Err error) (has_failed old) failed
    → ApplyRefuses old holder files_old files_new staged_old staged_new error → ApplyDone holder old new (Err (store_told error)) deadline × HasDiskCause {X = Reply} (Err (store_told error)) failed files_old files_new staged_old staged_new
apply_refused old new holder deadline failed files_old files_new staged_old staged_new error ready free left whole (inl h) =
    apply_stopped old new holder deadline failed files_old files_new staged_old staged_new error ready free left whole h
apply_refused old new holder deadline failed files_old files_new staged_old staged_new error ready free left whole (inr h) =
    let closed : failed ≡ true = subst (λ (e : StoreError). IsWhole {X = Unit {0}} (Err e) (has_failed old) failed) h.0 whole in
    subst (λ (e : StoreError). ApplyDone holder old new (Err (store_told e)) deadline × HasDiskCause {X = Reply} (Err (store_told e)) failed files_old files_new staged_old staged_new) (sym h.0)
    (either_left old new (AppliesTo old holder deadline) error left, (closed, rose_of holder files_old files_new staged_old staged_new h.3))

-- ---- `confirm`, `rollback`

own_waits : (holder other : ℕ) (pending : Option Pending) → IsOwn holder (option_map (λ (p : Pending). p.holder) pending) → (other ≡ holder → ⊥) → WaitsFor other pending → ⊥
own_waits holder other None own apart h = h
own_waits holder other (Some pending) own apart h = apart (sym h ∙ own)

end_stopped : (told : Reply) (To : State → Type 0) (old new : Store) (holder : ℕ) (failed : Bool) (before after : View) (error : StoreError) → has_failed old ≡ false → IsOwn holder (waiting_in old) → Rests old new
    → IsWhole {X = Unit {0}} (Err error) (has_failed old) failed
    → EndStops old holder error → EndDone told To old new (Err (store_told error)) × HasCause {X = Reply} (Err (store_told error)) failed before after
end_stopped told To old new holder failed before after (Snap DiskFailed) ready own rests whole h = absurd h
end_stopped told To old new holder failed before after (Snap Reopen) ready own rests whole h = absurd (ready_not_failed (has_failed old) ready h)
end_stopped told To old new holder failed before after (Snap (Waiting deadline)) ready own rests whole h = absurd h
end_stopped told To old new holder failed before after (Snap NothingWaits) ready own rests whole h = ((h.1, refl, rests), whole ∙ ready)
end_stopped told To old new holder failed before after (Snap (BadSnapshot byte)) ready own rests whole h = absurd h
end_stopped told To old new holder failed before after (Snap (Limit number)) ready own rests whole h = absurd h
end_stopped told To old new holder failed before after (Snap SnapMemory) ready own rests whole h = absurd h
end_stopped told To old new holder failed before after NoPackage ready own rests whole h = absurd h
end_stopped told To old new holder failed before after (Parse error) ready own rests whole h = absurd h
end_stopped told To old new holder failed before after (NotTaken error) ready own rests whole h = absurd h
end_stopped told To old new holder failed before after (TooLarge bytes) ready own rests whole h = absurd h
end_stopped told To old new holder failed before after (NotHolder other) ready own rests whole h = absurd (own_waits holder other (pending_of (files_of old).waits) own h.1 h.2)
end_stopped told To old new holder failed before after NothingStaged ready own rests whole h = absurd h
end_stopped told To old new holder failed before after StoreMemory ready own rests whole h = absurd h

pub end_refused : (told : Reply) (To : State → Type 0) (old new : Store) (holder : ℕ) (failed : Bool) (before after : View) (error : StoreError) → has_failed old ≡ false → IsOwn holder (waiting_in old) → Rests old new
    → IsWhole {X = Unit {0}} (Err error) (has_failed old) failed
    → EndRefuses old holder before after error → EndDone told To old new (Err (store_told error)) × HasCause {X = Reply} (Err (store_told error)) failed before after
end_refused told To old new holder failed before after error ready own rests whole (inl h) = end_stopped told To old new holder failed before after error ready own rests whole h
end_refused told To old new holder failed before after error ready own rests whole (inr h) =
    let closed : failed ≡ true = subst (λ (e : StoreError). IsWhole {X = Unit {0}} (Err e) (has_failed old) failed) h.0 whole in
    subst (λ (e : StoreError). EndDone told To old new (Err (store_told e)) × HasCause {X = Reply} (Err (store_told e)) failed before after) (sym h.0) (rests, (closed, h.2))

-- ---- the package that is named

pub with_config : (config : Option (List ℕ)) (name : List ℕ) (old new : Store) (result : Result Reply RpcError) (Done : List ℕ → Type 0) → config ≡ Some name → Done name → WithConfig config old new result Done
with_config config name old new result Done e h = subst (λ (z : Option (List ℕ)). WithConfig z old new result Done) (sym e) h

pub without_config : (config : Option (List ℕ)) (store : Store) (Done : List ℕ → Type 0) → config ≡ None → WithConfig config store store (Err (Status bad_argument)) Done
without_config config store Done e =
    subst (λ (z : Option (List ℕ)). WithConfig z store store (Err (Status bad_argument)) Done) (sym e)
    (record { answer = inl refl; rests = record { files = refl; staged = refl } })

pub with_deadline : (found : Result (Option ℕ) ℕ) (deadline : Option ℕ) (old new : Store) (result : Result Reply RpcError) (Done : Option ℕ → Type 0) → found ≡ Ok deadline → Done deadline → WithDeadline found old new result Done
with_deadline found deadline old new result Done e h = subst (λ (z : Result (Option ℕ) ℕ). WithDeadline z old new result Done) (sym e) h

err_is : (n m : ℕ) → ◌≡◌ {A = Result (Option ℕ) ℕ} (Err n) (Err m) → m ≡ n
err_is n m e = cc

ok_or_not : (d : Option ℕ) (n : ℕ) → ◌≡◌ {A = Result (Option ℕ) ℕ} (Ok d) (Err n) → ⊥
ok_or_not d n e = cc

-- an apply whose arguments are not of their form
pub without_deadline : (found : Result (Option ℕ) ℕ) (store : Store) (holder : ℕ) (error : RpcError) → IsStatusOf found error → WithDeadline found store store (Err error) (ApplyDone holder store store (Err error))
without_deadline (Ok d) store holder (Status n) h = absurd (ok_or_not d n h)
without_deadline (Ok d) store holder (Denied grant) h = absurd h
without_deadline (Ok d) store holder DiskError h = absurd h
without_deadline (Ok d) store holder NoMemory h = record { files = refl; staged = refl }
without_deadline (Err m) store holder (Status n) h = record { answer = inl (ap (λ (z : ℕ). Status z) (err_is m n h)); rests = record { files = refl; staged = refl } }
without_deadline (Err m) store holder (Denied grant) h = absurd h
without_deadline (Err m) store holder DiskError h = absurd h
without_deadline (Err m) store holder NoMemory h = record { answer = inr refl; rests = record { files = refl; staged = refl } }

pub no_disk_failed : {X : Type 0} (found : Result X ℕ) (failed : Bool) (files_old files_new staged_old staged_new : View) (error : RpcError) → IsStatusOf found error → failed ≡ false
    → HasDiskCause {X = Reply} (Err error) failed files_old files_new staged_old staged_new
no_disk_failed found failed files_old files_new staged_old staged_new (Status n) h ready = ready
no_disk_failed found failed files_old files_new staged_old staged_new (Denied grant) h ready = absurd h
no_disk_failed found failed files_old files_new staged_old staged_new DiskError h ready = absurd h
no_disk_failed found failed files_old files_new staged_old staged_new NoMemory h ready = ready

pub ruleset applying = (apply_refused, told_unless_failed, with_deadline, without_deadline, no_disk_failed)

pub ruleset committing = (commit_refused, told_unless_failed, with_config, without_config)

pub ruleset reverting = (revert_refused, told_unless_failed, with_config, without_config)
