-- Changes that are staged, and those that are dropped.
use Rattle.std.proofs.Common.{ℕ, ◌≡◌, ◌≢◌, Bool, true, false, List, [], ◌∷◌, ◌++◌, Option, Some, None, Result, Ok, Err, refl, ap, sym, subst, ◌∙◌, arith}
use Rattle.plane_words.specs.Causes.{Rose}
use Rattle.plane_disk.specs.View.{View}
use Rattle.snap_disk.specs.declared.snap.Snap.{Snap}
use Rattle.snap_disk.specs.declared.snap_error.SnapError.TheVariants as snap_error
use Rattle.snap_disk.specs.Opened.{State}
use Rattle.snap_disk.specs.Open.{state_of}
use Rattle.uci_tree.specs.declared.fault.Fault.{Fault}
use Rattle.uci_tree.specs.declared.package.Package.{Package}
use Rattle.uci_tree.specs.declared.path.Path.{Path}
use Rattle.uci_tree.specs.Fault.{fault_of}
use Rattle.uci_delta.specs.declared.delta.Delta.{Delta}
use Rattle.uci_delta.specs.declared.delta_error.DeltaError.{DeltaError}
use Rattle.uci_delta.specs.declared.delta_error.DeltaError.TheVariants as delta_error
use Rattle.uci_delta.specs.Applied.{applied}
use Rattle.uci_staged.specs.declared.change.StagedChange.{StagedChange}
use Rattle.uci_staged.specs.Change.{reverted}
use Rattle.uci_staged.specs.Kept.{Follows}
use Rattle.uci_store.specs.declared.store.Store.{Store}
use Rattle.uci_store.specs.declared.store_error.StoreError.{StoreError}
use Rattle.uci_store.specs.declared.store_error.StoreError.TheVariants as store_error
use Rattle.uci_store.specs.Store.{names_of, snap_of, staged_in, has_failed, IsOnStaged}
use Rattle.uci_store.specs.Refusals.{DoesNotTake, StageRefuses, RevertRefuses}
use Rattle.uci_store.specs.Staging.{HasStaged, HasReverted, IsWhole}
use Rattle.uci_cli.specs.declared.refusal.Refusal.{Refusal}
use Rattle.uci_tool.specs.declared.stop.Stop.{Stop}
use Rattle.uci_tool.specs.declared.stop.Stop.TheVariants as stop
use Rattle.uci_tool.specs.Folder.{Folder, folder_of}
use Rattle.uci_tool.specs.Seen.{if_ok, seen_at, refusal_of}
use Rattle.uci_tool.specs.Staging.{taken, with_change, staged_at, staged_with, reverted_at, revert_path}
use Rattle.uci_tool.specs.Answers.{stop_of, stop_of_fault, stop_of_delta, Answers, Changes, Closes, Stages, IsReady}
use Rattle.uci_tool.proofs.SeenLemmas.{at_file, no_file, seen_there, unread_there}

folder_from : List (List ℕ) → State → List StagedChange → Folder
folder_from names files staged = record { names = names; files = files; staged = staged }

-- a store whose packages and files stayed
pub same_folder : (old new : Store) (staged : List StagedChange) → names_of new ≡ names_of old → snap_of new ≡ snap_of old → staged_in new ≡ staged → folder_of new ≡ record (folder_of old) { staged = staged }
unfolding folder_from
same_folder old new staged names snap rows =
    ap (λ (z : List (List ℕ)). folder_from z (state_of (snap_of new)) (staged_in new)) names
    ∙ ap (λ (z : Snap). folder_from (names_of old) (state_of z) (staged_in new)) snap
    ∙ ap (λ (z : List StagedChange). folder_from (names_of old) (state_of (snap_of old)) z) rows

pub kept_folder : (old new : Store) → names_of new ≡ names_of old → snap_of new ≡ snap_of old → staged_in new ≡ staged_in old → folder_of new ≡ folder_of old
kept_folder old new names snap rows = same_folder old new (staged_in old) names snap rows

-- ---- staging

staged_there : (old : Store) (delta : Delta) (file : ℕ) (view tree : Package) → seen_at (folder_of old) file ≡ Ok view → applied view delta ≡ Ok tree → staged_at (folder_of old) delta file ≡ Ok (with_change (folder_of old) file delta)
staged_there old delta file view tree seen takes =
    ap (λ (z : Result Package Refusal). if_ok z (λ found. if_ok (taken (applied found delta)) (λ other. Ok (with_change (folder_of old) file delta)))) seen
    ∙ ap (λ (z : Result Package DeltaError). if_ok (taken z) (λ other. Ok (with_change (folder_of old) file delta))) takes

pub staged_is : (old new : Store) (delta : Delta) → HasStaged old new 0 delta → names_of new ≡ names_of old → snap_of new ≡ snap_of old → staged_with (folder_of old) delta ≡ Ok (folder_of new)
staged_is old new delta h names snap =
    let now : with_change (folder_of old) h.file delta ≡ folder_of new = sym (same_folder old new (staged_in old ++ record { holder = 0; file = h.file; delta = delta } ∷ []) names snap h.staged) in
    at_file (folder_of old) delta.«package» h.file (staged_at (folder_of old) delta) h.number
    ∙ staged_there old delta h.file h.view h.taken (seen_there old h.file h.view h.seen) h.takes
    ∙ ap (λ (z : Folder). Ok z) now

refused_there : (old : Store) (delta : Delta) (file : ℕ) (view : Package) (error : DeltaError) → seen_at (folder_of old) file ≡ Ok view → applied view delta ≡ Err error → staged_at (folder_of old) delta file
    ≡ if_ok (taken {A = Package} (Err error)) (λ other. Ok (with_change (folder_of old) file delta))
refused_there old delta file view error seen refused =
    ap (λ (z : Result Package Refusal). if_ok z (λ found. if_ok (taken (applied found delta)) (λ other. Ok (with_change (folder_of old) file delta)))) seen
    ∙ ap (λ (z : Result Package DeltaError). if_ok (taken z) (λ other. Ok (with_change (folder_of old) file delta))) refused

pub by_fault : (fault : Option Fault) (old new : Folder) (expected : Result Folder Refusal) → new ≡ old → expected ≡ Err (refusal_of fault) → Changes {X = Unit {0}} (Err (stop_of_fault fault)) old new expected
by_fault None old new expected kept is = kept
by_fault (Some fault) old new expected kept is = (is, kept)

by_delta : (old : Store) (new : Folder) (delta : Delta) (error : DeltaError) → DoesNotTake old 0 delta error → new ≡ folder_of old → Changes {X = Unit {0}} (Err (stop_of_delta error)) (folder_of old) new (staged_with (folder_of old) delta)
by_delta old new delta error h kept = go error (at_file (folder_of old) delta.«package» h.seen.file (staged_at (folder_of old) delta) h.seen.number
    ∙ refused_there old delta h.seen.file h.view error (seen_there old h.seen.file h.view h.seen.seen) h.refused)
  where
    go : (e : DeltaError) → staged_with (folder_of old) delta ≡ if_ok (taken {A = Package} (Err e)) (λ other. Ok (with_change (folder_of old) h.seen.file delta))
        → Changes {X = Unit {0}} (Err (stop_of_delta e)) (folder_of old) new (staged_with (folder_of old) delta)
    go delta_error.NotFound is = (is, kept)
    go delta_error.Invalid is = (is, kept)
    go delta_error.Duplicate is = (is, kept)
    go delta_error.Memory is = kept

pub stage_refused : (old new : Store) (delta : Delta) (error : StoreError) (before after : View) → folder_of new ≡ folder_of old → StageRefuses old 0 delta before after error
    → Changes {X = Unit {0}} (Err (stop_of error)) (folder_of old) (folder_of new) (staged_with (folder_of old) delta)
stage_refused old new delta store_error.NoPackage before after kept h = (no_file (folder_of old) delta.«package» (staged_at (folder_of old) delta) h.1, kept)
stage_refused old new delta (store_error.Parse error) before after kept h =
    by_fault (fault_of error) (folder_of old) (folder_of new) (staged_with (folder_of old) delta) kept
    (at_file (folder_of old) delta.«package» h.1.file (staged_at (folder_of old) delta) h.1.number
    ∙ unread_there old h.1.file error (λ view. if_ok (taken (applied view delta)) (λ tree. Ok (with_change (folder_of old) h.1.file delta))) h.1.fault)
stage_refused old new delta (store_error.Delta error) before after kept h = by_delta old (folder_of new) delta error h.1 kept
stage_refused old new delta store_error.Memory before after kept h = kept
stage_refused old new delta (store_error.Snap snap_error.DiskFailed) before after kept h = tt
stage_refused old new delta (store_error.Snap snap_error.Reopen) before after kept h = tt
stage_refused old new delta (store_error.Snap (snap_error.Waiting deadline)) before after kept h = absurd h
stage_refused old new delta (store_error.Snap snap_error.NothingWaits) before after kept h = absurd h
stage_refused old new delta (store_error.Snap (snap_error.BadSnapshot byte)) before after kept h = absurd h
stage_refused old new delta (store_error.Snap (snap_error.Limit number)) before after kept h = absurd h
stage_refused old new delta (store_error.Snap snap_error.Memory) before after kept h = absurd h
stage_refused old new delta (store_error.TooLarge bytes) before after kept h = absurd h
stage_refused old new delta (store_error.NotHolder holder) before after kept h = absurd h
stage_refused old new delta store_error.NothingStaged before after kept h = absurd h

-- ---- reverting

pub reverted_is : (old new : Store) (path : Path) → HasReverted old new 0 path → names_of new ≡ names_of old → snap_of new ≡ snap_of old → revert_path (folder_of old) path ≡ Ok (folder_of new)
reverted_is old new path h names snap =
    at_file (folder_of old) path.«package» h.file (λ file. Ok (reverted_at (folder_of old) path file)) h.number
    ∙ ap (λ (z : Folder). Ok z) (sym (same_folder old new (reverted 0 h.file path (staged_in old)) names snap h.staged))

pub revert_refused : (old new : Store) (path : Path) (error : StoreError) (before after : View) → folder_of new ≡ folder_of old → RevertRefuses old 0 path.«package» before after error
    → Changes {X = Unit {0}} (Err (stop_of error)) (folder_of old) (folder_of new) (revert_path (folder_of old) path)
revert_refused old new path store_error.NoPackage before after kept h = (no_file (folder_of old) path.«package» (λ file. Ok (reverted_at (folder_of old) path file)) h.1, kept)
revert_refused old new path store_error.Memory before after kept h = kept
revert_refused old new path (store_error.Snap snap_error.DiskFailed) before after kept h = tt
revert_refused old new path (store_error.Snap snap_error.Reopen) before after kept h = tt
revert_refused old new path (store_error.Snap (snap_error.Waiting deadline)) before after kept h = absurd h
revert_refused old new path (store_error.Snap snap_error.NothingWaits) before after kept h = absurd h
revert_refused old new path (store_error.Snap (snap_error.BadSnapshot byte)) before after kept h = absurd h
revert_refused old new path (store_error.Snap (snap_error.Limit number)) before after kept h = absurd h
revert_refused old new path (store_error.Snap snap_error.Memory) before after kept h = absurd h
revert_refused old new path (store_error.Parse error) before after kept h = absurd h
revert_refused old new path (store_error.Delta error) before after kept h = absurd h
revert_refused old new path (store_error.TooLarge bytes) before after kept h = absurd h
revert_refused old new path (store_error.NotHolder holder) before after kept h = absurd h
revert_refused old new path store_error.NothingStaged before after kept h = absurd h

-- ---- a store that a disk closed

-- why a call is refused, as far as closing goes: for a cause, where a disk failed, and not for a store that is closed already
pub data IsOpenRefusal (Cause : Type 0) (error : StoreError) : Type 0 where
  failed : error ≡ store_error.Snap snap_error.DiskFailed → Cause → IsOpenRefusal Cause error
  other : stop_of error ≢ stop.DiskFailed → IsOpenRefusal Cause error

pub fault_is_no_disk : (fault : Option Fault) → stop_of_fault fault ≢ stop.DiskFailed
fault_is_no_disk None = λ e. cc
fault_is_no_disk (Some fault) = λ e. cc

delta_is_no_disk : (error : DeltaError) → stop_of_delta error ≢ stop.DiskFailed
delta_is_no_disk delta_error.NotFound = λ e. cc
delta_is_no_disk delta_error.Invalid = λ e. cc
delta_is_no_disk delta_error.Duplicate = λ e. cc
delta_is_no_disk delta_error.Memory = λ e. cc

pub never_both : (t : Bool) → t ≡ false → t ≡ true → ⊥
never_both t e f = let g : false ≡ true = sym e ∙ f in cc

pub stage_is_open : (old : Store) (delta : Delta) (error : StoreError) (before after : View) → has_failed old ≡ false → StageRefuses old 0 delta before after error → IsOpenRefusal (Rose before.faults after.faults) error
stage_is_open old delta store_error.NoPackage before after ready h = other (λ e. cc)
stage_is_open old delta (store_error.Parse error) before after ready h = other (fault_is_no_disk (fault_of error))
stage_is_open old delta (store_error.Delta error) before after ready h = other (delta_is_no_disk error)
stage_is_open old delta store_error.Memory before after ready h = other (λ e. cc)
stage_is_open old delta (store_error.Snap snap_error.DiskFailed) before after ready h = failed refl h.3
stage_is_open old delta (store_error.Snap snap_error.Reopen) before after ready h = absurd (never_both (has_failed old) ready h)
stage_is_open old delta (store_error.Snap (snap_error.Waiting deadline)) before after ready h = absurd h
stage_is_open old delta (store_error.Snap snap_error.NothingWaits) before after ready h = absurd h
stage_is_open old delta (store_error.Snap (snap_error.BadSnapshot byte)) before after ready h = absurd h
stage_is_open old delta (store_error.Snap (snap_error.Limit number)) before after ready h = absurd h
stage_is_open old delta (store_error.Snap snap_error.Memory) before after ready h = absurd h
stage_is_open old delta (store_error.TooLarge bytes) before after ready h = absurd h
stage_is_open old delta (store_error.NotHolder holder) before after ready h = absurd h
stage_is_open old delta store_error.NothingStaged before after ready h = absurd h

pub revert_is_open : (old : Store) (name : List ℕ) (error : StoreError) (before after : View) → has_failed old ≡ false → RevertRefuses old 0 name before after error → IsOpenRefusal (Rose before.faults after.faults) error
revert_is_open old name store_error.NoPackage before after ready h = other (λ e. cc)
revert_is_open old name store_error.Memory before after ready h = other (λ e. cc)
revert_is_open old name (store_error.Snap snap_error.DiskFailed) before after ready h = failed refl h.3
revert_is_open old name (store_error.Snap snap_error.Reopen) before after ready h = absurd (never_both (has_failed old) ready h)
revert_is_open old name (store_error.Snap (snap_error.Waiting deadline)) before after ready h = absurd h
revert_is_open old name (store_error.Snap snap_error.NothingWaits) before after ready h = absurd h
revert_is_open old name (store_error.Snap (snap_error.BadSnapshot byte)) before after ready h = absurd h
revert_is_open old name (store_error.Snap (snap_error.Limit number)) before after ready h = absurd h
revert_is_open old name (store_error.Snap snap_error.Memory) before after ready h = absurd h
revert_is_open old name (store_error.Parse error) before after ready h = absurd h
revert_is_open old name (store_error.Delta error) before after ready h = absurd h
revert_is_open old name (store_error.TooLarge bytes) before after ready h = absurd h
revert_is_open old name (store_error.NotHolder holder) before after ready h = absurd h
revert_is_open old name store_error.NothingStaged before after ready h = absurd h

by_stop : (s : Stop) (now : Bool) → s ≢ stop.DiskFailed → now ≡ false → Closes {X = Unit {0}} (Err s) now
by_stop (stop.Refused refusal) now other' h = h
by_stop stop.DiskFailed now other' h = absurd (other' refl)
by_stop stop.Memory now other' h = h

not_failed : (error : StoreError) (before now : Bool) → error ≢ store_error.Snap snap_error.DiskFailed → IsWhole {X = Unit {0}} (Err error) before now → now ≡ before
not_failed (store_error.Snap snap_error.DiskFailed) before now no' h = absurd (no' refl)
not_failed (store_error.Snap snap_error.Reopen) before now no' h = h
not_failed (store_error.Snap (snap_error.Waiting deadline)) before now no' h = h
not_failed (store_error.Snap snap_error.NothingWaits) before now no' h = h
not_failed (store_error.Snap (snap_error.BadSnapshot byte)) before now no' h = h
not_failed (store_error.Snap (snap_error.Limit number)) before now no' h = h
not_failed (store_error.Snap snap_error.Memory) before now no' h = h
not_failed store_error.NoPackage before now no' h = h
not_failed (store_error.Parse error) before now no' h = h
not_failed (store_error.Delta error) before now no' h = h
not_failed (store_error.TooLarge bytes) before now no' h = h
not_failed (store_error.NotHolder holder) before now no' h = h
not_failed store_error.NothingStaged before now no' h = h
not_failed store_error.Memory before now no' h = h

pub closes_by : (Cause : Type 0) (error : StoreError) (was now : Bool) → IsOpenRefusal Cause error → was ≡ false → IsWhole {X = Unit {0}} (Err error) was now → Closes {X = Unit {0}} (Err (stop_of error)) now
closes_by Cause error was now (failed is cause) ready whole =
    let closed : now ≡ true = subst (λ (z : StoreError). IsWhole {X = Unit {0}} (Err z) was now) is whole in
    subst (λ (z : StoreError). Closes {X = Unit {0}} (Err (stop_of z)) now) (sym is) closed
closes_by Cause error was now (other no') ready whole =
    by_stop (stop_of error) now no' (not_failed error was now (λ e. no' (ap stop_of e)) whole ∙ ready)

pub cause_by : (Cause : Type 0) (error : StoreError) → IsOpenRefusal Cause error → stop_of error ≡ stop.DiskFailed → Cause
cause_by Cause error (failed is cause) e = cause
cause_by Cause error (other no') e = absurd (no' e)

pub stop_in : (s end : Stop) → ◌≡◌ {A = Result (Unit {0}) Stop} (Err s) (Err end) → s ≡ end
stop_in s end e = cc

-- what a refused call on the disk of staged changes leaves
pub stages_refused : (error : StoreError) (s : Stop) (old new : Store) (before after : View) → s ≡ stop_of error → IsOpenRefusal (Rose before.faults after.faults) error → has_failed old ≡ false
    → IsOnStaged new after → Follows before after → names_of new ≡ names_of old → snap_of new ≡ snap_of old → IsWhole {X = Unit {0}} (Err error) (has_failed old) (has_failed new) → Stages {X = Unit {0}} (Err s) old new before after
stages_refused error s old new before after is why ready on follows names snap whole = record {
  on = on;
  follows = follows;
  names = names;
  snap = snap;
  closes = subst (λ (z : Stop). Closes {X = Unit {0}} (Err z) (has_failed new)) (sym is) (closes_by (Rose before.faults after.faults) error (has_failed old) (has_failed new) why ready whole);
  cause = λ e. cause_by (Rose before.faults after.faults) error why (sym is ∙ stop_in s stop.DiskFailed e);
}

-- ---- a command that was stopped before it staged anything

pub follows_itself : (view : View) → Follows view view
follows_itself view = record { names = refl; tells = λ files seen. (files, seen); silent = λ unseen. unseen; later = omega arith }

pub rests : {A : Type 0} (s : Stop) (expected : Result A Refusal) (store : Store) (view : View) → Answers {A = A} (Err s) expected → IsReady store view → Stages {X = Unit {0}} (Err s) store store view view
rests (stop.Refused refusal) expected store view answers ready = record { on = ready.on; follows = follows_itself view; names = refl; snap = refl; closes = ready.ready; cause = λ e. cc }
rests stop.DiskFailed expected store view answers ready = absurd answers
rests stop.Memory expected store view answers ready = record { on = ready.on; follows = follows_itself view; names = refl; snap = refl; closes = ready.ready; cause = λ e. cc }
