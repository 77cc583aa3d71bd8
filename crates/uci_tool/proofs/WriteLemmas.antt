-- What calls that write files leave, and packages that are written in place of others.
use Rattle.std.proofs.Common.{ℕ, ◌≡◌, ◌≢◌, ◌+◌, ◌⊎◌, inl, inr, false, List, length, Some, None, Result, Ok, Err, refl, ap, sym, subst, ◌∙◌, arith}
use Rattle.plane_words.specs.Causes.{Rose}
use Rattle.plane_disk.specs.View.{View}
use Rattle.snap_disk.specs.declared.new_file.NewFile.{NewFile}
use Rattle.snap_disk.specs.declared.snap.Snap.{Snap}
use Rattle.snap_disk.specs.declared.snap_error.SnapError.TheVariants as snap_error
use Rattle.snap_disk.specs.Images.{SameDisk}
use Rattle.snap_disk.specs.Open.{IsOpenOn}
use Rattle.snap_disk.specs.Refusals.{IsGood}
use Rattle.uci_tree.specs.declared.package.Package.{Package}
use Rattle.uci_tree.specs.Fault.{fault_of}
use Rattle.uci_staged.specs.Change.{without}
use Rattle.uci_staged.specs.Kept.{Follows}
use Rattle.uci_store.specs.declared.store.Store.{Store}
use Rattle.uci_store.specs.declared.store_error.StoreError.{StoreError}
use Rattle.uci_store.specs.declared.store_error.StoreError.TheVariants as store_error
use Rattle.uci_store.specs.Store.{names_of, snap_of, files_of, staged_in, has_failed, file_of, IsOnFiles, IsOnStaged}
use Rattle.uci_store.specs.Committing.{with_file, DiskRose, CommitRefuses, CommitStops, ReplacesTo, IsReplaceFile, HasReplaced, ReplaceStops, ReplaceRefuses}
use Rattle.uci_store.specs.Staging.{IsWhole}
use Rattle.uci_store.specs.Stops.{IsLeft}
use Rattle.uci_cli.specs.declared.refusal.Refusal.{Refusal}
use Rattle.uci_tool.specs.declared.stop.Stop.{Stop}
use Rattle.uci_tool.specs.declared.stop.Stop.TheVariants as stop
use Rattle.uci_tool.specs.Folder.{Folder, folder_of}
use Rattle.uci_tool.specs.Commit.{where_free, printed_at, written}
use Rattle.uci_tool.specs.Import.{replaced}
use Rattle.uci_tool.specs.Answers.{stop_of, Answers, Changes, Closes, Stages, Writes, IsOpen}
use Rattle.uci_tool.proofs.SeenLemmas.{at_file, no_file}
use Rattle.uci_tool.proofs.StageLemmas.{IsOpenRefusal, failed, other, fault_is_no_disk, never_both, closes_by, cause_by, stop_in, follows_itself}
use Rattle.uci_tool.proofs.CommitLemmas.{same_all, free_there, waiting_there, prints_there, too_large_there, is_disk, disk_failed, left_files}

-- one of two counts rose
abbrev pub SomeRose : View → View → View → View → Type 0
SomeRose files_before files_after staged_before staged_after = Rose files_before.faults files_after.faults ⊎ Rose staged_before.faults staged_after.faults

rose_of : (files_before files_after staged_before staged_after : View) → DiskRose 0 files_before files_after staged_before staged_after → SomeRose files_before files_after staged_before staged_after
rose_of files_before files_after staged_before staged_after (inl rose) = inl rose
rose_of files_before files_after staged_before staged_after (inr rose) = inr rose.1

-- ---- why a write is refused of a store that is not closed

commit_stop_is_open : (old : Store) (name : List ℕ) (error : StoreError) (Cause : Type 0) → has_failed old ≡ false → CommitStops old 0 name error → IsOpenRefusal Cause error
commit_stop_is_open old name store_error.NoPackage Cause ready h = other (λ e. cc)
commit_stop_is_open old name (store_error.Parse error) Cause ready h = other (fault_is_no_disk (fault_of error))
commit_stop_is_open old name (store_error.TooLarge bytes) Cause ready h = other (λ e. cc)
commit_stop_is_open old name store_error.Memory Cause ready h = other (λ e. cc)
commit_stop_is_open old name (store_error.Snap (snap_error.Waiting deadline)) Cause ready h = other (λ e. cc)
commit_stop_is_open old name (store_error.Snap snap_error.Reopen) Cause ready h = absurd (never_both (has_failed old) ready h)
commit_stop_is_open old name (store_error.Snap snap_error.DiskFailed) Cause ready h = absurd h
commit_stop_is_open old name (store_error.Snap snap_error.NothingWaits) Cause ready h = absurd h
commit_stop_is_open old name (store_error.Snap (snap_error.BadSnapshot byte)) Cause ready h = absurd h
commit_stop_is_open old name (store_error.Snap (snap_error.Limit number)) Cause ready h = absurd h
commit_stop_is_open old name (store_error.Snap snap_error.Memory) Cause ready h = absurd h
commit_stop_is_open old name (store_error.Delta error) Cause ready h = absurd h
commit_stop_is_open old name (store_error.NotHolder holder) Cause ready h = absurd h
commit_stop_is_open old name store_error.NothingStaged Cause ready h = absurd h

pub commit_is_open : (old : Store) (name : List ℕ) (error : StoreError) (a b c d : View) → has_failed old ≡ false → CommitRefuses old 0 name a b c d error → IsOpenRefusal (SomeRose a b c d) error
commit_is_open old name error a b c d ready (inl h) = commit_stop_is_open old name error (SomeRose a b c d) ready h
commit_is_open old name error a b c d ready (inr h) = failed h.0 (rose_of a b c d h.1.because)

replace_stop_is_open : (old : Store) (tree : Package) (error : StoreError) (Cause : Type 0) → has_failed old ≡ false → ReplaceStops old tree error → IsOpenRefusal Cause error
replace_stop_is_open old tree store_error.NoPackage Cause ready h = other (λ e. cc)
replace_stop_is_open old tree (store_error.TooLarge bytes) Cause ready h = other (λ e. cc)
replace_stop_is_open old tree store_error.Memory Cause ready h = other (λ e. cc)
replace_stop_is_open old tree (store_error.Snap (snap_error.Waiting deadline)) Cause ready h = other (λ e. cc)
replace_stop_is_open old tree (store_error.Snap snap_error.Reopen) Cause ready h = absurd (never_both (has_failed old) ready h)
replace_stop_is_open old tree (store_error.Snap snap_error.DiskFailed) Cause ready h = absurd h
replace_stop_is_open old tree (store_error.Snap snap_error.NothingWaits) Cause ready h = absurd h
replace_stop_is_open old tree (store_error.Snap (snap_error.BadSnapshot byte)) Cause ready h = absurd h
replace_stop_is_open old tree (store_error.Snap (snap_error.Limit number)) Cause ready h = absurd h
replace_stop_is_open old tree (store_error.Snap snap_error.Memory) Cause ready h = absurd h
replace_stop_is_open old tree (store_error.Parse error) Cause ready h = absurd h
replace_stop_is_open old tree (store_error.Delta error) Cause ready h = absurd h
replace_stop_is_open old tree (store_error.NotHolder holder) Cause ready h = absurd h
replace_stop_is_open old tree store_error.NothingStaged Cause ready h = absurd h

pub replace_is_open : (old : Store) (tree : Package) (error : StoreError) (a b c d : View) → has_failed old ≡ false → ReplaceRefuses old 0 tree a b c d error → IsOpenRefusal (SomeRose a b c d) error
replace_is_open old tree error a b c d ready (inl h) = replace_stop_is_open old tree error (SomeRose a b c d) ready h
replace_is_open old tree error a b c d ready (inr h) = failed h.0 (rose_of a b c d h.2)

-- ---- what a write leaves

pub writes_done : (value : Unit {0}) (old new : Store) (a b c d : View) → has_failed old ≡ false
    → IsOnFiles new b → IsOnStaged new d → names_of new ≡ names_of old → SameDisk a b → Follows c d → has_failed new ≡ has_failed old → Writes {X = Unit {0}} (Ok value) old new a b c d
writes_done value old new a b c d ready files staged names same follows whole = record {
  files = files;
  staged = staged;
  names = names;
  same = same;
  follows = follows;
  closes = whole ∙ ready;
  cause = λ e. cc;
}

pub writes_refused : (error : StoreError) (s : Stop) (old new : Store) (a b c d : View) → s ≡ stop_of error → IsOpenRefusal (SomeRose a b c d) error → has_failed old ≡ false
    → IsOnFiles new b → IsOnStaged new d → names_of new ≡ names_of old → SameDisk a b → Follows c d → IsWhole {X = Unit {0}} (Err error) (has_failed old) (has_failed new) → Writes {X = Unit {0}} (Err s) old new a b c d
writes_refused error s old new a b c d is why ready files staged names same follows whole = record {
  files = files;
  staged = staged;
  names = names;
  same = same;
  follows = follows;
  closes = subst (λ (z : Stop). Closes {X = Unit {0}} (Err z) (has_failed new)) (sym is) (closes_by (SomeRose a b c d) error (has_failed old) (has_failed new) why ready whole);
  cause = λ e. cause_by (SomeRose a b c d) error why (sym is ∙ stop_in s stop.DiskFailed e);
}

-- a disk is the same as itself
pub same_itself : (view : View) → SameDisk view view
same_itself view = record { names = refl; tells = λ files seen. (files, seen); silent = λ unseen. unseen; later = omega arith }

-- a command that was stopped before it wrote anything, not by a disk
pub writes_rest : {X : Type 0} (result : Result X Stop) (store : Store) (files staged : View) → result ≢ Err stop.DiskFailed → IsOpen store files staged → Writes {X = X} result store store files files staged staged
writes_rest {X} result store files staged no' open' = record {
  files = open'.files;
  staged = open'.staged;
  names = refl;
  same = same_itself files;
  follows = follows_itself staged;
  closes = go result no';
  cause = λ e. absurd (no' e);
}
  where
    go : (r : Result X Stop) → r ≢ Err stop.DiskFailed → Closes {X = X} r (has_failed store)
    go (Ok value) n = open'.ready
    go (Err (stop.Refused refusal)) n = open'.ready
    go (Err stop.DiskFailed) n = absurd (n refl)
    go (Err stop.Memory) n = open'.ready

-- one that an answer stopped
pub writes_stopped : {A : Type 0} (s : Stop) (expected : Result A Refusal) (store : Store) (files staged : View) → Answers {A = A} (Err s) expected → IsOpen store files staged
    → Writes {X = Unit {0}} (Err s) store store files files staged staged
writes_stopped (stop.Refused refusal) expected store files staged answers open' = writes_rest (Err (stop.Refused refusal)) store files staged (λ e. cc) open'
writes_stopped stop.DiskFailed expected store files staged answers open' = absurd answers
writes_stopped stop.Memory expected store files staged answers open' = writes_rest (Err stop.Memory) store files staged (λ e. cc) open'

-- the disk of the files is left alone where the store's snapshot is
pub files_stay : (old new : Store) (files staged : View) → IsOnFiles old files → has_failed old ≡ false → IsOnStaged new staged → names_of new ≡ names_of old → snap_of new ≡ snap_of old → IsOnFiles new files
files_stay old new files staged on ready is names snap = record {
  is = is.is;
  names = on.names ∙ sym names;
  count = subst (λ (z : List (List ℕ)). length files.names ≡ length z + 2) (sym names) on.count;
  snap = subst (λ (z : Snap). IsOpenOn z files) (sym snap) on.snap;
  ready = λ e. subst (λ (z : Snap). IsGood z) (sym snap) (on.ready ready);
}

-- a command that stages writes no files
pub writes_of_stages : {X : Type 0} (result : Result X Stop) (old new : Store) (files before after : View) → IsOpen old files before → Stages {X = X} result old new before after → Writes {X = X} result old new files files before after
writes_of_stages result old new files before after open' stages = record {
  files = files_stay old new files after open'.files open'.ready stages.on stages.names stages.snap;
  staged = stages.on;
  names = stages.names;
  same = same_itself files;
  follows = stages.follows;
  closes = stages.closes;
  cause = λ e. inr (stages.cause e);
}

-- ---- a package in place of what is committed

at_free : (folder : Folder) (tree : Package) (file : ℕ) → file_of folder.names tree.name ≡ Some file → folder.files.waits ≡ None → replaced folder tree ≡ printed_at folder file tree
at_free folder tree file number rests = at_file folder tree.name file (λ found. where_free folder (printed_at folder found tree)) number ∙ free_there folder (printed_at folder file tree) rests

-- the folder that a replacement leads to
pub replaced_to : (store : Store) (tree : Package) (new : NewFile) → IsReplaceFile store tree new → replaced (folder_of store) tree ≡ Ok (written (folder_of store) new)
replaced_to store tree new is = at_free (folder_of store) tree new.file is.number is.free.rests ∙ prints_there (folder_of store) new tree is.text is.fits

pub replaced_is : (old new : Store) (tree : Package) → names_of new ≡ names_of old → HasReplaced old new 0 tree → replaced (folder_of old) tree ≡ Ok (folder_of new)
replaced_is old new tree names h =
    replaced_to old tree h.file h.is
    ∙ ap (λ (z : Folder). Ok z) (sym (same_all old new (with_file (files_of old) h.file) (without 0 h.file.file (staged_in old)) names h.written.files h.written.staged))

replace_stopped : (old new : Store) (tree : Package) (error : StoreError) → folder_of new ≡ folder_of old → ReplaceStops old tree error
    → Changes {X = Unit {0}} (Err (stop_of error)) (folder_of old) (folder_of new) (replaced (folder_of old) tree)
replace_stopped old new tree store_error.NoPackage kept h = (no_file (folder_of old) tree.name (λ found. where_free (folder_of old) (printed_at (folder_of old) found tree)) h.1, kept)
replace_stopped old new tree (store_error.Snap (snap_error.Waiting deadline)) kept h =
    (at_file (folder_of old) tree.name h.file (λ found. where_free (folder_of old) (printed_at (folder_of old) found tree)) h.number ∙ waiting_there (folder_of old) (printed_at (folder_of old) h.file tree) deadline h.waits.1, kept)
replace_stopped old new tree (store_error.TooLarge bytes) kept h = (at_free (folder_of old) tree h.0.file h.0.number h.0.free.rests ∙ too_large_there (folder_of old) h.0.file tree bytes h.1.size h.1.passes, kept)
replace_stopped old new tree store_error.Memory kept h = kept
replace_stopped old new tree (store_error.Snap snap_error.Reopen) kept h = tt
replace_stopped old new tree (store_error.Snap snap_error.DiskFailed) kept h = absurd h
replace_stopped old new tree (store_error.Snap snap_error.NothingWaits) kept h = absurd h
replace_stopped old new tree (store_error.Snap (snap_error.BadSnapshot byte)) kept h = absurd h
replace_stopped old new tree (store_error.Snap (snap_error.Limit number)) kept h = absurd h
replace_stopped old new tree (store_error.Snap snap_error.Memory) kept h = absurd h
replace_stopped old new tree (store_error.Parse error) kept h = absurd h
replace_stopped old new tree (store_error.Delta error) kept h = absurd h
replace_stopped old new tree (store_error.NotHolder holder) kept h = absurd h
replace_stopped old new tree store_error.NothingStaged kept h = absurd h

pub replace_refused : (old new : Store) (tree : Package) (Untouched : Type 0) (error : StoreError) (a b c d : View) → names_of new ≡ names_of old → IsLeft old new (ReplacesTo old tree) Untouched error
    → ReplaceRefuses old 0 tree a b c d error → Changes {X = Unit {0}} (Err (stop_of error)) (folder_of old) (folder_of new) (replaced (folder_of old) tree)
replace_refused old new tree Untouched error a b c d names left h = go (is_disk error) h
  where
    go : (error ≡ store_error.Snap snap_error.DiskFailed) ⊎ (error ≢ store_error.Snap snap_error.DiskFailed) → ReplaceRefuses old 0 tree a b c d error
        → Changes {X = Unit {0}} (Err (stop_of error)) (folder_of old) (folder_of new) (replaced (folder_of old) tree)
    go (inl e) r = disk_failed error (folder_of old) (folder_of new) (replaced (folder_of old) tree) e
    go (inr no') (inl r) = replace_stopped old new tree error (same_all old new (files_of old) (staged_in old) names (left_files old new (ReplacesTo old tree) Untouched error no' left) left.staged) r
    go (inr no') (inr r) = absurd (no' r.0)
