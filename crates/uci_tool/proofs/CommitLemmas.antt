-- Packages that are committed.
use Rattle.std.proofs.Common.{ℕ, ◌≡◌, ◌≢◌, ◌≤◌, ◌<◌, ◌⊎◌, inl, inr, Bool, true, false, cond, List, [], ◌∷◌, length, Option, Some, None, Result, Ok, Err, refl, ap, sym, subst, ◌∙◌, arith}
use Rattle.std.specs.Prelude.{is_some, nat_le}
use Rattle.std.proofs.lemmas.Bool.Decides.{nat_tests}
use Rattle.plane_disk.specs.View.{View}
use Rattle.snap_disk.specs.declared.new_file.NewFile.{NewFile}
use Rattle.snap_disk.specs.declared.snap_error.SnapError.TheVariants as snap_error
use Rattle.snap_disk.specs.Body.{most_bytes}
use Rattle.snap_disk.specs.Opened.{State, Waits}
use Rattle.snap_disk.specs.Refusals.{WaitsUntil}
use Rattle.uci_tree.specs.declared.package.Package.{Package}
use Rattle.uci_tree.specs.Fault.{fault_of}
use Rattle.uci_staged.specs.declared.change.StagedChange.{StagedChange}
use Rattle.uci_staged.specs.Change.{has_deltas, without}
use Rattle.uci_store.specs.declared.store.Store.{Store}
use Rattle.uci_store.specs.declared.store_error.StoreError.{StoreError}
use Rattle.uci_store.specs.declared.store_error.StoreError.TheVariants as store_error
use Rattle.uci_store.specs.Store.{names_of, files_of, staged_in, file_of}
use Rattle.uci_store.specs.Committing.{file_text, with_file, CommitsTo, IsCommitFile, HasRested, HasPrinted, HasCommitted, CommitStops, CommitRefuses}
use Rattle.uci_store.specs.Stops.{IsLeft}
use Rattle.uci_cli.specs.declared.refusal.Refusal.{Refusal}
use Rattle.uci_cli.specs.declared.refusal.Refusal.TheVariants.{Waiting, TooLarge}
use Rattle.uci_tool.specs.Folder.{Folder, folder_of}
use Rattle.uci_tool.specs.Seen.{if_ok, seen_at}
use Rattle.uci_tool.specs.Commit.{Changed, where_free, written, printed_at, committed_file, commit_package, commit_each}
use Rattle.uci_tool.specs.Passes.{commit_passes}
use Rattle.uci_tool.specs.Answers.{stop_of, Changes, IsAmong}
use Rattle.uci_tool.proofs.SeenLemmas.{at_file, no_file, seen_there, unread_there}
use Rattle.uci_tool.proofs.StageLemmas.{by_fault}

folder_from : List (List ℕ) → State → List StagedChange → Folder
folder_from names files staged = record { names = names; files = files; staged = staged }

pub same_all : (old new : Store) (files : State) (staged : List StagedChange) → names_of new ≡ names_of old → files_of new ≡ files → staged_in new ≡ staged → folder_of new ≡ record { names = names_of old; files = files; staged = staged }
unfolding folder_from
same_all old new files staged names to rows =
    ap (λ (z : List (List ℕ)). folder_from z (files_of new) (staged_in new)) names
    ∙ ap (λ (z : State). folder_from (names_of old) z (staged_in new)) to
    ∙ ap (λ (z : List StagedChange). folder_from (names_of old) files z) rows

-- what is done at the file of a package, where no apply waits
pub free_there : (folder : Folder) (next : Result Folder Refusal) → folder.files.waits ≡ None → where_free folder next ≡ next
free_there folder next rests = ap (λ (z : Option Waits). cond (is_some z) (Err Waiting) next) rests

waits_there : (waits : Option Waits) (deadline : ℕ) → WaitsUntil deadline waits → is_some waits ≡ true
waits_there None deadline h = absurd h
waits_there (Some waits) deadline h = refl

pub waiting_there : (folder : Folder) (next : Result Folder Refusal) (deadline : ℕ) → WaitsUntil deadline folder.files.waits → where_free folder next ≡ Err Waiting
waiting_there folder next deadline h = ap (λ (z : Bool). cond z (Err Waiting) next) (waits_there folder.files.waits deadline h)

within_passes : (n most : ℕ) → n ≤ most → nat_le n most ≡ true
within_passes n most h = grind (arith, nat_tests)

over_fails : (n most : ℕ) → most < n → nat_le n most ≡ false
over_fails n most h = grind (arith, nat_tests)

new_from : ℕ → List ℕ → NewFile
new_from file bytes = record { file = file; bytes = bytes }

pub prints_there : (folder : Folder) (new : NewFile) (tree : Package) → new.bytes ≡ file_text tree → length new.bytes ≤ most_bytes → printed_at folder new.file tree ≡ Ok (written folder new)
unfolding new_from
prints_there folder new tree text fits =
    let small : length (file_text tree) ≤ most_bytes = subst (λ (z : List ℕ). length z ≤ most_bytes) text fits in
    ap (λ (z : Bool). cond z (Ok (written folder (new_from new.file (file_text tree)))) (Err TooLarge)) (within_passes (length (file_text tree)) most_bytes small)
    ∙ ap (λ (z : List ℕ). Ok (written folder (new_from new.file z))) (sym text)

pub too_large_there : (folder : Folder) (file : ℕ) (tree : Package) (bytes : ℕ) → bytes ≡ length (file_text tree) → most_bytes < bytes → printed_at folder file tree ≡ Err TooLarge
unfolding new_from
too_large_there folder file tree bytes size passes =
    let large : most_bytes < length (file_text tree) = subst (λ (z : ℕ). most_bytes < z) size passes in
    ap (λ (z : Bool). cond z (Ok (written folder (new_from file (file_text tree)))) (Err TooLarge)) (over_fails (length (file_text tree)) most_bytes large)

some_there : (folder : Folder) (file : ℕ) → has_deltas 0 file folder.staged ≡ true → committed_file folder file ≡ if_ok (seen_at folder file) (printed_at folder file)
some_there folder file some = ap (λ (z : Bool). cond z (if_ok (seen_at folder file) (printed_at folder file)) (Ok folder)) some

none_there : (folder : Folder) (file : ℕ) → has_deltas 0 file folder.staged ≡ false → committed_file folder file ≡ Ok folder
none_there folder file none = ap (λ (z : Bool). cond z (if_ok (seen_at folder file) (printed_at folder file)) (Ok folder)) none

-- ---- done

at_free : (folder : Folder) (name : List ℕ) (file : ℕ) → file_of folder.names name ≡ Some file → folder.files.waits ≡ None → commit_package folder name ≡ committed_file folder file
at_free folder name file number rests = at_file folder name file (λ found. where_free folder (committed_file folder found)) number ∙ free_there folder (committed_file folder file) rests

rested_is : (old new : Store) (name : List ℕ) → names_of new ≡ names_of old → HasRested old new 0 name → commit_package (folder_of old) name ≡ Ok (folder_of new)
rested_is old new name names h =
    at_free (folder_of old) name h.nothing.file h.nothing.number h.nothing.free.rests
    ∙ none_there (folder_of old) h.nothing.file h.nothing.nothing
    ∙ ap (λ (z : Folder). Ok z) (sym (same_all old new (files_of old) (staged_in old) names h.files h.staged))

-- the folder that a commit leads to
pub printed_to : (store : Store) (name : List ℕ) (new : NewFile) → IsCommitFile store 0 name new → commit_package (folder_of store) name ≡ Ok (written (folder_of store) new)
printed_to store name new is =
    at_free (folder_of store) name new.file is.number is.free.rests
    ∙ some_there (folder_of store) new.file is.is.some
    ∙ ap (λ (z : Result Package Refusal). if_ok z (printed_at (folder_of store) new.file)) (seen_there store new.file is.is.view is.is.seen)
    ∙ prints_there (folder_of store) new is.is.view is.is.text is.is.fits

printed_is : (old new : Store) (name : List ℕ) → names_of new ≡ names_of old → HasPrinted old new 0 name → commit_package (folder_of old) name ≡ Ok (folder_of new)
printed_is old new name names h =
    printed_to old name h.file h.is
    ∙ ap (λ (z : Folder). Ok z) (sym (same_all old new (with_file (files_of old) h.file) (without 0 h.file.file (staged_in old)) names h.written.files h.written.staged))

pub committed_is : (old new : Store) (name : List ℕ) → names_of new ≡ names_of old → HasCommitted old new 0 name → commit_package (folder_of old) name ≡ Ok (folder_of new)
committed_is old new name names (inl h) = rested_is old new name names h
committed_is old new name names (inr h) = printed_is old new name names h

-- ---- refused

pub commit_stopped : (old new : Store) (name : List ℕ) (error : StoreError) → folder_of new ≡ folder_of old → CommitStops old 0 name error
    → Changes {X = Unit {0}} (Err (stop_of error)) (folder_of old) (folder_of new) (commit_package (folder_of old) name)
commit_stopped old new name store_error.NoPackage kept h = (no_file (folder_of old) name (λ found. where_free (folder_of old) (committed_file (folder_of old) found)) h.1, kept)
commit_stopped old new name (store_error.Snap (snap_error.Waiting deadline)) kept h =
    (at_file (folder_of old) name h.file (λ found. where_free (folder_of old) (committed_file (folder_of old) found)) h.number ∙ waiting_there (folder_of old) (committed_file (folder_of old) h.file) deadline h.waits.1, kept)
commit_stopped old new name (store_error.Parse error) kept h =
    by_fault (fault_of error) (folder_of old) (folder_of new) (commit_package (folder_of old) name) kept
    (at_free (folder_of old) name h.file h.number h.free.rests ∙ some_there (folder_of old) h.file h.some ∙ unread_there old h.file error (printed_at (folder_of old) h.file) h.because)
commit_stopped old new name (store_error.TooLarge bytes) kept h = (
  at_free (folder_of old) name h.file h.number h.free.rests
      ∙ some_there (folder_of old) h.file h.some
      ∙ ap (λ (z : Result Package Refusal). if_ok z (printed_at (folder_of old) h.file)) (seen_there old h.file h.because.view h.because.seen)
      ∙ too_large_there (folder_of old) h.file h.because.view bytes h.because.large.size h.because.large.passes,
  kept,
)
commit_stopped old new name store_error.Memory kept h = kept
commit_stopped old new name (store_error.Snap snap_error.Reopen) kept h = tt
commit_stopped old new name (store_error.Snap snap_error.DiskFailed) kept h = absurd h
commit_stopped old new name (store_error.Snap snap_error.NothingWaits) kept h = absurd h
commit_stopped old new name (store_error.Snap (snap_error.BadSnapshot byte)) kept h = absurd h
commit_stopped old new name (store_error.Snap (snap_error.Limit number)) kept h = absurd h
commit_stopped old new name (store_error.Snap snap_error.Memory) kept h = absurd h
commit_stopped old new name (store_error.Delta error) kept h = absurd h
commit_stopped old new name (store_error.NotHolder holder) kept h = absurd h
commit_stopped old new name store_error.NothingStaged kept h = absurd h

-- a refusal that is no failure of a disk leaves the folder
pub left_files : (old new : Store) (Leads : State → Type 0) (Untouched : Type 0) (error : StoreError) → (error ≡ store_error.Snap snap_error.DiskFailed → ⊥) → IsLeft old new Leads Untouched error → files_of new ≡ files_of old
left_files old new Leads Untouched error no' h = go h.files
  where
    go : ((files_of new ≡ files_of old) × Untouched) ⊎ ((error ≡ store_error.Snap snap_error.DiskFailed) × Leads (files_of new)) → files_of new ≡ files_of old
    go (inl e) = e.0
    go (inr e) = absurd (no' e.0)

pub disk_failed : (error : StoreError) (old new : Folder) (expected : Result Folder Refusal) → error ≡ store_error.Snap snap_error.DiskFailed → Changes {X = Unit {0}} (Err (stop_of error)) old new expected
disk_failed error old new expected e = subst (λ (z : StoreError). Changes {X = Unit {0}} (Err (stop_of z)) old new expected) (sym e) tt

pub is_disk : (error : StoreError) → (error ≡ store_error.Snap snap_error.DiskFailed) ⊎ (error ≢ store_error.Snap snap_error.DiskFailed)
is_disk (store_error.Snap snap_error.DiskFailed) = inl refl
is_disk (store_error.Snap (snap_error.Waiting deadline)) = inr (λ e. cc)
is_disk (store_error.Snap snap_error.NothingWaits) = inr (λ e. cc)
is_disk (store_error.Snap (snap_error.BadSnapshot byte)) = inr (λ e. cc)
is_disk (store_error.Snap snap_error.Reopen) = inr (λ e. cc)
is_disk (store_error.Snap (snap_error.Limit number)) = inr (λ e. cc)
is_disk (store_error.Snap snap_error.Memory) = inr (λ e. cc)
is_disk store_error.NoPackage = inr (λ e. cc)
is_disk (store_error.Parse error) = inr (λ e. cc)
is_disk (store_error.Delta error) = inr (λ e. cc)
is_disk (store_error.TooLarge bytes) = inr (λ e. cc)
is_disk (store_error.NotHolder holder) = inr (λ e. cc)
is_disk store_error.NothingStaged = inr (λ e. cc)
is_disk store_error.Memory = inr (λ e. cc)

pub commit_refused : (old new : Store) (name : List ℕ) (Untouched : Type 0) (error : StoreError) (a b c d : View) → names_of new ≡ names_of old → IsLeft old new (CommitsTo old 0 name) Untouched error → CommitRefuses old 0 name a b c d error
    → Changes {X = Unit {0}} (Err (stop_of error)) (folder_of old) (folder_of new) (commit_package (folder_of old) name)
commit_refused old new name Untouched error a b c d names left h = go (is_disk error) h
  where
    go : (error ≡ store_error.Snap snap_error.DiskFailed) ⊎ (error ≢ store_error.Snap snap_error.DiskFailed) → CommitRefuses old 0 name a b c d error
        → Changes {X = Unit {0}} (Err (stop_of error)) (folder_of old) (folder_of new) (commit_package (folder_of old) name)
    go (inl e) r = disk_failed error (folder_of old) (folder_of new) (commit_package (folder_of old) name) e
    go (inr no') (inl r) = commit_stopped old new name error (same_all old new (files_of old) (staged_in old) names (left_files old new (CommitsTo old 0 name) Untouched error no' left) left.staged) r
    go (inr no') (inr r) = absurd (no' r.0)

-- ---- each package

by_answer : Folder → List (List ℕ) → Result Folder Refusal → Changed
by_answer folder names answer = elim answer as (λ _. Changed) [
  | Err refusal ↦ record { refusal = Some refusal; after = folder }
  | Ok after ↦ commit_each after names
]

passes_by : Folder → List (List ℕ) → Result Folder Refusal → List Folder
passes_by folder names answer = elim answer as (λ _. List Folder) [
  | Err refusal ↦ folder ∷ []
  | Ok after ↦ folder ∷ commit_passes after names
]

pub commit_step : (folder after : Folder) (name : List ℕ) (names : List (List ℕ)) → commit_package folder name ≡ Ok after → commit_each folder (name ∷ names) ≡ commit_each after names
unfolding by_answer
commit_step folder after name names e = ap (by_answer folder names) e

pub commit_ends : (folder : Folder) (refusal : Refusal) (name : List ℕ) (names : List (List ℕ)) → commit_package folder name ≡ Err refusal → commit_each folder (name ∷ names) ≡ record { refusal = Some refusal; after = folder }
unfolding by_answer
commit_ends folder refusal name names e = ap (by_answer folder names) e

passes_step : (folder after : Folder) (name : List ℕ) (names : List (List ℕ)) → commit_package folder name ≡ Ok after → commit_passes folder (name ∷ names) ≡ folder ∷ commit_passes after names
unfolding passes_by
passes_step folder after name names e = ap (passes_by folder names) e

pub among_step : (folder after found : Folder) (name : List ℕ) (names : List (List ℕ)) → commit_package folder name ≡ Ok after → IsAmong found (commit_passes after names) → IsAmong found (commit_passes folder (name ∷ names))
among_step folder after found name names e h = subst (λ (z : List Folder). IsAmong found z) (sym (passes_step folder after name names e)) (inr h)

-- the folder that is found is one of those that are passed through
pub at_front : (folder : Folder) (names : List (List ℕ)) → IsAmong folder (commit_passes folder names)
unfolding passes_by
at_front folder [] = inl refl
at_front folder (name ∷ names) = go (commit_package folder name) refl
  where
    go : (r : Result Folder Refusal) → commit_package folder name ≡ r → IsAmong folder (passes_by folder names r)
    go (Ok after) e = inl refl
    go (Err refusal) e = inl refl

-- and so is the one that is left
end_step : (folder : Folder) (names : List (List ℕ)) (answer : Result Folder Refusal) → ((after : Folder) → IsAmong (commit_each after names).after (commit_passes after names))
    → IsAmong (by_answer folder names answer).after (passes_by folder names answer)
unfolding by_answer passes_by
end_step folder names (Ok after) next = inr (next after)
end_step folder names (Err refusal) next = inl refl

pub end_among : (folder : Folder) (names : List (List ℕ)) → IsAmong (commit_each folder names).after (commit_passes folder names)
unfolding by_answer passes_by
end_among folder [] = inl refl
end_among folder (name ∷ names) = end_step folder names (commit_package folder name) (λ after. end_among after names)
