-- Why a folder is shut, and what is found, held and left of it.
use Rattle.std.proofs.Common.{arith, ℕ, ◌≡◌, ◌≤◌, inl, inr, Bool, List, [], drop, Option, Some, None, false, refl, ap, sym, subst, ◌∙◌}
use Rattle.std.specs.Prelude.{◌⊎◌, ◌<◌, ◌+◌, length, unwrap_or, if◌then◌else◌, Result, Ok, Err}
use Rattle.plane_words.specs.Causes.{Rose}
use Rattle.plane_disk.specs.Files.{Files, bytes_of}
use Rattle.plane_disk.specs.Names.{name_at}
use Rattle.plane_disk.specs.View.{View, Stays}
use Rattle.snap_disk.specs.Images.{LeavesOnly, SameDisk}
use Rattle.snap_disk.specs.Opened.{State, OpensAs}
use Rattle.snap_disk.specs.Opening.{OpensGiving, FromImage, OpensFrom}
use Rattle.snap_disk.specs.declared.snap_error.SnapError.TheVariants as snap_error
use Rattle.uci_delta.specs.Deltas.{AreDeltas}
use Rattle.uci_staged.specs.declared.change.StagedChange.{StagedChange}
use Rattle.uci_staged.specs.Change.{deltas_in}
use Rattle.uci_staged.specs.Kept.{AreKept, ReadsOn}
use Rattle.uci_store.specs.declared.store.Store.{Store}
use Rattle.uci_store.specs.declared.store_error.StoreError.{StoreError}
use Rattle.uci_store.specs.declared.store_error.StoreError.TheVariants as store_error
use Rattle.uci_store.specs.Opening.{OpenRefuses, AreOwn}
use Rattle.uci_store.specs.Store.{names_of, files_of, staged_in, snap_of, has_failed, IsOnFiles, IsOnStaged}
use Rattle.uci_tool.specs.declared.tool.UciEnd.{UciEnd}
use Rattle.uci_tool.specs.Folder.{Folder, folder_of}
use Rattle.uci_cli.specs.declared.words.Asked.{Asked}
use Rattle.uci_cli.specs.Words.{asked_of}
use Rattle.uci_tool.specs.Ends.{Stream, Streams, IsTold, Tells, IsInput, Ends, carried_out, input_too_long, read_failed, write_failed, disk_failed, no_memory}
use Rattle.uci_tool.specs.Passes.{uci_passes}
use Rattle.uci_tool.specs.Stops.{OpensAmong, StopsAmong}
use Rattle.snap_disk.proofs.Moments.{joins}
use Rattle.uci_tool.specs.Shut.{shut_of, IsShut}
use Rattle.plane_outside.specs.Given.{Advances}
use Rattle.uci_tool.specs.Folders.{IsMoment, IsFound, IsHeld, StopsAsFound, StopsOver, Stops}

-- what is left alone stays
pub same_stays : (view : View) → Stays view view
same_stays view = record { seen = refl; images = λ image. (λ is. is, λ is. is) }

-- what the clock gave is the moment that it told
pub moment_is : (told next : Option (ℕ → ℕ)) (given : ℕ) → Advances told next given → IsMoment told given
moment_is None next given advances moments is = absurd (cc is)
moment_is (Some f) next given advances moments is = advances.0 ∙ ap (λ m. unwrap_or m f 0) is

-- why the store refused to open is why the folder is shut
pub shut_is : (files files_now staged staged_now : View) (now : ℕ) (error : StoreError) → OpenRefuses files files_now staged staged_now now error → IsShut (shut_of error) now files files_now staged staged_now
shut_is files files_now staged staged_now now (store_error.Snap snap_error.DiskFailed) why = why
shut_is files files_now staged staged_now now (store_error.Snap (snap_error.BadSnapshot byte)) why = λ read is. (byte, why read is)
shut_is files files_now staged staged_now now (store_error.Snap (snap_error.Limit number)) why = λ read is. (number, why read is)
shut_is files files_now staged staged_now now (store_error.Snap snap_error.Memory) why = tt
shut_is files files_now staged staged_now now (store_error.Snap (snap_error.Waiting deadline)) why = absurd why
shut_is files files_now staged staged_now now (store_error.Snap snap_error.NothingWaits) why = absurd why
shut_is files files_now staged staged_now now (store_error.Snap snap_error.Reopen) why = absurd why
shut_is files files_now staged staged_now now store_error.Memory why = tt
shut_is files files_now staged staged_now now store_error.NoPackage why = absurd why
shut_is files files_now staged staged_now now (store_error.Parse error) why = absurd why
shut_is files files_now staged staged_now now (store_error.Delta error) why = absurd why
shut_is files files_now staged staged_now now (store_error.TooLarge bytes) why = absurd why
shut_is files files_now staged staged_now now (store_error.NotHolder holder) why = absurd why
shut_is files files_now staged staged_now now store_error.NothingStaged why = absurd why

-- a count that rose later rose
rose_before : (old mid new : ℕ) → old ≤ mid → Rose mid new → Rose old new
rose_before old mid new later rose = omega arith

rose_either : (old mid new : ℕ) (old' mid' new' : ℕ) → old ≤ mid → old' ≤ mid' → Rose mid new ⊎ Rose mid' new' → Rose old new ⊎ Rose old' new'
rose_either old mid new old' mid' new' later later' (inl rose) = inl (rose_before old mid new later rose)
rose_either old mid new old' mid' new' later later' (inr rose) = inr (rose_before old' mid' new' later' rose)

-- how a command ends beside disks, told from before they were opened
pub ends_before : (words : List (List ℕ)) (before after : Folder) (streams : Streams) (files files_mid files_now staged staged_mid staged_now : View) (end : UciEnd)
    → files.faults ≤ files_mid.faults → staged.faults ≤ staged_mid.faults
    → Ends words before after streams files_mid files_now staged_mid staged_now end
    → Ends words before after streams files files_now staged staged_now end
ends_before words before after streams files files_mid files_now staged staged_mid staged_now end later later' (carried_out input is ends out told left) = carried_out input is ends out told left
ends_before words before after streams files files_mid files_now staged staged_mid staged_now end later later' (input_too_long asks more ends out told left) = input_too_long asks more ends out told left
ends_before words before after streams files files_mid files_now staged staged_mid staged_now end later later' (read_failed rose ends out told left) = read_failed rose ends out told left
ends_before words before after streams files files_mid files_now staged staged_mid staged_now end later later' (write_failed input is rose ends out told left) = write_failed input is rose ends out told left
ends_before words before after streams files files_mid files_now staged staged_mid staged_now end later later' (disk_failed rose ends out told) =
    disk_failed (rose_either files.faults files_mid.faults files_now.faults staged.faults staged_mid.faults staged_now.faults later later' rose) ends out told
ends_before words before after streams files files_mid files_now staged staged_mid staged_now end later later' (no_memory ends out told passed) = no_memory ends out told passed

-- what a disk of staged changes held, it held before it was read
kept_before : (old new : View) (changes : List StagedChange) → new.names ≡ old.names → new.seen ≡ old.seen → AreKept new changes → AreKept old changes
kept_before old new changes names seen kept files is file low number =
    subst (λ ns. AreDeltas (name_at ns file) (bytes_of files file) (deltas_in 0 file changes)) names
    (kept files (seen ∙ is) file low (subst (λ ns. file < length ns) (sym names) number))

-- what opening finds
pub found : (files files_now staged staged_now : View) (now : ℕ) (store : Store) → SameDisk files files_now → ReadsOn staged staged_now
    → ((read : Files) → files.seen ≡ Some read → OpensGiving files.names read now (files_of store))
    → IsOnFiles store files_now → IsOnStaged store staged_now → AreOwn (staged_in store) → has_failed store ≡ false
    → IsFound files staged now (folder_of store)
found files files_now staged staged_now now store same reads gives on_files on_staged own ready = record {
  names = sym on_files.names ∙ ap (drop 2) same.names;
  opens = gives;
  own = own;
  kept = kept_before staged staged_now (staged_in store) reads.names reads.seen (on_staged.kept ready);
}

-- what the disks hold of a store
pub held : (files staged : View) (store : Store) → IsOnFiles store files → IsOnStaged store staged → has_failed store ≡ false → IsHeld files staged (folder_of store)
held files staged store on_files on_staged ready = record {
  names = sym on_files.names;
  opens = on_files.snap.durable (on_files.ready ready);
  kept = on_staged.kept ready;
}

-- what a stop leaves: images as opening left them, and those that the command passed through
module _ (words : List (List ℕ)) (now : ℕ) (streams : Streams) (store : Store) (old mid new : View) where
  pub stops_over : SameDisk old mid → ((read : Files) → old.seen ≡ Some read → LeavesOnly old mid (FromImage now old))
      → IsOnFiles store mid → has_failed store ≡ false
      → (input : List ℕ) → IsInput words streams.input input
      → StopsAmong store mid new (uci_passes words (folder_of store) input)
      → Stops words now streams (folder_of store) old new
  stops_over same first on ready input is among = inr (record {
    input = input;
    is = is;
    leaves = λ read tells. let seen = same.tells read tells in
        joins old mid new (FromImage now old) (OpensAmong mid.names (uci_passes words (folder_of store) input)) _
        (first read tells) (among (on.ready ready) seen.0 seen.1) (λ image from. inl from)
        (λ image opens. inr (subst (λ names. OpensAmong names (uci_passes words (folder_of store) input) image) same.names opens));
  })

-- a command that left the disk alone leaves what opening left
pub stops_found : {D : Type 0} (view : D → View) (words : List (List ℕ)) (now : ℕ) (streams : Streams) (before : Folder) (old mid new : D) → new ≡ mid
    → ((read : Files) → (view old).seen ≡ Some read → LeavesOnly (view old) (view mid) (FromImage now (view old)))
    → Stops words now streams before (view old) (view new)
stops_found view words now streams before old mid new same first = inl (λ read tells. subst (λ d. LeavesOnly (view old) (view d) (FromImage now (view old))) (sym same) (first read tells))

-- a text that was written unless the words ask for silence is told as they ask
pub told_of : (quiet : Bool) (words : List (List ℕ)) (written text : List ℕ) (stream : Stream) → quiet ≡ (asked_of words).options.quiet → written ≡ text
    → IsTold (if quiet then [] else written) stream → Tells words text stream
told_of quiet words written text stream same is told = subst (λ t. IsTold (if (asked_of words).options.quiet then [] else t) stream) is (subst (λ q. IsTold (if q then [] else written) stream) same told)
