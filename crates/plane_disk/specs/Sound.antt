-- Why what a read gives is one of the images, and a disk in memory keeps to what always holds of a disk.
use Rattle.std.specs.Prelude.{ℕ, ◌≡◌, ◌≢◌, ◌<◌, true, false, List, [], ◌∷◌, ◌++◌, length, take, refl}
use Rattle.std.proofs.Common.{sym, subst, ◌∙◌, arith, ⊎_elim}
use Rattle.std.proofs.lemmas.Bool.{cases_eq}
use Rattle.std.proofs.lemmas.List.{length-set, length-map, get_or-set_same, get_or-set_other, take_all}
use Rattle.plane_disk.specs.Files.{Files, bytes_of, with_bytes, put_at}
use Rattle.plane_disk.specs.View.{IsSound}
use Rattle.plane_disk.specs.Calls.{DiskState, at_first, after_call, after_calls, seen_after}
use Rattle.plane_disk.specs.Images.{IsImageOf, IsImage}
use Rattle.plane_disk.specs.MemDisk.{DiskInMemory, contents_of, view_of}
use Rattle.plane_disk.specs.SoundBytes.{image_stays, image_written, image_cut}
use Rattle.plane_disk.specs.declared.call.DiskCall.{DiskCall}
use Rattle.plane_disk.specs.declared.call.DiskCall.TheVariants.{Write, Cut, Sync}
use Rattle.plane_disk.specs.declared.mem_file.MemFile.{MemFile}

-- what holds of the new bytes of one file and of the others holds of all
pub with_each : (files : Files) (file : ℕ) (bytes : List ℕ) (P : ℕ → List ℕ → Type 0)
    → (file < length files → P file bytes)
    → ((other : ℕ) → other ≢ file → other < length files → P other (bytes_of files other))
    → (other : ℕ) → other < length files → P other (bytes_of (with_bytes files file bytes) other)
with_each files file bytes P here others other within = ⊎_elim
    (λ same. let inside : file < length files = omega (arith, same, within) in
    subst (λ n. P n (bytes_of (with_bytes files file bytes) n)) (sym same)
    (subst (P file) (sym (get_or-set_same files file bytes [] inside)) (here inside)))
    (λ apart. subst (P other) (sym (get_or-set_other files file other bytes [] apart)) (others other apart within))
    (cases_eq other file)

-- each call keeps the number of files
pub seen_count : (files : Files) (call : DiskCall) → length (seen_after files call) ≡ length files
seen_count files (Write file at bytes true) = length-set files file (put_at (bytes_of files file) at bytes)
seen_count files (Write file at bytes false) = refl
seen_count files (Cut file size true) = length-set files file (take size (bytes_of files file))
seen_count files (Cut file size false) = refl
seen_count files Sync = refl

pub state_count : (state : DiskState) (calls : List DiskCall) → length (after_calls state calls).seen
    ≡ length state.seen
state_count state [] = refl
state_count state (Write file at bytes done ∷ calls) = state_count (after_call state (Write file at bytes done)) calls
    ∙ seen_count state.seen (Write file at bytes done)
state_count state (Cut file size done ∷ calls) = state_count (after_call state (Cut file size done)) calls
    ∙ seen_count state.seen (Cut file size done)
state_count state (Sync ∷ calls) = state_count (after_call state Sync) calls

-- another call that changes no byte of the files
pub others_stay : (state : DiskState) (call : DiskCall) (files : Files) → IsImage state files → (file : ℕ)
    → file < length files → IsImageOf file (bytes_of state.synced file) (state.since ++ call ∷ []) (bytes_of files file)
others_stay state call files is file within =
    image_stays file (bytes_of state.synced file) state.since call (bytes_of files file) (is.each file within)

-- what a read gives is an image, after each call
pub seen_goes_on : (state : DiskState) (call : DiskCall) → IsImage state state.seen
    → IsImage (after_call state call) (after_call state call).seen
seen_goes_on state (Write file at bytes true) is = record {
  count = length-set state.seen file (put_at (bytes_of state.seen file) at bytes) ∙ is.count;
  each = λ other within.
      with_each state.seen file (put_at (bytes_of state.seen file) at bytes)
      (λ n b. IsImageOf n (bytes_of state.synced n) (state.since ++ Write file at bytes true ∷ []) b)
      (λ here. image_written file (bytes_of state.synced file) state.since at bytes true (bytes_of state.seen file)
      (is.each file here))
      (λ n apart inside. others_stay state (Write file at bytes true) state.seen is n inside)
      other (subst (λ n. other < n) (length-set state.seen file (put_at (bytes_of state.seen file) at bytes)) within);
}
seen_goes_on state (Write file at bytes false) is =
    record { count = is.count; each = others_stay state (Write file at bytes false) state.seen is }
seen_goes_on state (Cut file size true) is = record {
  count = length-set state.seen file (take size (bytes_of state.seen file)) ∙ is.count;
  each = λ other within.
      with_each state.seen file (take size (bytes_of state.seen file))
      (λ n b. IsImageOf n (bytes_of state.synced n) (state.since ++ Cut file size true ∷ []) b)
      (λ here. image_cut file (bytes_of state.synced file) state.since size true (bytes_of state.seen file)
      (is.each file here))
      (λ n apart inside. others_stay state (Cut file size true) state.seen is n inside)
      other (subst (λ n. other < n) (length-set state.seen file (take size (bytes_of state.seen file))) within);
}
seen_goes_on state (Cut file size false) is =
    record { count = is.count; each = others_stay state (Cut file size false) state.seen is }
seen_goes_on state Sync is = record {
  count = refl;
  each = λ file within. record
      { no_shorter = omega arith; no_longer = omega arith; stays = λ place below none. refl };
}

pub seen_goes_on_all : (state : DiskState) (calls : List DiskCall) → IsImage state state.seen
    → IsImage (after_calls state calls) (after_calls state calls).seen
seen_goes_on_all state [] is = is
seen_goes_on_all state (call ∷ calls) is = seen_goes_on_all (after_call state call) calls (seen_goes_on state call is)

pub seen_is_image : (start : Files) (calls : List DiskCall)
    → IsImage (after_calls (at_first start) calls) (after_calls (at_first start) calls).seen
seen_is_image start calls = seen_goes_on_all (at_first start) calls
    (record {
      count = refl;
      each =
          λ file within. record { no_shorter = omega arith; no_longer = omega arith; stays = λ place below none. refl };
    })

pub memory_is_sound : (disk : DiskInMemory) → IsSound (view_of disk)
memory_is_sound disk =
    let whole : take (length disk.calls) disk.calls ≡ disk.calls = take_all (length disk.calls) disk.calls (omega arith)
    in
    record {
      reads_image = seen_is_image (contents_of disk.start) disk.calls;
      counted = state_count (at_first (contents_of disk.start)) disk.calls
          ∙ (length-map disk.start (λ (file : MemFile). file.bytes)
          ∙ sym (length-map disk.start (λ (file : MemFile). file.name)));
      now_counts = λ image is. record {
        moment = length disk.calls;
        since = omega arith;
        past = omega arith;
        image =
            subst (λ cs. IsImage (after_calls (at_first (contents_of disk.start)) cs) image) (sym whole) is;
      };
      now_alone = λ image was. subst (λ cs. IsImage (after_calls (at_first (contents_of disk.start)) cs) image)
          (take_all was.moment disk.calls was.since) was.image;
      wider = λ earlier later image before was. record
          { moment = was.moment; since = omega (arith, before, was.since); past = was.past; image = was.image };
    }
