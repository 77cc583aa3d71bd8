-- What the fields of a disk in memory keep.
use Rattle.std.proofs.Common.{ℕ, ◌≡◌, List, [], ◌∷◌, ◌++◌, length, drop, sym, ap, ap₂, ◌∙◌, arith, length-append}
use Rattle.std.proofs.lemmas.List.{drop-append-le, length-map}
use Rattle.plane_disk.specs.Files.{Files}
use Rattle.plane_disk.specs.Calls.{DiskState, at_first, after_call, after_calls, seen_after}
use Rattle.plane_disk.specs.MemDisk.{IsKept, names_of, contents_of}
use Rattle.plane_disk.specs.Sound.{state_count, seen_is_image}
use Rattle.plane_disk.specs.Images.{IsImage}
use Rattle.plane_disk.specs.declared.call.DiskCall.{DiskCall}
use Rattle.plane_disk.specs.declared.mem_file.MemFile.{MemFile}
use Rattle.plane_disk.proofs.ViewLemmas.{state_push}

pub kept_seen : (start : List MemFile) (calls : List DiskCall) (seen synced : Files) (recorded : ℕ) → IsKept start calls seen synced recorded → (after_calls (at_first (contents_of start)) calls).seen ≡ seen
kept_seen start calls seen synced recorded kept = ap (λ s. s.seen) kept.state

pub kept_count : (start : List MemFile) (calls : List DiskCall) (seen synced : Files) (recorded : ℕ) → IsKept start calls seen synced recorded → length seen ≡ length (names_of start)
kept_count start calls seen synced recorded kept =
    sym (ap length (kept_seen start calls seen synced recorded kept)) ∙ (state_count (at_first (contents_of start)) calls ∙ (length-map start (λ (file : MemFile). file.bytes) ∙ sym (length-map start (λ (file : MemFile). file.name))))

-- one more call that is no sync
pub kept_call : (start : List MemFile) (calls news : List DiskCall) (seen new_seen synced : Files) (recorded : ℕ) (call : DiskCall)
    → ((state : DiskState) → after_call state call ≡ record { seen = seen_after state.seen call; synced = state.synced; since = state.since ++ call ∷ [] })
    → news ≡ calls ++ call ∷ [] → new_seen ≡ seen_after seen call → IsKept start calls seen synced recorded → IsKept start news new_seen synced recorded
kept_call start calls news seen new_seen synced recorded call step more after kept = record {
  named = kept.named;
  few = kept.few;
  within = omega (arith, kept.within, ap length more, length-append calls (call ∷ []));
  state =
      let pushed : after_calls (at_first (contents_of start)) (calls ++ call ∷ []) ≡ after_call (record { seen = seen; synced = synced; since = drop recorded calls }) call = state_push (contents_of start) calls call
      ∙ ap (λ s. after_call s call) kept.state in
      let rest : drop recorded news ≡ drop recorded calls ++ call ∷ [] = ap (drop recorded) more ∙ drop-append-le recorded calls (call ∷ []) kept.within in
      ap (after_calls (at_first (contents_of start))) more ∙ (pushed ∙ (step (record { seen = seen; synced = synced; since = drop recorded calls })
      ∙ ap₂ (λ f s. let made : DiskState = record { seen = f; synced = synced; since = s } in made) (sym after) (sym rest)));
}

pub kept_synced_count : (start : List MemFile) (calls : List DiskCall) (seen synced : Files) (recorded : ℕ) → IsKept start calls seen synced recorded → length synced ≡ length start
kept_synced_count start calls seen synced recorded kept =
    sym (ap (λ s. length s.synced) kept.state) ∙ (sym (seen_is_image (contents_of start) calls).count ∙ (state_count (at_first (contents_of start)) calls ∙ length-map start (λ (file : MemFile). file.bytes)))

-- a state of the same files and calls has the same images
pub image_apart : (seen other synced : Files) (since : List DiskCall) (image : Files) → IsImage (record { seen = seen; synced = synced; since = since }) image → IsImage (record { seen = other; synced = synced; since = since }) image
image_apart seen other synced since image is = record { count = is.count; each = is.each }
