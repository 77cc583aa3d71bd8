-- What a disk in memory tells, with one more call and without one.
use Rattle.std.proofs.Common.{ℕ, ◌≡◌, ◌⊎◌, inl, inr, List, [], ◌∷◌, ◌++◌, length, None, sym, ap, ap₂, subst, ◌∙◌, arith, ⊎_elim, length-append}
use Rattle.std.proofs.lemmas.Bool.{cases_lt}
use Rattle.std.proofs.lemmas.List.{take_all, take-append-le}
use Rattle.std.proofs.lemmas.List.Sums.{fold_push}
use Rattle.plane_disk.specs.Files.{Files}
use Rattle.plane_disk.specs.View.{View, Elapses}
use Rattle.plane_disk.specs.Calls.{at_first, after_call, after_calls}
use Rattle.plane_disk.specs.Images.{IsImage, WasImage}
use Rattle.plane_disk.specs.MemDisk.{contents_of, names_of, view_of}
use Rattle.plane_disk.specs.declared.call.DiskCall.{DiskCall}
use Rattle.plane_disk.specs.declared.mem_file.MemFile.{MemFile}

pub state_push : (start : Files) (calls : List DiskCall) (call : DiskCall) → after_calls (at_first start) (calls ++ call ∷ []) ≡ after_call (after_calls (at_first start) calls) call
state_push start calls call = fold_push after_call (at_first start) calls call

-- what a disk made of these files tells after these calls
abbrev pub view_with : List MemFile → List DiskCall → ℕ → View
view_with start calls faults = view_of (record { start = start; calls = calls; failing = []; fuse = None; made = 0; faults = faults; refused = 0 })

-- the disk after one more call
pub state_more : (start same : List MemFile) (calls news : List DiskCall) (call : DiskCall) → same ≡ start → news ≡ calls ++ call ∷ []
    → after_calls (at_first (contents_of same)) news ≡ after_call (after_calls (at_first (contents_of start)) calls) call
state_more start same calls news call is more = ap₂ (λ s cs. after_calls (at_first (contents_of s)) cs) is more ∙ state_push (contents_of start) calls call

-- what was an image once counts as one still
pub was_keeps : (start : Files) (calls : List DiskCall) (call : DiskCall) (from : ℕ) (image : Files) → WasImage start calls from image → WasImage start (calls ++ call ∷ []) from image
was_keeps start calls call from image was = record {
  moment = was.moment;
  since = was.since;
  past = omega (arith, was.past, length-append calls (call ∷ []));
  image = subst (λ cs. IsImage (after_calls (at_first start) cs) image) (sym (take-append-le was.moment calls (call ∷ []) was.past)) was.image;
}

pub was_adds : (start : Files) (calls : List DiskCall) (call : DiskCall) (from : ℕ) (image : Files) → WasImage start (calls ++ call ∷ []) from image
    → WasImage start calls from image ⊎ IsImage (after_calls (at_first start) (calls ++ call ∷ [])) image
was_adds start calls call from image was = ⊎_elim
    (λ past. inr (subst (λ cs. IsImage (after_calls (at_first start) cs) image) (take_all was.moment (calls ++ call ∷ []) (omega (arith, past, length-append calls (call ∷ [])))) was.image))
    (λ within. inl (record {
      moment = was.moment;
      since = was.since;
      past = within;
      image = subst (λ cs. IsImage (after_calls (at_first start) cs) image) (take-append-le was.moment calls (call ∷ []) within) was.image;
    }))
    (cases_lt (length calls) was.moment)

pub elapses_more : (start same : List MemFile) (calls news : List DiskCall) (faults after : ℕ) (call : DiskCall) → same ≡ start → news ≡ calls ++ call ∷ []
    → Elapses (view_with start calls faults) (view_with same news after)
elapses_more start same calls news faults after call is more = record {
  names = ap names_of is;
  later = omega (arith, ap length more, length-append calls (call ∷ []));
  silent = λ none. absurd (cc);
  keeps = λ from image past was. rw (is, more) (was_keeps (contents_of start) calls call from image was);
  adds = λ from image past was. rw (is, more) (was_adds (contents_of start) calls call from image (rw (is, more) at was));
}
