-- The files that a crash may leave, with one more call.
use Rattle.std.proofs.Common.{ℕ, ◌≡◌, ◌≢◌, ◌⊎◌, inl, inr, ◌≤◌, ◌<◌, ◌||◌, Bool, true, false, List, [], ◌∷◌, ◌++◌, length, take, sym, ap, ap₂, subst, ◌∙◌, refl, arith, ⊎_elim, length-take}
use Rattle.std.proofs.lemmas.Bool.{cases_eq}
use Rattle.std.proofs.lemmas.Bool.Decides.{nat_tests}
use Rattle.std.proofs.lemmas.Grind.{common_steps}
use Rattle.std.proofs.lemmas.List.{length-set, get_or-set_same, get_or-set_other, take-take, ext_get_or}
use Rattle.plane_disk.specs.Files.{Files, bytes_of, with_bytes, put_at, IsTorn, IsCut, AtFile}
use Rattle.plane_disk.specs.Calls.{DiskState, after_call, seen_after}
use Rattle.plane_disk.specs.Images.{is_written_by, least_size, greatest_size, IsImageOf, IsImage}
use Rattle.plane_disk.specs.declared.call.DiskCall.{DiskCall}
use Rattle.plane_disk.specs.declared.call.DiskCall.TheVariants.{Write, Cut}
use Rattle.plane_disk.proofs.PutLemmas.{take-put}
use Rattle.plane_disk.specs.SoundBytes.{length-put, least_push, greatest_push, any_push}
use Rattle.plane_disk.specs.Sound.{with_each}
use Rattle.plane_disk.proofs.ImageLemmas.{before_write, before_cut}

-- a call at another file says nothing about this one
pub other_write : (file other at : ℕ) (bytes : List ℕ) (done : Bool) (synced : List ℕ) (since : List DiskCall) (image : List ℕ) → other ≢ file → IsImageOf other synced (since ++ Write file at bytes done ∷ []) image
    → IsImageOf other synced since image
other_write file other at bytes done synced since image apart is =
    let call = Write file at bytes done in
    let least = least_push other synced since call in
    let greatest : greatest_size other synced (since ++ call ∷ []) ≡ greatest_size other synced since = greatest_push other synced since call ∙ grind (arith, nat_tests) in
    let elsewhere : (place : ℕ) → is_written_by other place call ≡ false = λ place. grind (arith, nat_tests) in
    record {
      no_shorter = omega (arith, is.no_shorter, least);
      no_longer = omega (arith, is.no_longer, greatest);
      stays = λ place below none. is.stays place (omega (arith, below, least)) (any_push (is_written_by other place) since call ∙ ap₂ (λ a b. a || (b || false)) none (elsewhere place));
    }

pub other_cut : (file other size : ℕ) (done : Bool) (synced : List ℕ) (since : List DiskCall) (image : List ℕ) → other ≢ file → IsImageOf other synced (since ++ Cut file size done ∷ []) image → IsImageOf other synced since image
other_cut file other size done synced since image apart is =
    let call = Cut file size done in
    let least : least_size other synced (since ++ call ∷ []) ≡ least_size other synced since = least_push other synced since call ∙ grind (arith, nat_tests) in
    let greatest = greatest_push other synced since call in
    record {
      no_shorter = omega (arith, is.no_shorter, least);
      no_longer = omega (arith, is.no_longer, greatest);
      stays = λ place below none. is.stays place (omega (arith, below, least)) (any_push (is_written_by other place) since call ∙ ap (λ a. a || false) none);
    }

-- files that differ at one file by a step
pub at_file : (files : Files) (file : ℕ) (bytes : List ℕ) (step : List ℕ → List ℕ → Type 0) → file < length files → step bytes (bytes_of files file) → AtFile file step (with_bytes files file bytes) files
at_file files file bytes step within done = record {
  count = sym (length-set files file bytes);
  here = subst (λ b. step b (bytes_of files file)) (sym (get_or-set_same files file bytes [] within)) done;
  others = λ other apart. sym (get_or-set_other files file other bytes [] apart);
}

pub to_file : (files : Files) (file : ℕ) (bytes : List ℕ) (step : List ℕ → List ℕ → Type 0) → file < length files → step (bytes_of files file) bytes → AtFile file step files (with_bytes files file bytes)
to_file files file bytes step within done = record {
  count = length-set files file bytes;
  here = subst (step (bytes_of files file)) (sym (get_or-set_same files file bytes [] within)) done;
  others = λ other apart. get_or-set_other files file other bytes [] apart;
}

pub no_step : (files : Files) (file : ℕ) (step : List ℕ → List ℕ → Type 0) → step (bytes_of files file) (bytes_of files file) → AtFile file step files files
no_step files file step done = record { count = refl; here = done; others = λ other apart. refl }

-- the images behind a write
pub crash_of_write : (state : DiskState) (file at : ℕ) (bytes : List ℕ) (done : Bool) → IsImage state state.seen → file < length state.seen → at ≤ length (bytes_of state.seen file) → (image : Files)
    → IsImage (after_call state (Write file at bytes done)) image → (from : Files) × IsImage state from × AtFile file (IsTorn at (length bytes)) from image
crash_of_write state file at bytes done seen within fits image is =
    let now = seen.each file within in
    let inside : file < length image = omega (arith, is.count, seen.count, within) in
    let torn = before_write file (bytes_of state.synced file) state.since at bytes done (bytes_of image file) (omega (arith, fits, now.no_longer)) (omega (arith, now.no_shorter, now.no_longer)) (is.each file inside) in (
      with_bytes image file torn.0,
      record {
        count = length-set image file torn.0 ∙ is.count;
        each = λ other here. with_each image file torn.0 (λ n b. IsImageOf n (bytes_of state.synced n) state.since b) (λ h. torn.1)
            (λ n apart h. other_write file n at bytes done (bytes_of state.synced n) state.since (bytes_of image n) apart (is.each n h)) other (subst (λ n. other < n) (length-set image file torn.0) here);
      },
      at_file image file torn.0 (IsTorn at (length bytes)) inside torn.2,
    )

-- the images behind a cut
pub crash_of_cut : (state : DiskState) (file size : ℕ) (done : Bool) → IsImage state state.seen → file < length state.seen → (image : Files)
    → IsImage (after_call state (Cut file size done)) image → IsImage state image ⊎ ((from : Files) × IsImage state from × AtFile file (IsCut size) from image)
crash_of_cut state file size done seen within image is =
    let now = seen.each file within in
    let inside : file < length image = omega (arith, is.count, seen.count, within) in
    let other : (n : ℕ) → n ≢ file → n < length image → IsImageOf n (bytes_of state.synced n) state.since (bytes_of image n) =
    λ n apart h. other_cut file n size done (bytes_of state.synced n) state.since (bytes_of image n) apart (is.each n h) in
    ⊎_elim
    (λ same. inl (record { count = is.count; each = λ n h. ⊎_elim (λ e. subst (λ m. IsImageOf m (bytes_of state.synced m) state.since (bytes_of image m)) (sym e) same) (λ apart. other n apart h) (cases_eq n file) }))
    (λ part. inr (
      with_bytes image file part.0,
      record {
        count = length-set image file part.0 ∙ is.count;
        each = λ n here. with_each image file part.0 (λ m b. IsImageOf m (bytes_of state.synced m) state.since b) (λ h. part.1) other n (subst (λ m. n < m) (length-set image file part.0) here);
      },
      at_file image file part.0 (IsCut size) inside part.2,
    ))
    (before_cut file (bytes_of state.synced file) state.since size done (bytes_of image file) (omega (arith, now.no_shorter, now.no_longer)) (is.each file inside))

-- what a call that is done or not done does to what a read gives
pub torn_seen : (files : Files) (file at : ℕ) (bytes : List ℕ) (done : Bool) → file < length files → at ≤ length (bytes_of files file) → AtFile file (IsTorn at (length bytes)) files (seen_after files (Write file at bytes done))
torn_seen files file at bytes true within fits =
    let old = bytes_of files file in
    let long = length-put old at bytes in
    to_file files file (put_at old at bytes) (IsTorn at (length bytes)) within (record {
      before = take-put old at bytes fits;
      behind = grind (arith, common_steps);
      no_shorter = omega (arith, long, fits);
      no_longer = omega (arith, long, fits);
    })
torn_seen files file at bytes false within fits = no_step files file (IsTorn at (length bytes)) (record { before = refl; behind = refl; no_shorter = omega arith; no_longer = omega arith })

pub cut_seen : (files : Files) (file size : ℕ) (done : Bool) → file < length files → AtFile file (IsCut size) files (seen_after files (Cut file size done))
cut_seen files file size true within =
    let old = bytes_of files file in
    let long = length-take size old in
    to_file files file (take size old) (IsCut size) within (record { front = take-take size size old (omega arith); no_shorter = omega (arith, long); no_longer = omega (arith, long) })
cut_seen files file size false within = no_step files file (IsCut size) (record { front = refl; no_shorter = omega arith; no_longer = omega arith })

-- after a sync there is one image
pub image_alone : (files image : Files) → IsImage (record { seen = files; synced = files; since = [] }) image → image ≡ files
image_alone files image is = ext_get_or [] image files is.count (λ file within.
    let here = is.each file within in
    ext_get_or 0 (bytes_of image file) (bytes_of files file) (omega (arith, here.no_shorter, here.no_longer))
    (λ place below. here.stays place (omega (arith, below, here.no_longer)) refl))
