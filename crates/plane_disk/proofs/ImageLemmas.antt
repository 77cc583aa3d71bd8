-- The bytes that a crash may leave of one file, with one more call.
use Rattle.std.proofs.Common.{ℕ, ◌≡◌, ◌⊎◌, inl, inr, ◌+◌, ◌-◌, ◌≤◌, ◌<◌, ◌||◌, min, max, Bool, false, List, [], ◌∷◌, ◌++◌, length, take, drop, get_or, sym, ap, ap₂, ◌∙◌, arith, ⊎_elim, length-take, length-drop}
use Rattle.std.specs.List.{fold, list_any}
use Rattle.std.proofs.lemmas.Bool.{cases_lt}
use Rattle.std.proofs.lemmas.Bool.Decides.{nat_tests}
use Rattle.std.proofs.lemmas.List.{take_all, take-take, drop_all, length-take-le, get_or-take, get_or-drop}
use Rattle.plane_disk.specs.Files.{put_at, IsTorn, IsCut}
use Rattle.plane_disk.specs.Images.{is_written_by, least_with, least_size, greatest_size, IsImageOf}
use Rattle.plane_disk.specs.declared.call.DiskCall.{DiskCall}
use Rattle.plane_disk.specs.declared.call.DiskCall.TheVariants.{Write, Cut}
use Rattle.plane_disk.proofs.PutLemmas.{put_nothing, put_inside, take-put, drop-put}
use Rattle.plane_disk.specs.SoundBytes.{length-put, put_below, put_behind, least_push, greatest_push, any_push, greatest_here, least_here, least_falls}

pub least_folds : (file least : ℕ) (since : List DiskCall) → fold (least_with file) least since ≤ least
least_folds file least [] = omega arith
least_folds file least (call ∷ calls) = omega (arith, least_folds file (least_with file least call) calls, least_falls file least call)

pub is_outside : (file place at : ℕ) (bytes : List ℕ) (done : Bool) → (place < at) ⊎ (at + length bytes ≤ place) → is_written_by file place (Write file at bytes done) ≡ false
is_outside file place at bytes done away = grind (arith, nat_tests)

-- The first k bytes from a place on, as they were at the sync, over an image.
abbrev pub restored : List ℕ → List ℕ → ℕ → ℕ → List ℕ
restored synced image at k = put_at image at (take k (drop at synced))

pub length-slice : (synced : List ℕ) (at k : ℕ) → k + at ≤ length synced ⊎ (k ≡ 0) → length (take k (drop at synced)) ≡ k
length-slice synced at k fits = let long = length-drop at synced in ⊎_elim (λ h. length-take-le k (drop at synced) (omega (arith, h, long))) (λ none. let front = length-take k (drop at synced) in omega (arith, none, front)) fits

pub restored_inside : (synced image : List ℕ) (at k place : ℕ) → at + k ≤ length synced → at ≤ length image → at ≤ place → place < at + k → get_or (restored synced image at k) place 0 ≡ get_or synced place 0
restored_inside synced image at k place fits here from within =
    let size = length-slice synced at k (inl (omega arith)) in
    let offset : at + (place - at) ≡ place = omega arith in
    put_inside image at (take k (drop at synced)) place here from (omega (arith, size)) ∙ (get_or-take k (drop at synced) (place - at) 0 (omega arith) ∙ (get_or-drop at synced (place - at) 0 ∙ ap (λ p. get_or synced p 0) offset))

-- A write may have made an image from one with the front of another.
pub torn_front : (synced image : List ℕ) (at k greatest : ℕ) → (k ≡ 0) ⊎ (at + k ≤ length image) → length (take k (drop at synced)) ≡ k → at ≤ greatest
    → take at image ≡ take at (take greatest (restored synced image at k))
torn_front synced image at k greatest room slice fits =
    sym (take-take at greatest (restored synced image at k) fits ∙ ⊎_elim
    (λ none. ap (take at) (put_nothing image at (take k (drop at synced)) (slice ∙ none)))
    (λ some. take-put image at (take k (drop at synced)) (omega arith)) room)

pub torn_back : (synced image : List ℕ) (at n k greatest : ℕ) → k ≤ n → (k ≡ 0) ⊎ (at + k ≤ length image) → length (take k (drop at synced)) ≡ k
    → length (restored synced image at k) ≡ length image → length image ≤ max greatest (at + n)
    → drop (at + n) image ≡ drop (at + n) (take greatest (restored synced image at k))
torn_back synced image at n k greatest less room slice whole long =
    let b = take k (drop at synced) in
    let e = restored synced image at k in
    let same : drop (at + n) e ≡ drop (at + n) image = ⊎_elim
    (λ none. ap (drop (at + n)) (put_nothing image at b (slice ∙ none)))
    (λ some. drop-put image at b (at + n) (omega (arith, slice)) (omega (arith, slice))) room in
    let front = length-take greatest e in
    ⊎_elim
    (λ past. drop_all (at + n) image (omega (arith, past)) ∙ sym (drop_all (at + n) (take greatest e) (omega (arith, past, front, whole))))
    (λ within. sym (ap (drop (at + n)) (take_all greatest e (omega (arith, whole, within))) ∙ same))
    (cases_lt greatest (length image))

-- An image behind a write comes from one before it by a torn write.
pub before_write : (file : ℕ) (synced : List ℕ) (since : List DiskCall) (at : ℕ) (bytes : List ℕ) (done : Bool) (image : List ℕ) → at ≤ greatest_size file synced since
    → least_size file synced since ≤ greatest_size file synced since → IsImageOf file synced (since ++ Write file at bytes done ∷ []) image → (from : List ℕ) × IsImageOf file synced since from × IsTorn at (length bytes) from image
before_write file synced since at bytes done image fits sizes is =
    let call = Write file at bytes done in
    let n = length bytes in
    let least = least_size file synced since in
    let greatest = greatest_size file synced since in
    let k = min (at + n) least - at in
    let e = restored synced image at k in
    let from = take greatest e in
    let least_is = least_push file synced since call in
    let greatest_is = greatest_push file synced since call ∙ greatest_here file greatest at bytes done in
    let base : least ≤ length synced = least_folds file (length synced) since in
    let slice : length (take k (drop at synced)) ≡ k = grind (arith, length-slice synced at k) in
    let whole : length e ≡ length image = omega (arith, length-put image at (take k (drop at synced)), slice, is.no_shorter, least_is) in
    let long : length from ≡ min greatest (length e) = length-take greatest e in
    let within : least ≤ length image = omega (arith, is.no_shorter, least_is) in
    let room : (k ≡ 0) ⊎ (at + k ≤ length image) = ⊎_elim (λ below. inr (omega (arith, below, within))) (λ past. inl (omega (arith, past))) (cases_lt at least) in (
      from,
      record {
        no_shorter = omega (arith, long, whole, is.no_shorter, least_is, sizes);
        no_longer = omega (arith, long);
        stays = λ place below none.
            let same : (place < at) ⊎ (at + n ≤ place) → get_or image place 0 ≡ get_or synced place 0 = λ away. is.stays place (omega (arith, below, least_is))
            (any_push (is_written_by file place) since call ∙ ap₂ (λ a b. a || (b || false)) none (is_outside file place at bytes done away)) in
            get_or-take greatest e place 0 (omega (arith, below, sizes)) ∙ ⊎_elim
            (λ before. put_below image at (take k (drop at synced)) place before (omega (arith, below, within)) ∙ same (inl before))
            (λ from_at. ⊎_elim
            (λ inside. restored_inside synced image at k place (omega (arith, inside, from_at, base)) (omega (arith, from_at, below, within)) from_at inside)
            (λ behind. put_behind image at (take k (drop at synced)) place (omega (arith, behind, slice)) (omega (arith, below, within)) ∙ same (inr (omega (arith, behind, below))))
            (cases_lt place (at + k)))
            (cases_lt place at);
      },
      record {
        before = torn_front synced image at k greatest room slice fits;
        behind = torn_back synced image at n k greatest (omega arith) room slice whole (omega (arith, is.no_longer, greatest_is));
        no_shorter = omega (arith, long, whole);
        no_longer = omega (arith, long, whole, is.no_longer, greatest_is);
      },
    )

-- An image behind a cut is one from before it, or comes from one by a cut done in part.
pub before_cut : (file : ℕ) (synced : List ℕ) (since : List DiskCall) (size : ℕ) (done : Bool) (image : List ℕ) → least_size file synced since ≤ greatest_size file synced since
    → IsImageOf file synced (since ++ Cut file size done ∷ []) image → IsImageOf file synced since image ⊎ ((from : List ℕ) × IsImageOf file synced since from × IsCut size from image)
before_cut file synced since size done image sizes is =
    let call = Cut file size done in
    let least = least_size file synced since in
    let least_is = least_push file synced since call ∙ least_here file least size done in
    let greatest_is = greatest_push file synced since call in
    let base : least ≤ length synced = least_folds file (length synced) since in
    let none_now : (place : ℕ) → list_any (is_written_by file place) since ≡ false → list_any (is_written_by file place) (since ++ call ∷ []) ≡ false = λ place none. any_push (is_written_by file place) since call ∙ ap (λ a. a || false) none
    in
    ⊎_elim
    (λ shorter.
    let k = least - size in
    let b = take k (drop size synced) in
    let slice : length b ≡ k = length-slice synced size k (inl (omega (arith, base, shorter))) in
    let from = restored synced image size k in
    let front : size ≤ length image = omega (arith, is.no_shorter, least_is, shorter) in
    let long = length-put image size b in
    inr (
      from,
      record {
        no_shorter = omega (arith, long, slice, front, shorter);
        no_longer = omega (arith, long, slice, front, shorter, is.no_longer, greatest_is, sizes);
        stays = λ place below none. ⊎_elim
            (λ before. put_below image size b place before (omega (arith, before, front)) ∙ is.stays place (omega (arith, before, least_is, shorter)) (none_now place none))
            (λ behind. restored_inside synced image size k place (omega (arith, base, shorter)) front behind (omega (arith, below, shorter)))
            (cases_lt place size);
      },
      record {
        front = sym (take-put image size b front);
        no_shorter = omega (arith, front);
        no_longer = omega (arith, long, slice, front, shorter);
      },
    ))
    (λ longer. inl (record {
      no_shorter = omega (arith, is.no_shorter, least_is, longer);
      no_longer = omega (arith, is.no_longer, greatest_is);
      stays = λ place below none. is.stays place (omega (arith, below, least_is, longer)) (none_now place none);
    }))
    (cases_lt size least)
