-- Why what a read gives is one of the images: the bytes of one file, with one more call.
use Rattle.std.specs.Prelude.{ℕ, ◌≡◌, ◌⊎◌, ◌+◌, ◌-◌, ◌≤◌, ◌<◌, ◌||◌, min, max, Bool, true, false, List, [], ◌∷◌, ◌++◌}
use Rattle.std.specs.Prelude.{length, take, get_or, refl}
use Rattle.std.specs.List.{list_any}
use Rattle.std.proofs.Common.{sym, ◌∙◌, arith, ⊎_elim, length-append, length-take, length-drop}
use Rattle.std.proofs.lemmas.Bool.Decides.{nat_tests}
use Rattle.std.proofs.lemmas.Grind.{common_steps}
use Rattle.std.proofs.lemmas.List.{get_or_append_left, get_or-append_right, get_or-take, get_or-drop}
use Rattle.std.proofs.lemmas.List.Sums.{fold_push}
use Rattle.std.proofs.lemmas.List.Folds.{list_any-append}
use Rattle.plane_disk.specs.Files.{put_at}
use Rattle.plane_disk.specs.Images.{is_written_by, least_with, greatest_with, least_size, greatest_size, IsImageOf}
use Rattle.plane_disk.specs.declared.call.DiskCall.{DiskCall}
use Rattle.plane_disk.specs.declared.call.DiskCall.TheVariants.{Write, Cut, Sync}

pub length-put : (old : List ℕ) (at : ℕ) (bytes : List ℕ) → length (put_at old at bytes) ≡ min at (length old)
    + length bytes + (length old - (at + length bytes))
length-put old at bytes = simp (length-append, length-take, length-drop)

-- outside of the range every place keeps its byte
pub put_below : (old : List ℕ) (at : ℕ) (bytes : List ℕ) (place : ℕ) → place < at → place < length old
    → get_or (put_at old at bytes) place 0 ≡ get_or old place 0
put_below old at bytes place below within = grind (arith, common_steps, get_or_append_left, get_or-take)

pub put_behind : (old : List ℕ) (at : ℕ) (bytes : List ℕ) (place : ℕ) → at + length bytes ≤ place → place < length old
    → get_or (put_at old at bytes) place 0 ≡ get_or old place 0
put_behind old at bytes place behind within = grind (arith, common_steps, get_or-append_right, get_or-drop)

-- the sizes, and the places that were written, with one more call
pub least_push : (file : ℕ) (synced : List ℕ) (since : List DiskCall) (call : DiskCall)
    → least_size file synced (since ++ call ∷ []) ≡ least_with file (least_size file synced since) call
least_push file synced since call = fold_push (least_with file) (length synced) since call

pub greatest_push : (file : ℕ) (synced : List ℕ) (since : List DiskCall) (call : DiskCall)
    → greatest_size file synced (since ++ call ∷ []) ≡ greatest_with file (greatest_size file synced since) call
greatest_push file synced since call = fold_push (greatest_with file) (length synced) since call

pub any_push : (p : DiskCall → Bool) (since : List DiskCall) (call : DiskCall) → list_any p (since ++ call ∷ [])
    ≡ (list_any p since || (p call || false))
any_push p since call = list_any-append p since (call ∷ [])

pub or_false_left : (a b : Bool) → (a || b) ≡ false → a ≡ false
or_false_left true b h = h
or_false_left false b h = refl

pub or_false_right : (a b : Bool) → (a || b) ≡ false → b ≡ false
or_false_right true b h = cc
or_false_right false b h = h

-- the least size only falls, and the greatest only rises
pub least_falls : (file least : ℕ) (call : DiskCall) → least_with file least call ≤ least
least_falls file least (Write other at bytes done) = omega arith
least_falls file least (Cut other size done) = grind arith
least_falls file least Sync = omega arith

pub greatest_rises : (file greatest : ℕ) (call : DiskCall) → greatest ≤ greatest_with file greatest call
greatest_rises file greatest (Write other at bytes done) = grind arith
greatest_rises file greatest (Cut other size done) = omega arith
greatest_rises file greatest Sync = omega arith

-- what was an image stays one after one more call
pub image_stays : (file : ℕ) (synced : List ℕ) (since : List DiskCall) (call : DiskCall) (bytes : List ℕ)
    → IsImageOf file synced since bytes → IsImageOf file synced (since ++ call ∷ []) bytes
image_stays file synced since call bytes image =
    let least = least_push file synced since call in
    let greatest = greatest_push file synced since call in
    record {
      no_shorter = omega (arith, image.no_shorter, least, least_falls file (least_size file synced since) call);
      no_longer = omega (arith, image.no_longer, greatest, greatest_rises file (greatest_size file synced since) call);
      stays = λ place below none. image.stays place
          (omega (arith, below, least, least_falls file (least_size file synced since) call))
          (or_false_left _ _ (sym (any_push (is_written_by file place) since call) ∙ none));
    }

pub greatest_here : (file greatest at : ℕ) (bytes : List ℕ) (done : Bool)
    → greatest_with file greatest (Write file at bytes done) ≡ max greatest (at + length bytes)
greatest_here file greatest at bytes done = grind (arith, nat_tests)

pub least_here : (file least size : ℕ) (done : Bool) → least_with file least (Cut file size done) ≡ min least size
least_here file least size done = grind (arith, nat_tests)

-- a place that a write does not write is before it or behind it
pub outside : (file place at : ℕ) (bytes : List ℕ) (done : Bool) → is_written_by file place (Write file at bytes done)
    ≡ false → (place < at) ⊎ (at + length bytes ≤ place)
outside file place at bytes done none = grind (arith, nat_tests)

-- bytes with a write over them
pub image_written : (file : ℕ) (synced : List ℕ) (since : List DiskCall) (at : ℕ) (bytes : List ℕ) (done : Bool)
    (old : List ℕ) → IsImageOf file synced since old
    → IsImageOf file synced (since ++ Write file at bytes done ∷ []) (put_at old at bytes)
image_written file synced since at bytes done old image =
    let call = Write file at bytes done in
    let least = least_push file synced since call in
    let greatest = greatest_push file synced since call
    ∙ greatest_here file (greatest_size file synced since) at bytes done in
    let size = length-put old at bytes in
    record {
      no_shorter = omega (arith, image.no_shorter, least, size);
      no_longer = omega (arith, image.no_longer, greatest, size);
      stays = λ place below none.
          let apart = sym (any_push (is_written_by file place) since call) ∙ none in
          let within : place < least_size file synced since = omega (arith, below, least) in
          let inside : place < length old = omega (arith, image.no_shorter, within) in
          let was = image.stays place within (or_false_left _ _ apart) in
          ⊎_elim
          (λ before. put_below old at bytes place before inside ∙ was)
          (λ behind. put_behind old at bytes place behind inside ∙ was)
          (outside file place at bytes done
          (or_false_left _ _ (or_false_right (list_any (is_written_by file place) since) _ apart)));
    }

-- bytes with a cut
pub image_cut : (file : ℕ) (synced : List ℕ) (since : List DiskCall) (size : ℕ) (done : Bool) (old : List ℕ)
    → IsImageOf file synced since old
    → IsImageOf file synced (since ++ Cut file size done ∷ []) (take size old)
image_cut file synced since size done old image =
    let call = Cut file size done in
    let least = least_push file synced since call ∙ least_here file (least_size file synced since) size done in
    let greatest = greatest_push file synced since call in
    let long = length-take size old in
    record {
      no_shorter = omega (arith, image.no_shorter, least, long);
      no_longer = omega (arith, image.no_longer, greatest, long);
      stays = λ place below none.
          let apart = sym (any_push (is_written_by file place) since call) ∙ none in
          let within : place < least_size file synced since = omega (arith, below, least) in
          let front : place < size = omega (arith, below, least) in
          get_or-take size old place 0 front ∙ image.stays place within (or_false_left _ _ apart);
    }
