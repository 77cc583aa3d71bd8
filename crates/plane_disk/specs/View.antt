-- What a disk tells, and what its calls make of that.
use Rattle.std.specs.Prelude.{ℕ, ◌≡◌, ◌⊎◌, ◌↔◌, ◌≤◌, ◌<◌, List, length, take, Option, Some, None, IfSome}
use Rattle.plane_disk.specs.Files.{Files, bytes_of, with_bytes, put_at}

-- the names of the files by their numbers; what a read gives, where the disk tells it; which lists of files a crash
-- now may leave, the images; this moment, as a number that does not fall; which were images at some moment from a
-- given one on; the count of faults
pub record View : Type 1 where
  pub names : List (List ℕ)
  pub seen : Option Files
  pub is_image : Files → Type 0
  pub moment : ℕ
  pub was_image : ℕ → Files → Type 0
  pub faults : ℕ

-- these files and no others are images
abbrev pub Only : Files → (Files → Type 0) → Type 0
Only files is_image = (image : Files) → is_image image → image ≡ files

-- what a read gives after a call that a disk may have done in part
abbrev pub SeenSteps : (Files → Files → Type 0) → Option Files → Option Files → Type 0
SeenSteps step None new = new ≡ None
SeenSteps step (Some old) new = (now : Files) × (new ≡ Some now) × step old now

abbrev pub Steps : (Files → Files → Type 0) → View → View → Type 0
Steps step old new = SeenSteps step old.seen new.seen

-- each image after such a call was one before it, or comes from one by that step
abbrev pub MayStep : (Files → Files → Type 0) → View → View → Type 0
MayStep step old new = (image : Files) → new.is_image image
    → old.is_image image ⊎ ((from : Files) × old.is_image from × step from image)

-- no image comes with a call
abbrev pub AddsNone : View → View → Type 0
AddsNone old new = (image : Files) → new.is_image image → old.is_image image

-- where the disk tells what a read gives, that has P
abbrev pub Tells : View → (Files → Type 0) → Type 0
Tells view P = IfSome view.seen P

-- a read gives bytes that were written from a place on
abbrev pub HasWritten : View → View → ℕ → ℕ → List ℕ → Type 0
HasWritten old new file at bytes =
    Tells old (λ files. new.seen ≡ Some (with_bytes files file (put_at (bytes_of files file) at bytes)))

-- a read gives the front of a file that was cut
abbrev pub HasCut : View → View → ℕ → ℕ → Type 0
HasCut old new file size =
    Tells old (λ files. new.seen ≡ Some (with_bytes files file (take size (bytes_of files file))))

-- the number is one of a file
abbrev pub IsFile : View → ℕ → Type 0
IsFile view file = file < length view.names

-- what always holds of a disk
pub record IsSound (view : View) : Type 0 where
  -- what a read gives is one of the images
  pub reads_image : IfSome view.seen view.is_image
  -- there is a file for each name
  pub counted : IfSome view.seen (λ files. length files ≡ length view.names)
  -- this moment is one from an earlier one on, and from this one on there is no other
  pub now_counts : (image : Files) → view.is_image image → view.was_image view.moment image
  pub now_alone : (image : Files) → view.was_image view.moment image → view.is_image image
  -- what was an image from a moment on was one from an earlier moment on
  pub wider : (earlier later : ℕ) (image : Files) → earlier ≤ later
      → view.was_image later image → view.was_image earlier image

-- The same disk, later. Its names stay, and the images from an earlier moment on are those that there were before, and
-- those that there are now.
pub record Elapses (old new : View) : Type 0 where
  pub names : new.names ≡ old.names
  pub later : old.moment ≤ new.moment
  pub silent : old.seen ≡ None → new.seen ≡ None
  pub keeps : (from : ℕ) (image : Files) → from ≤ old.moment
      → old.was_image from image → new.was_image from image
  pub adds : (from : ℕ) (image : Files) → from ≤ old.moment
      → new.was_image from image → old.was_image from image ⊎ new.is_image image

-- Nothing changed but the count of faults and the moment: a read gives the same, and a crash leaves the same.
pub record Stays (old new : View) : Type 0 where
  pub seen : new.seen ≡ old.seen
  pub images : (image : Files) → new.is_image image ↔ old.is_image image
