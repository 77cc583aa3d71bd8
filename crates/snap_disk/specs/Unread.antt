-- When a disk has no reading, by its gates and the grammar of its body.
use Rattle.std.specs.Prelude.{ℕ, ◌≡◌, ◌≢◌, List, [], ◌∷◌, length}
use Rattle.plane_disk.specs.Files.{Files, bytes_of}
use Rattle.snap_disk.specs.Opened.{open_gate}
use Rattle.snap_disk.specs.Grammar.{IsFirstWrongPlace}

-- the gates are not two bytes, and the place is how many there are
pub record GatesWrong (image : Files) (place : ℕ) : Type 0 where
  pub count : length (bytes_of image 0) ≢ 2
  pub is : place ≡ length (bytes_of image 0)

-- they are, the first is open, and the body is wrong first at that place
pub record BodyWrong (names : List (List ℕ)) (image : Files) (place : ℕ) : Type 0 where
  pub second_gate : ℕ
  pub gates : bytes_of image 0 ≡ open_gate ∷ second_gate ∷ []
  pub body : IsFirstWrongPlace names (bytes_of image 1) place
