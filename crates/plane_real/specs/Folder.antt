-- A disk over a folder.
use Rattle.std.specs.Prelude.{ℕ, List, ◌∷◌, None, codes}
use Rattle.plane_disk.specs.View.{View}

-- the names of its files by their numbers, and the faults
pub record DiskOverFolder : Type 0 where
  pub names : List (List ℕ)
  pub faults : ℕ

-- It tells no bytes, and rules out no files after a crash, so no clause about bytes says anything of it.
abbrev pub view_of : DiskOverFolder → View
view_of disk = record {
  names = disk.names;
  seen = None;
  is_image = λ files. Unit {0};
  moment = 0;
  was_image = λ from files. Unit {0};
  faults = disk.faults;
}

-- the names of the files of a disk that has these packages
abbrev pub with_packages : List (List ℕ) → List (List ℕ)
with_packages packages = codes ".plane-gates" ∷ codes ".plane-snapshot" ∷ packages
