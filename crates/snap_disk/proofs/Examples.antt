-- Examples, which the checker computes.
use Rattle.std.proofs.Common.{◌≡◌, ℕ, List, [], ◌∷◌, ◌++◌, length, Option, Some, None, Result, Ok, Err, refl}
use Rattle.std.specs.Prelude.{codes}
use Rattle.plane_disk.specs.Files.{Files}
use Rattle.snap_disk.specs.Body.{read_body}
use Rattle.snap_disk.specs.BodyText.{body_text}
use Rattle.snap_disk.specs.Opened.{Found, opened, at_rest}
use Rattle.snap_disk.specs.declared.new_file.NewFile.{NewFile}
use Rattle.snap_disk.specs.declared.kept.Kept.{Kept}

abbrev names : List (List ℕ)
names = codes ".plane-gates" ∷ codes ".plane-snapshot" ∷ codes "network" ∷ []

-- a deadline of 160, holder 7, and the number of the files
abbrev head : ℕ → List ℕ
head count = (0 ∷ 0 ∷ 0 ∷ 0 ∷ 0 ∷ 0 ∷ 0 ∷ 160 ∷ []) ++ ((0 ∷ 0 ∷ 0 ∷ 0 ∷ 0 ∷ 0 ∷ 0 ∷ 0 ∷ 0 ∷ 0 ∷ 0 ∷ 0 ∷ 0 ∷ 0 ∷ 0 ∷ 7 ∷ []) ++ (0 ∷ 0 ∷ 0 ∷ count ∷ []))

abbrev file : List ℕ
file = 7 ∷ (codes "network" ++ ((0 ∷ 0 ∷ 0 ∷ 3 ∷ []) ++ codes "old"))

abbrev kept : Kept
kept = record { pending = record { deadline = 160; holder = 7 }; files = record { file = 2; bytes = codes "old" } ∷ [] }

abbrev image : List ℕ → List ℕ → Files
image gates body = gates ∷ body ∷ codes "new" ∷ []

gates_of_three_bytes : opened names (image (0 ∷ 0 ∷ 0 ∷ []) []) 0 ≡ Err 3
gates_of_three_bytes = refl

closed : opened names (image (0 ∷ 79 ∷ []) (9 ∷ [])) 0 ≡ Ok (at_rest (codes "new" ∷ []))
closed = refl

a_first_byte_of_nine : opened names (image (79 ∷ 79 ∷ []) (9 ∷ [])) 0 ≡ Err 0
a_first_byte_of_nine = refl

before_the_deadline : opened names (image (79 ∷ 79 ∷ []) (1 ∷ (head 1 ++ file))) 159 ≡ Ok (record { packages = codes "new" ∷ []; waiting = Some (record { deadline = 160; holder = 7 }) })
before_the_deadline = refl

at_the_deadline : opened names (image (79 ∷ 79 ∷ []) (1 ∷ (head 1 ++ file))) 160 ≡ Ok (at_rest (codes "old" ∷ []))
at_the_deadline = refl

restored : opened names (image (79 ∷ 0 ∷ []) (2 ∷ (head 1 ++ file))) 0 ≡ Ok (at_rest (codes "old" ∷ []))
restored = refl

written : body_text names 2 kept ≡ 2 ∷ (head 1 ++ file)
written = refl

a_name_that_stands_twice : read_body names (2 ∷ (head 2 ++ (file ++ file))) ≡ Err 45
a_name_that_stands_twice = refl

a_byte_behind : read_body names (2 ∷ (head 1 ++ (file ++ 0 ∷ []))) ≡ Err 44
a_byte_behind = refl

a_file_of_too_many_bytes : read_body names (2 ∷ (head 1 ++ (7 ∷ (codes "network" ++ (0 ∷ 16 ∷ 0 ∷ 1 ∷ []))))) ≡ Err 37
a_file_of_too_many_bytes = refl
