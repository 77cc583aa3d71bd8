-- The text of a body.
use Rattle.std.specs.Prelude.{ℕ, List, [], ◌∷◌, ◌++◌, length}
use Rattle.std.specs.Int.{w32, w64, w128, to_be_bytes}
use Rattle.plane_disk.specs.Names.{name_at}
use Rattle.snap_disk.specs.declared.new_file.NewFile.{NewFile}
use Rattle.snap_disk.specs.declared.kept.Kept.{Kept}

-- the length of its name, the name, the length of its bytes, and the bytes
abbrev pub file_text : List (List ℕ) → NewFile → List ℕ
file_text names file =
    let name = name_at names file.file in
    length name ∷ (name ++ (to_be_bytes w32 (length file.bytes) ++ file.bytes))

abbrev pub files_text : List (List ℕ) → List NewFile → List ℕ
files_text names [] = []
files_text names (file ∷ files) = file_text names file ++ files_text names files

-- the version, the deadline, the holder, the number of the files, and the files
abbrev pub body_text : List (List ℕ) → ℕ → Kept → List ℕ
body_text names version kept =
    version ∷ (to_be_bytes w64 kept.pending.deadline ++ (to_be_bytes w128 kept.pending.holder
    ++ (to_be_bytes w32 (length kept.files) ++ files_text names kept.files)))
