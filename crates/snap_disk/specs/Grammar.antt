-- The body as a grammar: what the bytes of a body of version 1 or 2 spell, and where bytes that
-- spell nothing are wrong first. Laws say that `read_body` reads and refuses exactly so.
use Rattle.std.specs.Prelude.{ℕ, zero, suc, ◌≡◌, ◌≢◌, ◌≤◌, ◌<◌, ◌+◌, ◌^◌, ◌⊎◌}
use Rattle.std.specs.Prelude.{List, [], ◌∷◌, ◌++◌, length, take}
use Rattle.std.specs.Int.{w32, w64, w128, from_be_bytes}
use Rattle.plane_disk.specs.Names.{name_at}
use Rattle.snap_disk.specs.Body.{most_bytes}
use Rattle.snap_disk.specs.Phase.{Stands, ArePackageFiles}
use Rattle.snap_disk.specs.declared.new_file.NewFile.{NewFile}
use Rattle.snap_disk.specs.declared.kept.Kept.{Kept}

-- the package file of that number has the name; the files 0 and 1 of a disk are no packages
pub record IsNameOf (names : List (List ℕ)) (name : List ℕ) (file : ℕ) : Type 0 where
  pub low : 2 ≤ file
  pub number : file < length names
  pub named : name_at names file ≡ name

-- Bytes spell a file, behind the files before it: the length of its name in a byte, the name, the
-- length of its bytes in 4, and the bytes. It is a package, none of those before, and not too
-- large.
pub record SpellsFile (names : List (List ℕ)) (before : List NewFile) (bytes : List ℕ)
    (file : NewFile) : Type 0 where
  pub name : List ℕ
  pub size : List ℕ
  pub text : bytes ≡ length name ∷ (name ++ (size ++ file.bytes))
  pub named : IsNameOf names name file.file
  pub first : Stands before file.file → ⊥
  pub four : length size ≡ 4
  pub value : from_be_bytes w32 size ≡ length file.bytes
  pub small : length file.bytes ≤ most_bytes

-- bytes spell files, one behind the other, and nothing stands behind the last
abbrev pub SpellsFiles : List (List ℕ) → List NewFile → List ℕ → List NewFile → Type 0
SpellsFiles names before bytes [] = bytes ≡ []
SpellsFiles names before bytes (file ∷ files) =
    (front : List ℕ) × (rest : List ℕ) × (bytes ≡ front ++ rest)
    × SpellsFile names before front file × SpellsFiles names (before ++ file ∷ []) rest files

abbrev pub IsVersion : ℕ → Type 0
IsVersion version = (version ≡ 1) ⊎ (version ≡ 2)

-- the fields before the files: the version, a deadline, a holder, and the number of the files
pub record IsHead (bytes deadline holder count rest : List ℕ) : Type 0 where
  pub version : ℕ
  pub text : bytes ≡ version ∷ (deadline ++ (holder ++ (count ++ rest)))
  pub known : IsVersion version
  pub eight : length deadline ≡ 8
  pub sixteen : length holder ≡ 16
  pub four : length count ≡ 4

-- bytes spell what a body keeps
pub record SpellsBody (names : List (List ℕ)) (bytes : List ℕ) (kept : Kept) : Type 0 where
  pub deadline : List ℕ
  pub holder : List ℕ
  pub count : List ℕ
  pub rest : List ℕ
  pub head : IsHead bytes deadline holder count rest
  pub until : from_be_bytes w64 deadline ≡ kept.pending.deadline
  pub whose : from_be_bytes w128 holder ≡ kept.pending.holder
  pub many : from_be_bytes w32 count ≡ length kept.files
  pub files : SpellsFiles names [] rest kept.files

-- where a file is wrong first: the length of its name is not there
pub record LengthWrong (bytes : List ℕ) (place : ℕ) : Type 0 where
  pub text : bytes ≡ []
  pub is : place ≡ 0

-- its name is not whole, or each package of that name stood before (as where no package has it)
pub record NameWrong (names : List (List ℕ)) (before : List NewFile) (bytes : List ℕ)
    (place : ℕ) : Type 0 where
  pub named : ℕ
  pub rest : List ℕ
  pub text : bytes ≡ named ∷ rest
  pub is : place ≡ 1
  pub wrong : (length rest < named)
      ⊎ ((file : ℕ) → IsNameOf names (take named rest) file → Stands before file)

-- its name is right, and the length of its bytes is not whole, or too large
pub record SizeWrong (names : List (List ℕ)) (before : List NewFile) (bytes : List ℕ)
    (place : ℕ) : Type 0 where
  pub name : List ℕ
  pub file : ℕ
  pub rest : List ℕ
  pub text : bytes ≡ length name ∷ (name ++ rest)
  pub named : IsNameOf names name file
  pub first : Stands before file → ⊥
  pub is : place ≡ 1 + length name
  pub wrong : (length rest < 4) ⊎ (most_bytes < from_be_bytes w32 (take 4 rest))

-- both are right, and its bytes are not whole
pub record BytesWrong (names : List (List ℕ)) (before : List NewFile) (bytes : List ℕ)
    (place : ℕ) : Type 0 where
  pub name : List ℕ
  pub file : ℕ
  pub size : List ℕ
  pub rest : List ℕ
  pub text : bytes ≡ length name ∷ (name ++ (size ++ rest))
  pub named : IsNameOf names name file
  pub first : Stands before file → ⊥
  pub four : length size ≡ 4
  pub small : from_be_bytes w32 size ≤ most_bytes
  pub is : place ≡ 5 + length name
  pub wrong : length rest < from_be_bytes w32 size

abbrev pub FileWrong : List (List ℕ) → List NewFile → List ℕ → ℕ → Type 0
FileWrong names before bytes place = LengthWrong bytes place
    ⊎ (NameWrong names before bytes place
    ⊎ (SizeWrong names before bytes place ⊎ BytesWrong names before bytes place))

-- where so many files are wrong first: where the first one is, or where those behind a right one
-- are; of no file, at the first byte that is left
abbrev pub FilesWrong : List (List ℕ) → List NewFile → ℕ → List ℕ → ℕ → Type 0
FilesWrong names before zero bytes place = (bytes ≢ []) × (place ≡ 0)
FilesWrong names before (suc more) bytes place = FileWrong names before bytes place
    ⊎ ((file : NewFile) × (front : List ℕ) × (rest : List ℕ) × (behind : ℕ)
    × (bytes ≡ front ++ rest) × SpellsFile names before front file
    × (place ≡ length front + behind) × FilesWrong names (before ++ file ∷ []) more rest behind)

-- the first byte is not there, or neither 1 nor 2
pub record VersionWrong (bytes : List ℕ) (place : ℕ) : Type 0 where
  pub is : place ≡ 0
  pub wrong : (version : ℕ) (rest : List ℕ) → bytes ≡ version ∷ rest → IsVersion version → ⊥

-- of so many bytes behind the version the deadline, the holder or the number of the files is not
-- whole
abbrev pub HeadCut : ℕ → ℕ → Type 0
HeadCut size place = ((size < 8) × (place ≡ 1))
    ⊎ (((8 ≤ size) × (size < 24) × (place ≡ 9)) ⊎ ((24 ≤ size) × (size < 28) × (place ≡ 25)))

pub record HeadWrong (bytes : List ℕ) (place : ℕ) : Type 0 where
  pub version : ℕ
  pub rest : List ℕ
  pub text : bytes ≡ version ∷ rest
  pub known : IsVersion version
  pub cut : HeadCut (length rest) place

-- the head is right, and the files are not, or do not end where the bytes end
pub record RestWrong (names : List (List ℕ)) (bytes : List ℕ) (place : ℕ) : Type 0 where
  pub deadline : List ℕ
  pub holder : List ℕ
  pub count : List ℕ
  pub rest : List ℕ
  pub behind : ℕ
  pub head : IsHead bytes deadline holder count rest
  pub is : place ≡ 29 + behind
  pub files : FilesWrong names [] (from_be_bytes w32 count) rest behind

-- where bytes that spell no body are wrong first
abbrev pub IsFirstWrongPlace : List (List ℕ) → List ℕ → ℕ → Type 0
IsFirstWrongPlace names bytes place = VersionWrong bytes place
    ⊎ (HeadWrong bytes place ⊎ RestWrong names bytes place)

-- no number stands twice, also not among the files before these
abbrev pub AreApart : List NewFile → List NewFile → Type 0
AreApart before [] = Unit {0}
AreApart before (file ∷ files) =
    (Stands before file.file → ⊥) × AreApart (before ++ file ∷ []) files

-- what a body can keep: numbers that fit their fields, and packages, each once
pub record CanBeKept (names : List (List ℕ)) (kept : Kept) : Type 0 where
  pub deadline : kept.pending.deadline < 2 ^ 64
  pub holder : kept.pending.holder < 2 ^ 128
  pub few : length kept.files < 2 ^ 32
  pub files : ArePackageFiles (length names) kept.files
  pub apart : AreApart [] kept.files
