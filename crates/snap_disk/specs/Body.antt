-- The body, which is kept on the disk beside a begin: the old bytes of files. It is the byte 1 or
-- 2; a deadline in 8 bytes; a holder in 16; the number of the files in 4; and of each file the
-- length of its name in a byte, the name, the length of its bytes in 4, and the bytes. Numbers
-- stand highest byte first, and nothing stands behind the last file.
--
-- A body has a reading, or a first wrong place: that of the first field, from the front, that is
-- wrong or not whole. Wrong is another first byte, a name that no package file of the disk has or
-- that stood before, a length above 1,048,576, and a byte behind the last file.
use Rattle.std.specs.Prelude.{ℕ, ◌≡◌, zero, suc, ◌+◌, ◌||◌, Bool, List, [], ◌∷◌, ◌++◌, length, take}
use Rattle.std.specs.Prelude.{drop, Option, Some, None, Result, Ok, Err, nat_eq, nat_lt}
use Rattle.std.specs.Prelude.{if◌then◌else◌}
use Rattle.std.specs.List.{list_any}
use Rattle.std.specs.Int.{w32, w64, w128, from_be_bytes}
use Rattle.std.specs.Cmp.Lexicographic.{pointwise}
use Rattle.snap_disk.specs.declared.new_file.NewFile.{NewFile}
use Rattle.snap_disk.specs.declared.kept.Kept.{Kept}
use Rattle.snap_disk.specs.declared.snap_error.SnapError.{SnapError}
use Rattle.snap_disk.specs.declared.snap_error.SnapError.TheVariants.{BadSnapshot, Memory}

-- the most bytes that a package file may have
abbrev pub most_bytes : ℕ
most_bytes = 1048576

-- the number of the first file of a name, where these are the names from a number on
abbrev pub number_from : ℕ → List (List ℕ) → List ℕ → Option ℕ
number_from number [] name = None
number_from number (first ∷ names) name =
    if pointwise nat_eq first name then Some number else number_from (number + 1) names name

-- the number of the package file of a name; the files 0 and 1 of a disk are no packages
abbrev pub number_of : List (List ℕ) → List ℕ → Option ℕ
number_of names name = number_from 2 (drop 2 names) name

-- one of the files has the number
abbrev pub has_number : List NewFile → ℕ → Bool
has_number files number = list_any (λ file. nat_eq file.file number) files

-- The next file of a body, with how many bytes it takes there, or the first wrong place. First its
-- bytes, where the place is that of their length; `named` is the length of the name.
abbrev pub filled : ℕ → ℕ → ℕ → ℕ → List ℕ → Result (NewFile × ℕ) ℕ
filled number named place size bytes =
    if nat_lt most_bytes size then Err place
    else if nat_lt (length bytes) size then Err (place + 4)
    else Ok (record { file = number; bytes = take size bytes }, 5 + named + size)

abbrev pub sized : ℕ → ℕ → ℕ → List ℕ → Result (NewFile × ℕ) ℕ
sized number named place bytes =
    if nat_lt (length bytes) 4 then Err place
    else filled number named place (from_be_bytes w32 (take 4 bytes)) (drop 4 bytes)

-- then its name, where the place is that of the name; these files stood before
abbrev pub known : Option ℕ → List NewFile → ℕ → ℕ → List ℕ → Result (NewFile × ℕ) ℕ
known None files named place bytes = Err place
known (Some number) files named place bytes =
    if has_number files number then Err place else sized number named (place + named) bytes

abbrev pub next_file : List (List ℕ) → List NewFile → ℕ → List ℕ → Result (NewFile × ℕ) ℕ
next_file names files place [] = Err place
next_file names files place (named ∷ bytes) =
    if nat_lt (length bytes) named then Err (place + 1)
    else known (number_of names (take named bytes)) files named (place + 1) (drop named bytes)

abbrev pub behind_file : Result (NewFile × ℕ) ℕ → (NewFile × ℕ → Result (List NewFile) ℕ)
    → Result (List NewFile) ℕ
behind_file (Err place) rest = Err place
behind_file (Ok next) rest = rest next

-- so many more files behind these, from a place on
abbrev pub more_files : List (List ℕ) → ℕ → List NewFile → ℕ → List ℕ → Result (List NewFile) ℕ
more_files names zero files place [] = Ok files
more_files names zero files place (byte ∷ bytes) = Err place
more_files names (suc more) files place bytes = behind_file (next_file names files place bytes)
    (λ next. more_files names more (files ++ next.0 ∷ []) (place + next.1) (drop next.1 bytes))

abbrev pub kept_of : ℕ → ℕ → Result (List NewFile) ℕ → Result Kept ℕ
kept_of deadline holder (Err place) = Err place
kept_of deadline holder (Ok files) =
    Ok (record { pending = record { deadline = deadline; holder = holder }; files = files })

-- what stands behind the first byte
abbrev pub read_fields : List (List ℕ) → List ℕ → Result Kept ℕ
read_fields names bytes =
    let after_deadline = drop 8 bytes in
    let behind_holder = drop 16 after_deadline in
    if nat_lt (length bytes) 8 then Err 1
    else if nat_lt (length after_deadline) 16 then Err 9
    else if nat_lt (length behind_holder) 4 then Err 25
    else kept_of (from_be_bytes w64 (take 8 bytes)) (from_be_bytes w128 (take 16 after_deadline))
    (more_files names (from_be_bytes w32 (take 4 behind_holder)) [] 29 (drop 4 behind_holder))

-- what a body keeps on a disk of these names, or its first wrong place
abbrev pub read_body : List (List ℕ) → List ℕ → Result Kept ℕ
read_body names [] = Err 0
read_body names (version ∷ bytes) =
    if nat_eq version 1 || nat_eq version 2 then read_fields names bytes else Err 0

-- a reading answers what a definition gives: a value where it is right, or a bad snapshot at its
-- first wrong place; for want of memory it may answer nothing
abbrev pub RefusesAs : {X : Type 0} → SnapError → Result X ℕ → Type 0
RefusesAs (BadSnapshot place) reading = reading ≡ Err place
RefusesAs Memory reading = Unit {0}
RefusesAs error reading = ⊥

abbrev pub ReadsAs : {X : Type 0} → Result X SnapError → Result X ℕ → Type 0
ReadsAs (Ok value) reading = reading ≡ Ok value
ReadsAs (Err error) reading = RefusesAs error reading
