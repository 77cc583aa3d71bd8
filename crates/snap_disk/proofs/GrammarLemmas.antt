-- The reading of a body is what its grammar says.
use Rattle.std.proofs.Common.{◌≡◌, ◌≢◌, ◌<◌, ◌≤◌, ◌⊎◌, inl, inr, ⊎_elim, ℕ, zero, suc, ◌+◌, ◌-◌, ◌||◌, List, [], ◌∷◌, ◌++◌, length, length-append, length-take, length-drop, take, drop, Bool, true, false, nat_eq, nat_lt, Option, Some, None}
use Rattle.std.proofs.Common.{Result, Ok, Err, refl, sym, ◌∙◌, ap, subst, arith}
use Rattle.std.specs.Prelude.{if◌then◌else◌}
use Rattle.std.specs.Int.{w32, w64, w128, from_be_bytes}
use Rattle.std.specs.Cmp.Lexicographic.{pointwise, bytes_decides}
use Rattle.std.proofs.lemmas.Bool.{cases_eq, cases_lt}
use Rattle.std.proofs.lemmas.Bool.Decides.{nat_tests}
use Rattle.std.proofs.lemmas.List.{append_assoc, append-nil, take-append-drop, drop_all}
use Rattle.plane_disk.specs.Names.{name_at, AreDiskNames}
use Rattle.snap_disk.specs.Body.{most_bytes, number_from, number_of, has_number, filled, sized, known, next_file, behind_file, more_files, kept_of, read_fields, read_body}
use Rattle.snap_disk.specs.Grammar.{IsNameOf, SpellsFile, SpellsFiles, NameWrong, SizeWrong, BytesWrong, LengthWrong, FileWrong, FilesWrong}
use Rattle.snap_disk.specs.Phase.{Stands}
use Rattle.snap_disk.specs.declared.new_file.NewFile.{NewFile}
use Rattle.snap_disk.specs.declared.kept.Kept.{Kept}
use Rattle.snap_disk.proofs.NameLemmas.{name_found, next_apart}
use Rattle.snap_disk.proofs.ReadBackLemmas.{else_of, not_below, front_of, behind_of}

pub then_of : {A : Type 0} (b : Bool) (x y : A) → b ≡ true → (if b then x else y) ≡ x
then_of true x y is = refl
then_of false x y is = absurd (cc)

pub below : (a b : ℕ) → a < b → nat_lt a b ≡ true
below a b lt = grind (arith, nat_tests)

-- ---- names and numbers

pub found_name : (names : List (List ℕ)) → AreDiskNames names → (name : List ℕ) (file : ℕ) → IsNameOf names name file → number_of names name ≡ Some file
found_name names are name file is = subst (λ (n : List ℕ). number_of names n ≡ Some file) is.named (name_found names are file is.low is.number)

-- a name among the first ones, or none there
find_below : (names : List (List ℕ)) (name : List ℕ) (bound : ℕ) → ((file : ℕ) × (2 ≤ file) × (file < bound) × (name_at names file ≡ name)) ⊎ ((file : ℕ) → 2 ≤ file → file < bound → name_at names file ≢ name)
find_below names name zero = inr (λ file low lt. absurd (omega (arith, lt)))
find_below names name (suc bound) = ⊎_elim
    (λ found. inl (found.0, found.1, let lt = found.2 in omega (arith, lt), found.3))
    (λ none. elim (cases_lt bound 2) [
      | inl low ↦ inr (λ file le lt. absurd (omega (arith, low, le, lt)))
      | inr high ↦ by_test (pointwise nat_eq (name_at names bound) name) refl high none
    ])
    (find_below names name bound)
  where
    by_test : (b : Bool) → pointwise nat_eq (name_at names bound) name ≡ b → 2 ≤ bound → ((file : ℕ) → 2 ≤ file → file < bound → name_at names file ≢ name)
        → ((file : ℕ) × (2 ≤ file) × (file < suc bound) × (name_at names file ≡ name)) ⊎ ((file : ℕ) → 2 ≤ file → file < suc bound → name_at names file ≢ name)
    by_test true is high none = inl (bound, high, omega arith, (bytes_decides (name_at names bound) name).0 is)
    by_test false is high none = inr (λ file low lt same. elim (cases_eq file bound) [
      | inl e ↦ let here : name_at names bound ≡ name = subst (λ (k : ℕ). name_at names k ≡ name) e same in let test = (bytes_decides (name_at names bound) name).1 here in absurd (cc (test, is))
      | inr apart ↦ none file low (omega (arith, lt, apart)) same
    ])

pub find_name : (names : List (List ℕ)) (name : List ℕ) → ((file : ℕ) × IsNameOf names name file) ⊎ ((file : ℕ) → IsNameOf names name file → ⊥)
find_name names name = ⊎_elim
    (λ found. inl (found.0, record { low = found.1; number = found.2; named = found.3 }))
    (λ none. inr (λ file is. none file is.low is.number is.named))
    (find_below names name (length names))

none_from : (names : List (List ℕ)) (name : List ℕ) (n j : ℕ) → j + n ≡ length names → ((file : ℕ) → j ≤ file → file < length names → name_at names file ≢ name) → number_from j (drop j names) name ≡ None
none_from names name zero j is none = ap (λ (l : List (List ℕ)). number_from j l name) (drop_all j names (omega (arith, is)))
none_from names name (suc n) j is none =
    next_apart names j name (omega (arith, is)) (by_test (pointwise nat_eq (name_at names j) name) refl) ∙ none_from names name n (j + 1) (omega (arith, is)) (λ file le lt. none file (omega (arith, le)) lt)
  where
    by_test : (b : Bool) → pointwise nat_eq (name_at names j) name ≡ b → pointwise nat_eq (name_at names j) name ≡ false
    by_test false e = e
    by_test true e = absurd (none j (omega arith) (omega (arith, is)) ((bytes_decides (name_at names j) name).0 e))

no_name : (names : List (List ℕ)) → AreDiskNames names → (name : List ℕ) → ((file : ℕ) → IsNameOf names name file → ⊥) → number_of names name ≡ None
no_name names are name none = none_from names name (length names - 2) 2 (let some = are.some in omega (arith, some)) (λ file low lt same. none file (record { low = low; number = lt; named = same }))

pub stands_test : (files : List NewFile) (number : ℕ) → (Stands files number × (has_number files number ≡ true)) ⊎ ((Stands files number → ⊥) × (has_number files number ≡ false))
stands_test [] number = inr (λ none. none, refl)
stands_test (x ∷ files) number = elim (cases_eq number x.file) [
  | inl is ↦ inl (inl is, grind (arith, nat_tests, is))
  | inr apart ↦ ⊎_elim
      (λ s. inl (inr s.0, let rest = s.1 in grind (arith, nat_tests, rest)))
      (λ s. inr (λ stands. ⊎_elim apart s.0 stands, let rest = s.1 in grind (arith, nat_tests, rest, apart)))
      (stands_test files number)
]

-- ---- one file

pub sized_reads : (file named place : ℕ) (size bytes rest : List ℕ) → length size ≡ 4 → from_be_bytes w32 size ≡ length bytes → length bytes ≤ most_bytes
    → sized file named place (size ++ (bytes ++ rest)) ≡ Ok (record { file = file; bytes = bytes }, 5 + named + length bytes)
sized_reads file named place size bytes rest four value small =
    let long : 4 ≤ length (size ++ (bytes ++ rest)) = let e = length-append size (bytes ++ rest) in omega (arith, e, four) in
    let number : from_be_bytes w32 (take 4 (size ++ (bytes ++ rest))) ≡ length bytes = ap (from_be_bytes w32) (front_of 4 size (bytes ++ rest) four) ∙ value in
    let behind : drop 4 (size ++ (bytes ++ rest)) ≡ bytes ++ rest = behind_of 4 size (bytes ++ rest) four in
    let whole : length bytes ≤ length (bytes ++ rest) = let e = length-append bytes rest in omega (arith, e) in
    else_of _ _ _ (not_below (length (size ++ (bytes ++ rest))) 4 long)
    ∙ (λ i. filled file named place (number i) (behind i))
    ∙ else_of _ _ _ (not_below most_bytes (length bytes) small)
    ∙ else_of _ _ _ (not_below (length (bytes ++ rest)) (length bytes) whole)
    ∙ ap (λ (b : List ℕ). Ok (record { file = file; bytes = b }, 5 + named + length bytes)) (front_of (length bytes) bytes rest refl)

pub named_reads : (names : List (List ℕ)) → AreDiskNames names → (before : List NewFile) (place : ℕ) (name tail : List ℕ) (file : ℕ) → IsNameOf names name file → has_number before file ≡ false
    → next_file names before place (length name ∷ (name ++ tail)) ≡ sized file (length name) (place + 1 + length name) tail
named_reads names are before place name tail file is apart =
    let long : length name ≤ length (name ++ tail) = let e = length-append name tail in omega (arith, e) in
    else_of _ _ _ (not_below (length (name ++ tail)) (length name) long)
    ∙ (λ i. known (number_of names (front_of (length name) name tail refl i)) before (length name) (place + 1) (behind_of (length name) name tail refl i))
    ∙ ap (λ (o : Option ℕ). known o before (length name) (place + 1) tail) (found_name names are name file is)
    ∙ else_of _ _ _ apart

has_not : (files : List NewFile) (number : ℕ) → (Stands files number → ⊥) → has_number files number ≡ false
has_not files number apart = ⊎_elim (λ s. absurd (apart s.0)) (λ s. s.1) (stands_test files number)

pub file_long : (names : List (List ℕ)) (before : List NewFile) (front : List ℕ) (file : NewFile) (s : SpellsFile names before front file) → 5 + length s.name + length file.bytes ≡ length front
file_long names before front file s =
    let t = ap length s.text in
    let e = length-append s.name (s.size ++ file.bytes) in
    let f = length-append s.size file.bytes in
    omega (arith, t, e, f, s.four)

pub file_reads : (names : List (List ℕ)) → AreDiskNames names → (before : List NewFile) (place : ℕ) (front rest : List ℕ) (file : NewFile) → SpellsFile names before front file
    → next_file names before place (front ++ rest) ≡ Ok (file, length front)
file_reads names are before place front rest file s =
    let split : front ++ rest ≡ length s.name ∷ (s.name ++ (s.size ++ (file.bytes ++ rest))) =
    ap (λ (l : List ℕ). l ++ rest) s.text ∙ ap (λ (l : List ℕ). length s.name ∷ l) (append_assoc s.name (s.size ++ file.bytes) rest ∙ ap (λ (l : List ℕ). s.name ++ l) (append_assoc s.size file.bytes rest)) in
    ap (next_file names before place) split ∙ named_reads names are before place s.name (s.size ++ (file.bytes ++ rest)) file.file s.named (has_not before file.file s.first)
    ∙ sized_reads file.file (length s.name) (place + 1 + length s.name) s.size file.bytes rest s.four s.value s.small
    ∙ ap (λ (n : ℕ). Ok (file, n)) (file_long names before front file s)

-- a file that is wrong
known_refuses : (names : List (List ℕ)) → AreDiskNames names → (before : List NewFile) (name : List ℕ) (named place : ℕ) (tail : List ℕ) → ((file : ℕ) → IsNameOf names name file → Stands before file)
    → known (number_of names name) before named place tail ≡ Err place
known_refuses names are before name named place tail wrong = ⊎_elim
    (λ found. ap (λ (o : Option ℕ). known o before named place tail) (found_name names are name found.0 found.1)
    ∙ then_of _ _ _ (⊎_elim (λ s. s.1) (λ s. absurd (s.0 (wrong found.0 found.1))) (stands_test before found.0)))
    (λ none. ap (λ (o : Option ℕ). known o before named place tail) (no_name names are name none))
    (find_name names name)

name_refuses : (names : List (List ℕ)) → AreDiskNames names → (before : List NewFile) (place k : ℕ) (bytes : List ℕ) → NameWrong names before bytes k → next_file names before place bytes ≡ Err (place + k)
name_refuses names are before place k bytes w =
    ap (next_file names before place) w.text ∙ by_size (cases_lt (length w.rest) w.named) ∙ ap (λ (n : ℕ). Err (place + n)) (sym w.is)
  where
    by_size : ((length w.rest < w.named) ⊎ (w.named ≤ length w.rest)) → next_file names before place (w.named ∷ w.rest) ≡ Err (place + 1)
    by_size (inl short) = then_of _ _ _ (below (length w.rest) w.named short)
    by_size (inr long) = else_of _ _ _ (not_below (length w.rest) w.named long) ∙ known_refuses names are before (take w.named w.rest) w.named (place + 1) (drop w.named w.rest)
        (⊎_elim (λ short. absurd (omega (arith, short, long))) (λ h. h) w.wrong)

size_refuses : (names : List (List ℕ)) → AreDiskNames names → (before : List NewFile) (place k : ℕ) (bytes : List ℕ) → SizeWrong names before bytes k → next_file names before place bytes ≡ Err (place + k)
size_refuses names are before place k bytes w =
    ap (next_file names before place) w.text ∙ named_reads names are before place w.name w.rest w.file w.named (has_not before w.file w.first)
    ∙ by_size (cases_lt (length w.rest) 4) ∙ ap (λ (n : ℕ). Err n) (let e = w.is in omega (arith, e))
  where
    by_size : ((length w.rest < 4) ⊎ (4 ≤ length w.rest)) → sized w.file (length w.name) (place + 1 + length w.name) w.rest ≡ Err (place + 1 + length w.name)
    by_size (inl short) = then_of _ _ _ (below (length w.rest) 4 short)
    by_size (inr long) = else_of _ _ _ (not_below (length w.rest) 4 long) ∙ then_of _ _ _ (below most_bytes (from_be_bytes w32 (take 4 w.rest)) (⊎_elim (λ short. absurd (omega (arith, short, long))) (λ h. h) w.wrong))

bytes_refuse : (names : List (List ℕ)) → AreDiskNames names → (before : List NewFile) (place k : ℕ) (bytes : List ℕ) → BytesWrong names before bytes k → next_file names before place bytes ≡ Err (place + k)
bytes_refuse names are before place k bytes w =
    let tail = w.size ++ w.rest in
    let long : 4 ≤ length tail = let e = length-append w.size w.rest in omega (arith, e, w.four) in
    let number : from_be_bytes w32 (take 4 tail) ≡ from_be_bytes w32 w.size = ap (from_be_bytes w32) (front_of 4 w.size w.rest w.four) in
    let behind : drop 4 tail ≡ w.rest = behind_of 4 w.size w.rest w.four in
    ap (next_file names before place) w.text ∙ named_reads names are before place w.name tail w.file w.named (has_not before w.file w.first)
    ∙ else_of _ _ _ (not_below (length tail) 4 long)
    ∙ (λ i. filled w.file (length w.name) (place + 1 + length w.name) (number i) (behind i))
    ∙ else_of _ _ _ (not_below most_bytes (from_be_bytes w32 w.size) w.small)
    ∙ then_of _ _ _ (below (length w.rest) (from_be_bytes w32 w.size) w.wrong)
    ∙ ap (λ (n : ℕ). Err n) (let e = w.is in omega (arith, e))

pub file_refuses : (names : List (List ℕ)) → AreDiskNames names → (before : List NewFile) (place k : ℕ) (bytes : List ℕ) → FileWrong names before bytes k → next_file names before place bytes ≡ Err (place + k)
file_refuses names are before place k bytes (inl w) = ap (next_file names before place) w.text ∙ ap (λ (n : ℕ). Err n) (let e = w.is in omega (arith, e))
file_refuses names are before place k bytes (inr (inl w)) = name_refuses names are before place k bytes w
file_refuses names are before place k bytes (inr (inr (inl w))) = size_refuses names are before place k bytes w
file_refuses names are before place k bytes (inr (inr (inr w))) = bytes_refuse names are before place k bytes w
