-- The files that are kept as they are, and what they give back.
use Rattle.std.proofs.Common.{◌≡◌, ◌<◌, ◌≤◌, inl, inr, ℕ, zero, suc, ◌+◌, ◌-◌, List, [], ◌∷◌, ◌++◌, length, length-drop, drop, get_or, Bool, true, false, refl, sym, ◌∙◌, ap, subst, arith}
use Rattle.std.proofs.Math.Seq.{drop-cons}
use Rattle.std.proofs.lemmas.Bool.{cases_lt}
use Rattle.std.proofs.lemmas.Bool.Decides.{nat_tests}
use Rattle.std.proofs.lemmas.List.{append_assoc, set-get_or, get_or_default, get_or_past}
use Rattle.plane_disk.specs.Files.{Files, bytes_of, with_bytes}
use Rattle.snap_disk.specs.Body.{most_bytes, has_number}
use Rattle.snap_disk.specs.Open.{old_files}
use Rattle.snap_disk.specs.Opened.{with_package, put, IsWithin}
use Rattle.snap_disk.specs.Phase.{Stands, IsBeside, ArePackageFiles, GivesBack}
use Rattle.snap_disk.specs.declared.new_file.NewFile.{NewFile}
use Rattle.snap_disk.proofs.PutLemmas.{put_again}

front : (ps : Files) (i : ℕ) → i < length ps → drop i ps ≡ bytes_of ps i ∷ drop (i + 1) ps
front ps i within = let one : i + 1 ≡ suc i = omega arith in drop-cons ps i [] within ∙ ap (λ (k : ℕ). bytes_of ps i ∷ drop k ps) (sym one)

step_true : (new : List NewFile) (file : ℕ) (bytes : List ℕ) (ps : Files) → has_number new file ≡ true → old_files new file (bytes ∷ ps) ≡ record { file = file; bytes = bytes } ∷ old_files new (file + 1) ps
step_true new file bytes ps has = grind (arith, has)

step_false : (new : List NewFile) (file : ℕ) (bytes : List ℕ) (ps : Files) → has_number new file ≡ false → old_files new file (bytes ∷ ps) ≡ old_files new (file + 1) ps
step_false new file bytes ps has = grind (arith, has)

-- a package is taken, or passed over
pub old_taken : (new : List NewFile) (ps : Files) (whole files pushed : List NewFile) (i : ℕ) (bytes seen : List ℕ) (has : Bool) → i < length ps → has ≡ true → has ≡ has_number new (i + 2) → bytes ≡ seen → seen ≡ get_or ps i seen
    → whole ≡ files ++ old_files new (i + 2) (drop i ps) → pushed ≡ files ++ record { file = i + 2; bytes = bytes } ∷ [] → whole ≡ pushed ++ old_files new (i + 1 + 2) (drop (i + 1) ps)
old_taken new ps whole files pushed i bytes seen has within has_it is copied there so_far pushes =
    let e : i + 2 + 1 ≡ i + 1 + 2 = omega arith in
    let same : bytes_of ps i ≡ bytes = sym (copied ∙ there ∙ get_or_default ps i seen [] within) in
    let here : old_files new (i + 2) (drop i ps) ≡ record { file = i + 2; bytes = bytes } ∷ old_files new (i + 1 + 2) (drop (i + 1) ps) =
    ap (old_files new (i + 2)) (front ps i within) ∙ step_true new (i + 2) (bytes_of ps i) (drop (i + 1) ps) (sym is ∙ has_it)
    ∙ (λ k. record { file = i + 2; bytes = same k } ∷ old_files new (e k) (drop (i + 1) ps)) in
    so_far ∙ ap (λ l. files ++ l) here ∙ sym (append_assoc files _ _) ∙ ap (λ l. l ++ old_files new (i + 1 + 2) (drop (i + 1) ps)) (sym pushes)

pub old_passed : (new : List NewFile) (ps : Files) (whole files same : List NewFile) (i : ℕ) (has : Bool) → i < length ps → has ≡ false → has ≡ has_number new (i + 2)
    → whole ≡ files ++ old_files new (i + 2) (drop i ps) → same ≡ files → whole ≡ same ++ old_files new (i + 1 + 2) (drop (i + 1) ps)
old_passed new ps whole files same i has within lacks is so_far stays =
    let e : i + 2 + 1 ≡ i + 1 + 2 = omega arith in
    so_far ∙ ap (λ l. files ++ l) (ap (old_files new (i + 2)) (front ps i within) ∙ step_false new (i + 2) (bytes_of ps i) (drop (i + 1) ps) (sym is ∙ lacks) ∙ ap (λ (k : ℕ). old_files new k (drop (i + 1) ps)) e)
    ∙ ap (λ l. l ++ old_files new (i + 1 + 2) (drop (i + 1) ps)) (sym stays)

-- ---- what they give back

-- a file of the packages has its bytes
abbrev pub AreOf : Files → List NewFile → Type 0
AreOf packages [] = Unit {0}
AreOf packages (file ∷ files) = (file.bytes ≡ bytes_of packages (file.file - 2)) × AreOf packages files

-- files that the packages have are put where they were
pub put_of : (ps : Files) (files : List NewFile) → AreOf ps files → put files ps ≡ ps
put_of ps [] are = refl
put_of ps (x ∷ files) are =
    let same : with_package ps x.file x.bytes ≡ ps = ap (λ (b : List ℕ). with_bytes ps (x.file - 2) b) are.0 ∙ set-get_or ps (x.file - 2) [] in
    ap (put files) same ∙ put_of ps files are.1

-- the old files, from a place of the packages on
old_step : (new : List NewFile) (file : ℕ) (bytes : List ℕ) (ps : Files) (P : List NewFile → Type 0) → P (record { file = file; bytes = bytes } ∷ old_files new (file + 1) ps) → P (old_files new (file + 1) ps)
    → P (old_files new file (bytes ∷ ps))
old_step new file bytes ps P has lacks = by_case (has_number new file) refl
  where
    by_case : (b : Bool) → has_number new file ≡ b → P (old_files new file (bytes ∷ ps))
    by_case true is = subst P (sym (step_true new file bytes ps is)) has
    by_case false is = subst P (sym (step_false new file bytes ps is)) lacks

old_of : (new : List NewFile) (whole : Files) (i : ℕ) (ps : Files) → drop i whole ≡ ps → AreOf whole (old_files new (i + 2) ps)
old_of new whole i [] is = tt
old_of new whole i (bytes ∷ ps) is =
    let within : i < length whole = let long = length-drop i whole in let e = ap length is in omega (arith, long, e) in
    let parts : bytes_of whole i ∷ drop (i + 1) whole ≡ bytes ∷ ps = sym (front whole i within) ∙ is in
    let here : bytes ≡ bytes_of whole (i + 2 - 2) = let e : i + 2 - 2 ≡ i = omega arith in sym (head parts) ∙ ap (bytes_of whole) (sym e) in
    let e : i + 1 + 2 ≡ i + 2 + 1 = omega arith in
    let rest : AreOf whole (old_files new (i + 2 + 1) ps) = subst (λ (k : ℕ). AreOf whole (old_files new k ps)) e (old_of new whole (i + 1) ps (tail parts)) in
    old_step new (i + 2) bytes ps (AreOf whole) (here, rest) rest
  where
    head : {x y : List ℕ} {xs ys : Files} → x ∷ xs ≡ y ∷ ys → x ≡ y
    head e = cc

    tail : {x y : List ℕ} {xs ys : Files} → x ∷ xs ≡ y ∷ ys → xs ≡ ys
    tail e = cc

-- a number of a new file is that of an old one
has_from_stands : (new : List NewFile) (number : ℕ) → Stands new number → has_number new number ≡ true
has_from_stands [] number none = elim none [ ]
has_from_stands (x ∷ new) number (inl is) = grind (arith, nat_tests, is)
has_from_stands (x ∷ new) number (inr stands) = let rest = has_from_stands new number stands in grind (arith, rest)

old_stands : (new : List NewFile) (file k : ℕ) (ps : Files) → k < length ps → has_number new (file + k) ≡ true → Stands (old_files new file ps) (file + k)
old_stands new file k [] within has = absurd (omega (arith, within))
old_stands new file zero (bytes ∷ ps) within has =
    let e : file + 0 ≡ file = omega arith in
    subst (λ (l : List NewFile). Stands l (file + 0)) (sym (step_true new file bytes ps (ap (has_number new) (sym e) ∙ has))) (inl e)
old_stands new file (suc k) (bytes ∷ ps) within has =
    let e : file + 1 + k ≡ file + suc k = omega arith in
    let rest : Stands (old_files new (file + 1) ps) (file + suc k) = subst (Stands (old_files new (file + 1) ps)) e (old_stands new (file + 1) k ps (omega (arith, within)) (ap (has_number new) e ∙ has)) in
    old_step new file bytes ps (λ (l : List NewFile). Stands l (file + suc k)) (inr rest) rest

-- what is beside new files is beside the old ones
old_beside : (new : List NewFile) (ps now : Files) → IsBeside new ps now → IsBeside (old_files new 2 ps) ps now
old_beside new ps now beside = record {
  count = beside.count;
  others = λ k apart. elim (cases_lt k (length ps)) [
    | inl within ↦ beside.others k (λ stands. apart (let e : 2 + k ≡ k + 2 = omega arith in subst (Stands (old_files new 2 ps)) e (old_stands new 2 k ps within (ap (has_number new) e ∙ has_from_stands new (k + 2) stands))))
    | inr past ↦ get_or_past now k [] (omega (arith, past, beside.count)) ∙ sym (get_or_past ps k [] past)
  ];
  small = beside.small;
}

pub gives_back : (new : List NewFile) (ps : Files) → GivesBack (old_files new 2 ps) new ps
gives_back new ps now beside = put_again (old_files new 2 ps) ps now (old_beside new ps now beside) ∙ put_of ps (old_files new 2 ps) (subst (λ (k : ℕ). AreOf ps (old_files new k ps)) (omega arith) (old_of new ps 0 ps refl))

-- the old files are package files
old_are : (new : List NewFile) (file count : ℕ) (ps : Files) → 2 ≤ file → file + length ps ≤ count → ((k : ℕ) → length (bytes_of ps k) ≤ most_bytes) → ArePackageFiles count (old_files new file ps)
old_are new file count [] low short small = tt
old_are new file count (bytes ∷ ps) low short small =
    let rest = old_are new (file + 1) count ps (omega (arith, low)) (omega (arith, short)) (λ k. small (suc k)) in
    old_step new file bytes ps (ArePackageFiles count) (record { low = low; number = omega (arith, short); small = small zero }, rest) rest

pub old_packages : (new : List NewFile) (count : ℕ) (ps : Files) → count ≡ length ps + 2 → IsWithin ps → ArePackageFiles count (old_files new 2 ps)
old_packages new count ps is within = old_are new 2 count ps (omega arith) (omega (arith, is)) within.small

pub old_few : (new : List NewFile) (file : ℕ) (ps : Files) → length (old_files new file ps) ≤ length ps
old_few new file [] = omega arith
old_few new file (bytes ∷ ps) =
    let rest = old_few new (file + 1) ps in
    old_step new file bytes ps (λ (l : List NewFile). length l ≤ length (bytes ∷ ps)) (omega (arith, rest)) (omega (arith, rest))

-- numbers that rise from one on
abbrev pub AreRising : ℕ → List NewFile → Type 0
AreRising lower [] = Unit {0}
AreRising lower (file ∷ files) = (lower ≤ file.file) × AreRising (file.file + 1) files

rising_from : (lower higher : ℕ) (files : List NewFile) → lower ≤ higher → AreRising higher files → AreRising lower files
rising_from lower higher [] le rising = tt
rising_from lower higher (x ∷ files) le rising = (let here = rising.0 in omega (arith, le, here), rising.1)

pub old_rising : (new : List NewFile) (file : ℕ) (ps : Files) → AreRising file (old_files new file ps)
old_rising new file [] = tt
old_rising new file (bytes ∷ ps) =
    let rest = old_rising new (file + 1) ps in
    old_step new file bytes ps (AreRising file) (omega arith, rest) (rising_from file (file + 1) (old_files new (file + 1) ps) (omega arith) rest)
