-- A body that was written reads back.
use Rattle.std.proofs.Common.{◌≡◌, ◌<◌, ◌≤◌, ◌^◌, ◌%◌, ◌/◌, ◌*◌, ℕ, ◌+◌, List, [], ◌∷◌, ◌++◌, length, length-append, take, drop, Bool, true, false, nat_lt, Option, Result, Ok, refl, sym, ◌∙◌, ap, arith}
use Rattle.std.specs.Prelude.{if◌then◌else◌}
use Rattle.std.specs.Int.{w32, w64, w128, from_be_bytes, to_be_bytes}
use Rattle.std.proofs.Math.Nat.{div-div-eq-div-mul}
use Rattle.std.proofs.Math.Seq.{take-append_seam, drop-append_seam}
use Rattle.std.proofs.lemmas.Bool.Decides.{nat_tests}
use Rattle.std.proofs.lemmas.List.{append_assoc, append-nil}
use Rattle.std.proofs.lemmas.Nat.{from_be_bytes-to_be_bytes_4, from_be_bytes-to_be_bytes_8}
use Rattle.plane_disk.specs.Names.{name_at, AreDiskNames}
use Rattle.snap_disk.specs.Body.{most_bytes, number_of, has_number, filled, sized, known, next_file, behind_file, more_files, kept_of, read_body}
use Rattle.snap_disk.specs.BodyText.{file_text, files_text, body_text}
use Rattle.snap_disk.specs.Phase.{IsPackageFile, ArePackageFiles}
use Rattle.snap_disk.specs.declared.new_file.NewFile.{NewFile}
use Rattle.snap_disk.specs.declared.kept.Kept.{Kept}
use Rattle.snap_disk.proofs.NameLemmas.{name_found}
use Rattle.snap_disk.proofs.OldLemmas.{AreRising}

pub else_of : {A : Type 0} (b : Bool) (x y : A) → b ≡ false → (if b then x else y) ≡ y
else_of true x y is = absurd (cc)
else_of false x y is = refl

pub not_below : (a b : ℕ) → b ≤ a → nat_lt a b ≡ false
not_below a b le = grind (arith, nat_tests)

pub front_of : (n : ℕ) (xs ys : List ℕ) → length xs ≡ n → take n (xs ++ ys) ≡ xs
front_of n xs ys is = ap (λ (k : ℕ). take k (xs ++ ys)) (sym is) ∙ take-append_seam xs ys

pub behind_of : (n : ℕ) (xs ys : List ℕ) → length xs ≡ n → drop n (xs ++ ys) ≡ ys
behind_of n xs ys is = ap (λ (k : ℕ). drop k (xs ++ ys)) (sym is) ∙ drop-append_seam xs ys

-- a byte of a number, and the bytes above it
byte_rest : (n m : ℕ) → n / m ≡ n / m % 256 + n / (m * 256) * 256
byte_rest n m = omega (arith, div-div-eq-div-mul n m 256)

-- the bytes of a number of 16 bytes
joined_16 : (n a0 a1 a2 a3 a4 a5 a6 a7 a8 a9 b0 b1 b2 b3 b4 b5 r1 r2 r3 r4 r5 r6 r7 r8 r9 s0 s1 s2 s3 s4 s5 : ℕ) → n ≡ a0 + r1 * 256 → r1 ≡ a1 + r2 * 256 → r2 ≡ a2 + r3 * 256 → r3 ≡ a3 + r4 * 256
    → r4 ≡ a4 + r5 * 256 → r5 ≡ a5 + r6 * 256 → r6 ≡ a6 + r7 * 256 → r7 ≡ a7 + r8 * 256 → r8 ≡ a8 + r9 * 256 → r9 ≡ a9 + s0 * 256 → s0 ≡ b0 + s1 * 256 → s1 ≡ b1 + s2 * 256 → s2 ≡ b2 + s3 * 256 → s3 ≡ b3 + s4 * 256
    → s4 ≡ b4 + s5 * 256 → s5 ≡ b5
    → b5 * 256 ^ 15 + b4 * 256 ^ 14 + b3 * 256 ^ 13 + b2 * 256 ^ 12 + b1 * 256 ^ 11 + b0 * 256 ^ 10 + a9 * 256 ^ 9 + a8 * 256 ^ 8 + a7 * 256 ^ 7 + a6 * 256 ^ 6 + a5 * 256 ^ 5 + a4 * 256 ^ 4 + a3 * 256 ^ 3 + a2 * 256 ^ 2 + a1 * 256 + a0 ≡ n
joined_16 n a0 a1 a2 a3 a4 a5 a6 a7 a8 a9 b0 b1 b2 b3 b4 b5 r1 r2 r3 r4 r5 r6 r7 r8 r9 s0 s1 s2 s3 s4 s5 e0 e1 e2 e3 e4 e5 e6 e7 e8 e9 f0 f1 f2 f3 f4 f5 = omega arith

pub back_16 : (n : ℕ) → n < 2 ^ 128 → from_be_bytes w128 (to_be_bytes w128 n) ≡ n
back_16 n fits =
    let low : n ≡ n % 256 + n / 256 * 256 = omega arith in
    let high : n / 1329227995784915872903807060280344576 ≡ n / 1329227995784915872903807060280344576 % 256 = omega arith in
    joined_16 n (n % 256) (n / 256 % 256) (n / 65536 % 256) (n / 16777216 % 256) (n / 4294967296 % 256) (n / 1099511627776 % 256) (n / 281474976710656 % 256) (n / 72057594037927936 % 256) (n / 18446744073709551616 % 256)
    (n / 4722366482869645213696 % 256) (n / 1208925819614629174706176 % 256) (n / 309485009821345068724781056 % 256) (n / 79228162514264337593543950336 % 256) (n / 20282409603651670423947251286016 % 256)
    (n / 5192296858534827628530496329220096 % 256) (n / 1329227995784915872903807060280344576 % 256) (n / 256) (n / 65536) (n / 16777216) (n / 4294967296) (n / 1099511627776) (n / 281474976710656) (n / 72057594037927936)
    (n / 18446744073709551616) (n / 4722366482869645213696) (n / 1208925819614629174706176) (n / 309485009821345068724781056) (n / 79228162514264337593543950336) (n / 20282409603651670423947251286016)
    (n / 5192296858534827628530496329220096) (n / 1329227995784915872903807060280344576) low (byte_rest n 256) (byte_rest n 65536) (byte_rest n 16777216) (byte_rest n 4294967296) (byte_rest n 1099511627776) (byte_rest n 281474976710656)
    (byte_rest n 72057594037927936) (byte_rest n 18446744073709551616) (byte_rest n 4722366482869645213696) (byte_rest n 1208925819614629174706176) (byte_rest n 309485009821345068724781056) (byte_rest n 79228162514264337593543950336)
    (byte_rest n 20282409603651670423947251286016) (byte_rest n 5192296858534827628530496329220096) high

-- the next file
sized_back : (file named place : ℕ) (bytes rest : List ℕ) → length bytes ≤ most_bytes
    → sized file named place (to_be_bytes w32 (length bytes) ++ (bytes ++ rest)) ≡ Ok (record { file = file; bytes = bytes }, 5 + named + length bytes)
sized_back file named place bytes rest small =
    let four = to_be_bytes w32 (length bytes) in
    let long : 4 ≤ length (four ++ (bytes ++ rest)) = let e = length-append four (bytes ++ rest) in omega (arith, e) in
    let number : from_be_bytes w32 (take 4 (four ++ (bytes ++ rest))) ≡ length bytes = ap (from_be_bytes w32) (front_of 4 four (bytes ++ rest) refl) ∙ from_be_bytes-to_be_bytes_4 (length bytes) (omega (arith, small)) in
    let behind : drop 4 (four ++ (bytes ++ rest)) ≡ bytes ++ rest = behind_of 4 four (bytes ++ rest) refl in
    let whole : length bytes ≤ length (bytes ++ rest) = let e = length-append bytes rest in omega (arith, e) in
    else_of _ _ _ (not_below (length (four ++ (bytes ++ rest))) 4 long)
    ∙ (λ i. filled file named place (number i) (behind i))
    ∙ else_of _ _ _ (not_below most_bytes (length bytes) small)
    ∙ else_of _ _ _ (not_below (length (bytes ++ rest)) (length bytes) whole)
    ∙ ap (λ (b : List ℕ). Ok (record { file = file; bytes = b }, 5 + named + length bytes)) (front_of (length bytes) bytes rest refl)

pub next_back : (names : List (List ℕ)) → AreDiskNames names → (files : List NewFile) (place : ℕ) (file : NewFile) (rest : List ℕ) → IsPackageFile (length names) file → has_number files file.file ≡ false
    → next_file names files place (file_text names file ++ rest) ≡ Ok (file, 5 + length (name_at names file.file) + length file.bytes)
next_back names are files place file rest is apart =
    let name = name_at names file.file in
    let named = length name in
    let four = to_be_bytes w32 (length file.bytes) in
    let tail = four ++ (file.bytes ++ rest) in
    let split : (name ++ (four ++ file.bytes)) ++ rest ≡ name ++ tail = append_assoc name (four ++ file.bytes) rest ∙ ap (λ (l : List ℕ). name ++ l) (append_assoc four file.bytes rest) in
    let long : named ≤ length (name ++ tail) = let e = length-append name tail in omega (arith, e) in
    ap (λ (l : List ℕ). next_file names files place (named ∷ l)) split
    ∙ else_of _ _ _ (not_below (length (name ++ tail)) named long)
    ∙ (λ i. known (number_of names (front_of named name tail refl i)) files named (place + 1) (behind_of named name tail refl i))
    ∙ ap (λ (o : Option ℕ). known o files named (place + 1) tail) (name_found names are file.file is.low is.number)
    ∙ else_of _ _ _ apart
    ∙ sized_back file.file named (place + 1 + named) file.bytes rest is.small

pub behind_text : (names : List (List ℕ)) (file : NewFile) (rest : List ℕ) → drop (5 + length (name_at names file.file) + length file.bytes) (file_text names file ++ rest) ≡ rest
behind_text names file rest =
    let name = name_at names file.file in
    let four = to_be_bytes w32 (length file.bytes) in
    let long : length (file_text names file) ≡ 5 + length name + length file.bytes = let e = length-append name (four ++ file.bytes) in let f = length-append four file.bytes in omega (arith, e, f) in
    behind_of _ (file_text names file) rest long

-- the numbers of these files are below one
abbrev pub AreBelow : ℕ → List NewFile → Type 0
AreBelow bound [] = Unit {0}
AreBelow bound (file ∷ files) = (file.file < bound) × AreBelow bound files

below_more : (bound : ℕ) (files : List NewFile) (file : NewFile) → AreBelow bound files → bound ≤ file.file → AreBelow (file.file + 1) (files ++ file ∷ [])
below_more bound [] file below le = (omega arith, tt)
below_more bound (x ∷ files) file below le = (let here = below.0 in omega (arith, here, le), below_more bound files file below.1 le)

has_none : (bound number : ℕ) (files : List NewFile) → AreBelow bound files → bound ≤ number → has_number files number ≡ false
has_none bound number [] below le = refl
has_none bound number (x ∷ files) below le = let rest = has_none bound number files below.1 le in let here = below.0 in grind (arith, nat_tests, rest, here, le)

files_back : (names : List (List ℕ)) → AreDiskNames names → (lower : ℕ) (before files : List NewFile) (place : ℕ) → ArePackageFiles (length names) files → AreRising lower files → AreBelow lower before
    → more_files names (length files) before place (files_text names files) ≡ Ok (before ++ files)
files_back names are lower before [] place is rising below = ap (λ (l : List NewFile). Ok l) (sym (append-nil before))
files_back names are lower before (x ∷ files) place is rising below =
    let size = 5 + length (name_at names x.file) + length x.bytes in
    let text = file_text names x ++ files_text names files in
    let next = next_back names are before place x (files_text names files) is.0 (has_none lower x.file before below rising.0) in
    ap (λ (r : Result (NewFile × ℕ) ℕ). behind_file r (λ (n : NewFile × ℕ). more_files names (length files) (before ++ n.0 ∷ []) (place + n.1) (drop n.1 text))) next
    ∙ ap (λ (l : List ℕ). more_files names (length files) (before ++ x ∷ []) (place + size) l) (behind_text names x (files_text names files))
    ∙ files_back names are (x.file + 1) (before ++ x ∷ []) files (place + size) is.1 rising.1 (below_more lower before x below rising.0)
    ∙ ap (λ (l : List NewFile). Ok l) (append_assoc before (x ∷ []) files)

-- the whole
pub body_back : (names : List (List ℕ)) → AreDiskNames names → (kept : Kept) → kept.pending.deadline < 2 ^ 64 → kept.pending.holder < 2 ^ 128 → length kept.files < 2 ^ 32 → ArePackageFiles (length names) kept.files → AreRising 2 kept.files
    → read_body names (body_text names 2 kept) ≡ Ok kept
body_back names are kept deadline holder few is rising =
    let d = to_be_bytes w64 kept.pending.deadline in
    let h = to_be_bytes w128 kept.pending.holder in
    let n = to_be_bytes w32 (length kept.files) in
    let t = files_text names kept.files in
    let long_n : 4 ≤ length (n ++ t) = let e = length-append n t in omega (arith, e) in
    let long_h : 16 ≤ length (h ++ (n ++ t)) = let e = length-append h (n ++ t) in omega (arith, e) in
    let long_d : 8 ≤ length (d ++ (h ++ (n ++ t))) = let e = length-append d (h ++ (n ++ t)) in omega (arith, e) in
    let behind_d : drop 8 (d ++ (h ++ (n ++ t))) ≡ h ++ (n ++ t) = behind_of 8 d (h ++ (n ++ t)) refl in
    let behind_h : drop 16 (drop 8 (d ++ (h ++ (n ++ t)))) ≡ n ++ t = ap (λ (l : List ℕ). drop 16 l) behind_d ∙ behind_of 16 h (n ++ t) refl in
    let number_d : from_be_bytes w64 (take 8 (d ++ (h ++ (n ++ t)))) ≡ kept.pending.deadline = ap (from_be_bytes w64) (front_of 8 d (h ++ (n ++ t)) refl) ∙ from_be_bytes-to_be_bytes_8 kept.pending.deadline deadline in
    let number_h : from_be_bytes w128 (take 16 (drop 8 (d ++ (h ++ (n ++ t))))) ≡ kept.pending.holder = ap (λ (l : List ℕ). from_be_bytes w128 (take 16 l)) behind_d ∙ ap (from_be_bytes w128) (front_of 16 h (n ++ t) refl)
    ∙ back_16 kept.pending.holder holder in
    let number_n : from_be_bytes w32 (take 4 (drop 16 (drop 8 (d ++ (h ++ (n ++ t)))))) ≡ length kept.files = ap (λ (l : List ℕ). from_be_bytes w32 (take 4 l)) behind_h ∙ ap (from_be_bytes w32) (front_of 4 n t refl)
    ∙ from_be_bytes-to_be_bytes_4 (length kept.files) few in
    let rest : drop 4 (drop 16 (drop 8 (d ++ (h ++ (n ++ t))))) ≡ t = ap (λ (l : List ℕ). drop 4 l) behind_h ∙ behind_of 4 n t refl in
    let e_h : 16 ≤ length (drop 8 (d ++ (h ++ (n ++ t)))) = let e = ap length behind_d in omega (arith, e, long_h) in
    let e_n : 4 ≤ length (drop 16 (drop 8 (d ++ (h ++ (n ++ t))))) = let e = ap length behind_h in omega (arith, e, long_n) in
    else_of _ _ _ (not_below _ 8 long_d) ∙ else_of _ _ _ (not_below _ 16 e_h) ∙ else_of _ _ _ (not_below _ 4 e_n)
    ∙ (λ i. kept_of (number_d i) (number_h i) (more_files names (number_n i) [] 29 (rest i)))
    ∙ ap (kept_of kept.pending.deadline kept.pending.holder) (files_back names are 2 [] kept.files 29 is rising tt)
