-- What a body spells is what is written of it.
use Rattle.std.proofs.Common.{◌≡◌, ◌<◌, ◌≤◌, ◌^◌, ◌%◌, ◌/◌, ◌*◌, ◌+◌, ◌⊎◌, ℕ, zero, suc, List, [], ◌∷◌, ◌++◌, length, length-append, get_or, All, refl, sym, ◌∙◌, ap, subst, arith}
use Rattle.std.specs.Int.{w32, w64, w128, from_be_bytes, to_be_bytes}
use Rattle.std.proofs.Math.Nat.{div-div-eq-div-mul}
use Rattle.std.proofs.lemmas.Nat.{be_bytes_4, be_bytes_8, from_be_bytes-to_be_bytes_4, from_be_bytes-to_be_bytes_8}
use Rattle.plane_disk.specs.Names.{name_at, AreDiskNames}
use Rattle.snap_disk.specs.BodyText.{file_text, files_text, body_text}
use Rattle.snap_disk.specs.Grammar.{IsVersion, IsNameOf, SpellsFile, SpellsFiles, SpellsBody, AreApart, CanBeKept}
use Rattle.snap_disk.specs.Phase.{Stands, IsPackageFile, ArePackageFiles}
use Rattle.snap_disk.specs.declared.new_file.NewFile.{NewFile}
use Rattle.snap_disk.specs.declared.kept.Kept.{Kept}
use Rattle.snap_disk.proofs.ReadBackLemmas.{back_16}

-- ---- numbers of 16 bytes

-- the lowest byte of a number, and what stands above it
digit : (q b r : ℕ) → b < 256 → q ≡ b + r * 256 → q % 256 ≡ b
digit q b r small is = omega arith

above : (q b r : ℕ) → b < 256 → q ≡ b + r * 256 → q / 256 ≡ r
above q b r small is = omega arith

-- the same of what stands above a power of 256
above_at : (n m q b r : ℕ) → n / m ≡ q → b < 256 → q ≡ b + r * 256 → n / (m * 256) ≡ r
above_at n m q b r at small is = sym (div-div-eq-div-mul n m 256) ∙ ap (λ (k : ℕ). k / 256) at ∙ above q b r small is

digit_at : (n m q b r : ℕ) → n / m ≡ q → b < 256 → q ≡ b + r * 256 → n / m % 256 ≡ b
digit_at n m q b r at small is = ap (λ (k : ℕ). k % 256) at ∙ digit q b r small is

bytes_16 : (b0 b1 b2 b3 b4 b5 b6 b7 b8 b9 b10 b11 b12 b13 b14 b15 n : ℕ) → b0 < 256 → b1 < 256 → b2 < 256 → b3 < 256 → b4 < 256 → b5 < 256 → b6 < 256 → b7 < 256 → b8 < 256 → b9 < 256 → b10 < 256 → b11 < 256 → b12 < 256 → b13 < 256
    → b14 < 256 → b15 < 256
    → n ≡ b0 * 256 ^ 15 + b1 * 256 ^ 14 + b2 * 256 ^ 13 + b3 * 256 ^ 12 + b4 * 256 ^ 11 + b5 * 256 ^ 10 + b6 * 256 ^ 9 + b7 * 256 ^ 8 + b8 * 256 ^ 7 + b9 * 256 ^ 6 + b10 * 256 ^ 5 + b11 * 256 ^ 4 + b12 * 256 ^ 3 + b13 * 256 ^ 2 + b14 * 256
    + b15
    → to_be_bytes w128 n ≡ b0 ∷ b1 ∷ b2 ∷ b3 ∷ b4 ∷ b5 ∷ b6 ∷ b7 ∷ b8 ∷ b9 ∷ b10 ∷ b11 ∷ b12 ∷ b13 ∷ b14 ∷ b15 ∷ []
bytes_16 b0 b1 b2 b3 b4 b5 b6 b7 b8 b9 b10 b11 b12 b13 b14 b15 n s0 s1 s2 s3 s4 s5 s6 s7 s8 s9 s10 s11 s12 s13 s14 s15 is =
    let r15 = b0 in
    let r14 = b1 + r15 * 256 in
    let r13 = b2 + r14 * 256 in
    let r12 = b3 + r13 * 256 in
    let r11 = b4 + r12 * 256 in
    let r10 = b5 + r11 * 256 in
    let r9 = b6 + r10 * 256 in
    let r8 = b7 + r9 * 256 in
    let r7 = b8 + r8 * 256 in
    let r6 = b9 + r7 * 256 in
    let r5 = b10 + r6 * 256 in
    let r4 = b11 + r5 * 256 in
    let r3 = b12 + r4 * 256 in
    let r2 = b13 + r3 * 256 in
    let r1 = b14 + r2 * 256 in
    let whole : n ≡ b15 + r1 * 256 = omega (arith, is) in
    let d0 : n % 256 ≡ b15 = digit n b15 r1 s15 whole in
    let a1 : n / 256 ≡ r1 = above n b15 r1 s15 whole in
    let d1 : n / 256 % 256 ≡ b14 = digit_at n 256 r1 b14 r2 a1 s14 refl in
    let a2 : n / 65536 ≡ r2 = above_at n 256 r1 b14 r2 a1 s14 refl in
    let d2 : n / 65536 % 256 ≡ b13 = digit_at n 65536 r2 b13 r3 a2 s13 refl in
    let a3 : n / 16777216 ≡ r3 = above_at n 65536 r2 b13 r3 a2 s13 refl in
    let d3 : n / 16777216 % 256 ≡ b12 = digit_at n 16777216 r3 b12 r4 a3 s12 refl in
    let a4 : n / 4294967296 ≡ r4 = above_at n 16777216 r3 b12 r4 a3 s12 refl in
    let d4 : n / 4294967296 % 256 ≡ b11 = digit_at n 4294967296 r4 b11 r5 a4 s11 refl in
    let a5 : n / 1099511627776 ≡ r5 = above_at n 4294967296 r4 b11 r5 a4 s11 refl in
    let d5 : n / 1099511627776 % 256 ≡ b10 = digit_at n 1099511627776 r5 b10 r6 a5 s10 refl in
    let a6 : n / 281474976710656 ≡ r6 = above_at n 1099511627776 r5 b10 r6 a5 s10 refl in
    let d6 : n / 281474976710656 % 256 ≡ b9 = digit_at n 281474976710656 r6 b9 r7 a6 s9 refl in
    let a7 : n / 72057594037927936 ≡ r7 = above_at n 281474976710656 r6 b9 r7 a6 s9 refl in
    let d7 : n / 72057594037927936 % 256 ≡ b8 = digit_at n 72057594037927936 r7 b8 r8 a7 s8 refl in
    let a8 : n / 18446744073709551616 ≡ r8 = above_at n 72057594037927936 r7 b8 r8 a7 s8 refl in
    let d8 : n / 18446744073709551616 % 256 ≡ b7 = digit_at n 18446744073709551616 r8 b7 r9 a8 s7 refl in
    let a9 : n / 4722366482869645213696 ≡ r9 = above_at n 18446744073709551616 r8 b7 r9 a8 s7 refl in
    let d9 : n / 4722366482869645213696 % 256 ≡ b6 = digit_at n 4722366482869645213696 r9 b6 r10 a9 s6 refl in
    let a10 : n / 1208925819614629174706176 ≡ r10 = above_at n 4722366482869645213696 r9 b6 r10 a9 s6 refl in
    let d10 : n / 1208925819614629174706176 % 256 ≡ b5 = digit_at n 1208925819614629174706176 r10 b5 r11 a10 s5 refl in
    let a11 : n / 309485009821345068724781056 ≡ r11 = above_at n 1208925819614629174706176 r10 b5 r11 a10 s5 refl in
    let d11 : n / 309485009821345068724781056 % 256 ≡ b4 = digit_at n 309485009821345068724781056 r11 b4 r12 a11 s4 refl in
    let a12 : n / 79228162514264337593543950336 ≡ r12 = above_at n 309485009821345068724781056 r11 b4 r12 a11 s4 refl in
    let d12 : n / 79228162514264337593543950336 % 256 ≡ b3 = digit_at n 79228162514264337593543950336 r12 b3 r13 a12 s3 refl in
    let a13 : n / 20282409603651670423947251286016 ≡ r13 = above_at n 79228162514264337593543950336 r12 b3 r13 a12 s3 refl in
    let d13 : n / 20282409603651670423947251286016 % 256 ≡ b2 = digit_at n 20282409603651670423947251286016 r13 b2 r14 a13 s2 refl in
    let a14 : n / 5192296858534827628530496329220096 ≡ r14 = above_at n 20282409603651670423947251286016 r13 b2 r14 a13 s2 refl in
    let d14 : n / 5192296858534827628530496329220096 % 256 ≡ b1 = digit_at n 5192296858534827628530496329220096 r14 b1 r15 a14 s1 refl in
    let a15 : n / 1329227995784915872903807060280344576 ≡ r15 = above_at n 5192296858534827628530496329220096 r14 b1 r15 a14 s1 refl in
    let d15 : n / 1329227995784915872903807060280344576 % 256 ≡ b0 = ap (λ (k : ℕ). k % 256) a15 ∙ digit b0 b0 0 s0 (omega arith) in
    λ i. d15 i ∷ d14 i ∷ d13 i ∷ d12 i ∷ d11 i ∷ d10 i ∷ d9 i ∷ d8 i ∷ d7 i ∷ d6 i ∷ d5 i ∷ d4 i ∷ d3 i ∷ d2 i ∷ d1 i ∷ d0 i ∷ []

pub be_bytes_16 : (bs : List ℕ) (n : ℕ) → length bs ≡ 16 → ((i : ℕ) → i < 16 → get_or bs i 0 < 256) → n ≡ from_be_bytes w128 bs → to_be_bytes w128 n ≡ bs
be_bytes_16 [] n long small is = absurd (omega (arith, long))
be_bytes_16 (b0 ∷ []) n long small is = absurd (omega (arith, long))
be_bytes_16 (b0 ∷ b1 ∷ []) n long small is = absurd (omega (arith, long))
be_bytes_16 (b0 ∷ b1 ∷ b2 ∷ []) n long small is = absurd (omega (arith, long))
be_bytes_16 (b0 ∷ b1 ∷ b2 ∷ b3 ∷ []) n long small is = absurd (omega (arith, long))
be_bytes_16 (b0 ∷ b1 ∷ b2 ∷ b3 ∷ b4 ∷ []) n long small is = absurd (omega (arith, long))
be_bytes_16 (b0 ∷ b1 ∷ b2 ∷ b3 ∷ b4 ∷ b5 ∷ []) n long small is = absurd (omega (arith, long))
be_bytes_16 (b0 ∷ b1 ∷ b2 ∷ b3 ∷ b4 ∷ b5 ∷ b6 ∷ []) n long small is = absurd (omega (arith, long))
be_bytes_16 (b0 ∷ b1 ∷ b2 ∷ b3 ∷ b4 ∷ b5 ∷ b6 ∷ b7 ∷ []) n long small is = absurd (omega (arith, long))
be_bytes_16 (b0 ∷ b1 ∷ b2 ∷ b3 ∷ b4 ∷ b5 ∷ b6 ∷ b7 ∷ b8 ∷ []) n long small is = absurd (omega (arith, long))
be_bytes_16 (b0 ∷ b1 ∷ b2 ∷ b3 ∷ b4 ∷ b5 ∷ b6 ∷ b7 ∷ b8 ∷ b9 ∷ []) n long small is = absurd (omega (arith, long))
be_bytes_16 (b0 ∷ b1 ∷ b2 ∷ b3 ∷ b4 ∷ b5 ∷ b6 ∷ b7 ∷ b8 ∷ b9 ∷ b10 ∷ []) n long small is = absurd (omega (arith, long))
be_bytes_16 (b0 ∷ b1 ∷ b2 ∷ b3 ∷ b4 ∷ b5 ∷ b6 ∷ b7 ∷ b8 ∷ b9 ∷ b10 ∷ b11 ∷ []) n long small is = absurd (omega (arith, long))
be_bytes_16 (b0 ∷ b1 ∷ b2 ∷ b3 ∷ b4 ∷ b5 ∷ b6 ∷ b7 ∷ b8 ∷ b9 ∷ b10 ∷ b11 ∷ b12 ∷ []) n long small is = absurd (omega (arith, long))
be_bytes_16 (b0 ∷ b1 ∷ b2 ∷ b3 ∷ b4 ∷ b5 ∷ b6 ∷ b7 ∷ b8 ∷ b9 ∷ b10 ∷ b11 ∷ b12 ∷ b13 ∷ []) n long small is = absurd (omega (arith, long))
be_bytes_16 (b0 ∷ b1 ∷ b2 ∷ b3 ∷ b4 ∷ b5 ∷ b6 ∷ b7 ∷ b8 ∷ b9 ∷ b10 ∷ b11 ∷ b12 ∷ b13 ∷ b14 ∷ []) n long small is = absurd (omega (arith, long))
be_bytes_16 (b0 ∷ b1 ∷ b2 ∷ b3 ∷ b4 ∷ b5 ∷ b6 ∷ b7 ∷ b8 ∷ b9 ∷ b10 ∷ b11 ∷ b12 ∷ b13 ∷ b14 ∷ b15 ∷ []) n long small is =
    bytes_16 b0 b1 b2 b3 b4 b5 b6 b7 b8 b9 b10 b11 b12 b13 b14 b15 n (small 0 (omega arith)) (small 1 (omega arith)) (small 2 (omega arith)) (small 3 (omega arith)) (small 4 (omega arith)) (small 5 (omega arith)) (small 6 (omega arith))
    (small 7 (omega arith)) (small 8 (omega arith)) (small 9 (omega arith)) (small 10 (omega arith)) (small 11 (omega arith)) (small 12 (omega arith)) (small 13 (omega arith)) (small 14 (omega arith)) (small 15 (omega arith)) is
be_bytes_16 (b0 ∷ b1 ∷ b2 ∷ b3 ∷ b4 ∷ b5 ∷ b6 ∷ b7 ∷ b8 ∷ b9 ∷ b10 ∷ b11 ∷ b12 ∷ b13 ∷ b14 ∷ b15 ∷ x ∷ bs) n long small is = absurd (omega (arith, long))

-- ---- what is written spells it

files_spell : (names : List (List ℕ)) (before files : List NewFile) → ArePackageFiles (length names) files → AreApart before files → SpellsFiles names before (files_text names files) files
files_spell names before [] are apart = refl
files_spell names before (x ∷ files) are apart = (
  file_text names x,
  files_text names files,
  refl,
  record {
    name = name_at names x.file;
    size = to_be_bytes w32 (length x.bytes);
    text = refl;
    named = record { low = are.0.low; number = are.0.number; named = refl };
    first = apart.0;
    four = refl;
    value = from_be_bytes-to_be_bytes_4 (length x.bytes) (let small = are.0.small in omega (arith, small));
    small = are.0.small;
  },
  files_spell names (before ++ x ∷ []) files are.1 apart.1,
)

pub written_spells : (names : List (List ℕ)) (version : ℕ) (kept : Kept) → IsVersion version → CanBeKept names kept → SpellsBody names (body_text names version kept) kept
written_spells names version kept known can = record {
  deadline = to_be_bytes w64 kept.pending.deadline;
  holder = to_be_bytes w128 kept.pending.holder;
  count = to_be_bytes w32 (length kept.files);
  rest = files_text names kept.files;
  head = record { version = version; text = refl; known = known; eight = refl; sixteen = refl; four = refl };
  until = from_be_bytes-to_be_bytes_8 kept.pending.deadline can.deadline;
  whose = back_16 kept.pending.holder can.holder;
  many = from_be_bytes-to_be_bytes_4 (length kept.files) can.few;
  files = files_spell names [] kept.files can.files can.apart;
}

-- ---- what spells it is written so

abbrev Bytes : List ℕ → Type 0
Bytes [] = Unit {0}
Bytes (byte ∷ bytes) = (byte < 256) × Bytes bytes

each_byte : (bytes : List ℕ) → All (λ byte. byte < 256) bytes → Bytes bytes
each_byte [] all = tt
each_byte (byte ∷ bytes) all = (all 0 byte (omega arith), each_byte bytes (λ k d within. all (suc k) d (omega (arith, within))))

front_all : (xs ys : List ℕ) → Bytes (xs ++ ys) → Bytes xs
front_all [] ys all = tt
front_all (x ∷ xs) ys all = (all.0, front_all xs ys all.1)

behind_all : (xs ys : List ℕ) → Bytes (xs ++ ys) → Bytes ys
behind_all [] ys all = all
behind_all (x ∷ xs) ys all = behind_all xs ys all.1

at_all : (xs : List ℕ) → Bytes xs → (i : ℕ) → get_or xs i 0 < 256
at_all [] all i = omega arith
at_all (x ∷ xs) all zero = all.0
at_all (x ∷ xs) all (suc i) = at_all xs all.1 i

file_written : (names : List (List ℕ)) (before : List NewFile) (bytes : List ℕ) (file : NewFile) → Bytes bytes → SpellsFile names before bytes file → bytes ≡ file_text names file
file_written names before bytes file all s =
    let whole : Bytes (length s.name ∷ (s.name ++ (s.size ++ file.bytes))) = subst Bytes s.text all in
    let small : Bytes s.size = front_all s.size file.bytes (behind_all s.name (s.size ++ file.bytes) whole.1) in
    let size : s.size ≡ to_be_bytes w32 (length file.bytes) = sym (be_bytes_4 s.size (length file.bytes) s.four (at_all s.size small) (sym s.value)) in
    s.text ∙ (λ i. length (sym s.named.named i) ∷ (sym s.named.named i ++ (size i ++ file.bytes)))

files_written : (names : List (List ℕ)) (before : List NewFile) (bytes : List ℕ) (files : List NewFile) → Bytes bytes → SpellsFiles names before bytes files → bytes ≡ files_text names files
files_written names before bytes [] all s = s
files_written names before bytes (x ∷ files) all s =
    let whole : Bytes (s.0 ++ s.1) = subst Bytes s.2 all in
    let here = file_written names before s.0 x (front_all s.0 s.1 whole) s.3 in
    let rest = files_written names (before ++ x ∷ []) s.1 files (behind_all s.0 s.1 whole) s.4 in
    s.2 ∙ (λ i. here i ++ rest i)

pub spelled_is_written : (names : List (List ℕ)) (bytes : List ℕ) (kept : Kept) → All (λ byte. byte < 256) bytes → SpellsBody names bytes kept → (version : ℕ) × IsVersion version × (bytes ≡ body_text names version kept)
spelled_is_written names bytes kept all s =
    let h = s.head in
    let whole : Bytes (h.version ∷ (s.deadline ++ (s.holder ++ (s.count ++ s.rest)))) = subst Bytes h.text (each_byte bytes all) in
    let all_h = behind_all s.deadline (s.holder ++ (s.count ++ s.rest)) whole.1 in
    let all_n = behind_all s.holder (s.count ++ s.rest) all_h in
    let deadline : s.deadline ≡ to_be_bytes w64 kept.pending.deadline = sym (be_bytes_8 s.deadline kept.pending.deadline h.eight (at_all s.deadline (front_all s.deadline (s.holder ++ (s.count ++ s.rest)) whole.1)) (sym s.until)) in
    let small_h = at_all s.holder (front_all s.holder (s.count ++ s.rest) all_h) in
    let holder : s.holder ≡ to_be_bytes w128 kept.pending.holder = sym (be_bytes_16 s.holder kept.pending.holder h.sixteen (λ i within. small_h i) (sym s.whose)) in
    let count : s.count ≡ to_be_bytes w32 (length kept.files) = sym (be_bytes_4 s.count (length kept.files) h.four (at_all s.count (front_all s.count s.rest all_n)) (sym s.many)) in
    let rest : s.rest ≡ files_text names kept.files = files_written names [] s.rest kept.files (behind_all s.count s.rest all_n) s.files in
    (h.version, h.known, h.text ∙ (λ i. h.version ∷ (deadline i ++ (holder i ++ (count i ++ rest i)))))
