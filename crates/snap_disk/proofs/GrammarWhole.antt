-- The reading of a body is what its grammar says: all files, the head, and that each text is one or the other.
use Rattle.std.proofs.Common.{◌≡◌, ◌≢◌, ◌<◌, ◌≤◌, ◌⊎◌, inl, inr, ⊎_elim, ℕ, zero, suc, ◌+◌, ◌-◌, ◌||◌, List, [], ◌∷◌, ◌++◌, length, length-append, length-take, length-drop, take-append-drop, take, drop, Bool, true, false, nat_eq, nat_lt}
use Rattle.std.proofs.Common.{Option, Some, None, Result, Ok, Err, refl, sym, ◌∙◌, ap, subst, arith}
use Rattle.std.specs.Prelude.{◌↔◌, if◌then◌else◌}
use Rattle.std.specs.Int.{w32, w64, w128, from_be_bytes}
use Rattle.std.proofs.lemmas.Bool.{cases_eq, cases_lt}
use Rattle.std.proofs.lemmas.Bool.Decides.{nat_tests}
use Rattle.std.proofs.lemmas.List.{append_assoc, append-nil}
use Rattle.plane_disk.specs.Names.{AreDiskNames}
use Rattle.snap_disk.specs.Body.{most_bytes, number_of, behind_file, next_file, more_files, kept_of, read_fields, read_body}
use Rattle.snap_disk.specs.Grammar.{IsNameOf, SpellsFile, SpellsFiles, FileWrong, FilesWrong, IsVersion, IsHead, SpellsBody, VersionWrong, HeadCut, HeadWrong, RestWrong, IsFirstWrongPlace}
use Rattle.snap_disk.specs.Phase.{Stands}
use Rattle.snap_disk.specs.declared.new_file.NewFile.{NewFile}
use Rattle.snap_disk.specs.declared.kept.Kept.{Kept}
use Rattle.snap_disk.proofs.ReadBackLemmas.{else_of, not_below, front_of, behind_of}
use Rattle.snap_disk.proofs.GrammarLemmas.{then_of, below, found_name, find_name, stands_test, file_reads, file_refuses}

-- ---- all files

-- what stands behind a file that reads so
behind : (names : List (List ℕ)) (more : ℕ) (before : List NewFile) (place : ℕ) (bytes : List ℕ) (r : Result (NewFile × ℕ) ℕ) → next_file names before place bytes ≡ r
    → more_files names (suc more) before place bytes ≡ behind_file r (λ next. more_files names more (before ++ next.0 ∷ []) (place + next.1) (drop next.1 bytes))
behind names more before place bytes r is = ap (λ (r : Result (NewFile × ℕ) ℕ). behind_file r (λ next. more_files names more (before ++ next.0 ∷ []) (place + next.1) (drop next.1 bytes))) is

file_passes : (names : List (List ℕ)) → AreDiskNames names → (more : ℕ) (before : List NewFile) (place : ℕ) (bytes front rest : List ℕ) (file : NewFile) → bytes ≡ front ++ rest → SpellsFile names before front file
    → more_files names (suc more) before place bytes ≡ more_files names more (before ++ file ∷ []) (place + length front) rest
file_passes names are more before place bytes front rest file split s =
    ap (more_files names (suc more) before place) split
    ∙ behind names more before place (front ++ rest) (Ok (file, length front)) (file_reads names are before place front rest file s)
    ∙ ap (more_files names more (before ++ file ∷ []) (place + length front)) (behind_of (length front) front rest refl)

pub files_read : (names : List (List ℕ)) → AreDiskNames names → (before files : List NewFile) (place : ℕ) (bytes : List ℕ) → SpellsFiles names before bytes files
    → more_files names (length files) before place bytes ≡ Ok (before ++ files)
files_read names are before [] place bytes s = ap (λ (l : List ℕ). more_files names zero before place l) s ∙ ap (λ (l : List NewFile). Ok l) (sym (append-nil before))
files_read names are before (x ∷ files) place bytes s =
    file_passes names are (length files) before place bytes s.0 s.1 x s.2 s.3
    ∙ files_read names are (before ++ x ∷ []) files (place + length s.0) s.1 s.4
    ∙ ap (λ (l : List NewFile). Ok l) (append_assoc before (x ∷ []) files)

pub files_refuse : (names : List (List ℕ)) → AreDiskNames names → (more : ℕ) (before : List NewFile) (place k : ℕ) (bytes : List ℕ) → FilesWrong names before more bytes k
    → more_files names more before place bytes ≡ Err (place + k)
files_refuse names are zero before place k [] w = absurd (w.0 refl)
files_refuse names are zero before place k (b ∷ bytes) w = ap (λ (n : ℕ). Err n) (let e = w.1 in omega (arith, e))
files_refuse names are (suc more) before place k bytes (inl w) = behind names more before place bytes (Err (place + k)) (file_refuses names are before place k bytes w)
files_refuse names are (suc more) before place k bytes (inr w) =
    file_passes names are more before place bytes w.1 w.2 w.0 w.4 w.5
    ∙ files_refuse names are more (before ++ w.0 ∷ []) (place + length w.1) w.3 w.2 w.7
    ∙ ap (λ (n : ℕ). Err n) (let e = w.6 in omega (arith, e))

-- ---- the head

version_is : (v : ℕ) → IsVersion v → (nat_eq v 1 || nat_eq v 2) ≡ true
version_is v (inl e) = ap (λ (n : ℕ). nat_eq n 1 || nat_eq n 2) e
version_is v (inr e) = ap (λ (n : ℕ). nat_eq n 1 || nat_eq n 2) e

version_is_not : (v : ℕ) → (IsVersion v → ⊥) → (nat_eq v 1 || nat_eq v 2) ≡ false
version_is_not v none = elim (cases_eq v 1) [
  | inl e ↦ absurd (none (inl e))
  | inr one ↦ elim (cases_eq v 2) [
    | inl e ↦ absurd (none (inr e))
    | inr two ↦ grind (arith, nat_tests, one, two)
  ]
]

version_test : (v : ℕ) → IsVersion v ⊎ (IsVersion v → ⊥)
version_test v = elim (cases_eq v 1) [
  | inl e ↦ inl (inl e)
  | inr one ↦ elim (cases_eq v 2) [
    | inl e ↦ inl (inr e)
    | inr two ↦ inr (λ is. ⊎_elim one two is)
  ]
]

fields_of : (names : List (List ℕ)) (version : ℕ) (bytes : List ℕ) → IsVersion version → read_body names (version ∷ bytes) ≡ read_fields names bytes
fields_of names version bytes is = then_of _ _ _ (version_is version is)

pub head_reads : (names : List (List ℕ)) (bytes d h n t : List ℕ) → IsHead bytes d h n t
    → read_body names bytes ≡ kept_of (from_be_bytes w64 d) (from_be_bytes w128 h) (more_files names (from_be_bytes w32 n) [] 29 t)
head_reads names bytes d h n t is =
    let long_n : 4 ≤ length (n ++ t) = let e = length-append n t in omega (arith, e, is.four) in
    let long_h : 16 ≤ length (h ++ (n ++ t)) = let e = length-append h (n ++ t) in omega (arith, e, is.sixteen) in
    let long_d : 8 ≤ length (d ++ (h ++ (n ++ t))) = let e = length-append d (h ++ (n ++ t)) in omega (arith, e, is.eight) in
    let behind_d : drop 8 (d ++ (h ++ (n ++ t))) ≡ h ++ (n ++ t) = behind_of 8 d (h ++ (n ++ t)) is.eight in
    let behind_h : drop 16 (drop 8 (d ++ (h ++ (n ++ t)))) ≡ n ++ t = ap (λ (l : List ℕ). drop 16 l) behind_d ∙ behind_of 16 h (n ++ t) is.sixteen in
    let number_d : from_be_bytes w64 (take 8 (d ++ (h ++ (n ++ t)))) ≡ from_be_bytes w64 d = ap (from_be_bytes w64) (front_of 8 d (h ++ (n ++ t)) is.eight) in
    let number_h : from_be_bytes w128 (take 16 (drop 8 (d ++ (h ++ (n ++ t))))) ≡ from_be_bytes w128 h = ap (λ (l : List ℕ). from_be_bytes w128 (take 16 l)) behind_d ∙ ap (from_be_bytes w128) (front_of 16 h (n ++ t) is.sixteen) in
    let number_n : from_be_bytes w32 (take 4 (drop 16 (drop 8 (d ++ (h ++ (n ++ t)))))) ≡ from_be_bytes w32 n = ap (λ (l : List ℕ). from_be_bytes w32 (take 4 l)) behind_h ∙ ap (from_be_bytes w32) (front_of 4 n t is.four) in
    let rest : drop 4 (drop 16 (drop 8 (d ++ (h ++ (n ++ t))))) ≡ t = ap (λ (l : List ℕ). drop 4 l) behind_h ∙ behind_of 4 n t is.four in
    let e_h : 16 ≤ length (drop 8 (d ++ (h ++ (n ++ t)))) = let e = ap length behind_d in omega (arith, e, long_h) in
    let e_n : 4 ≤ length (drop 16 (drop 8 (d ++ (h ++ (n ++ t))))) = let e = ap length behind_h in omega (arith, e, long_n) in
    ap (read_body names) is.text ∙ fields_of names is.version (d ++ (h ++ (n ++ t))) is.known
    ∙ else_of _ _ _ (not_below _ 8 long_d) ∙ else_of _ _ _ (not_below _ 16 e_h) ∙ else_of _ _ _ (not_below _ 4 e_n)
    ∙ (λ i. kept_of (number_d i) (number_h i) (more_files names (number_n i) [] 29 (rest i)))

fields_cut : (names : List (List ℕ)) (bytes : List ℕ) (place : ℕ) → HeadCut (length bytes) place → read_fields names bytes ≡ Err place
fields_cut names bytes place (inl c) = then_of _ _ _ (below (length bytes) 8 c.0) ∙ ap (λ (n : ℕ). Err n) (sym c.1)
fields_cut names bytes place (inr (inl c)) =
    let e = length-drop 8 bytes in
    else_of _ _ _ (not_below (length bytes) 8 c.0) ∙ then_of _ _ _ (below (length (drop 8 bytes)) 16 (let s = c.1 in omega (arith, e, s))) ∙ ap (λ (n : ℕ). Err n) (sym c.2)
fields_cut names bytes place (inr (inr c)) =
    let e = length-drop 8 bytes in
    let f = length-drop 16 (drop 8 bytes) in
    let long = c.0 in
    let short = c.1 in
    else_of _ _ _ (not_below (length bytes) 8 (omega (arith, long))) ∙ else_of _ _ _ (not_below (length (drop 8 bytes)) 16 (omega (arith, e, long)))
    ∙ then_of _ _ _ (below (length (drop 16 (drop 8 bytes))) 4 (omega (arith, e, f, short))) ∙ ap (λ (n : ℕ). Err n) (sym c.2)

-- ---- a whole body

pub body_reads : (names : List (List ℕ)) → AreDiskNames names → (bytes : List ℕ) (kept : Kept) → SpellsBody names bytes kept → read_body names bytes ≡ Ok kept
body_reads names are bytes kept s =
    head_reads names bytes s.deadline s.holder s.count s.rest s.head
    ∙ (λ i. kept_of (s.until i) (s.whose i) (more_files names (s.many i) [] 29 s.rest))
    ∙ ap (kept_of kept.pending.deadline kept.pending.holder) (files_read names are [] kept.files 29 s.rest s.files)

version_refuses : (names : List (List ℕ)) (bytes : List ℕ) (place : ℕ) → VersionWrong bytes place → read_body names bytes ≡ Err place
version_refuses names [] place w = ap (λ (n : ℕ). Err n) (sym w.is)
version_refuses names (version ∷ bytes) place w = else_of _ _ _ (version_is_not version (w.wrong version bytes refl)) ∙ ap (λ (n : ℕ). Err n) (sym w.is)

pub body_refuses : (names : List (List ℕ)) → AreDiskNames names → (bytes : List ℕ) (place : ℕ) → IsFirstWrongPlace names bytes place → read_body names bytes ≡ Err place
body_refuses names are bytes place (inl w) = version_refuses names bytes place w
body_refuses names are bytes place (inr (inl w)) = ap (read_body names) w.text ∙ fields_of names w.version w.rest w.known ∙ fields_cut names w.rest place w.cut
body_refuses names are bytes place (inr (inr w)) =
    head_reads names bytes w.deadline w.holder w.count w.rest w.head
    ∙ ap (kept_of (from_be_bytes w64 w.deadline) (from_be_bytes w128 w.holder)) (files_refuse names are (from_be_bytes w32 w.count) [] 29 w.behind w.rest w.files)
    ∙ ap (λ (n : ℕ). Err n) (sym w.is)

-- ---- each text is one or the other

abbrev OneFile : List (List ℕ) → List NewFile → List ℕ → Type 0
OneFile names before bytes = ((place : ℕ) × FileWrong names before bytes place)
    ⊎ ((file : NewFile) × (front : List ℕ) × (rest : List ℕ) × (bytes ≡ front ++ rest) × SpellsFile names before front file)

split_file : (name size rest : List ℕ) (n : ℕ) → length name ∷ (name ++ (size ++ rest)) ≡ (length name ∷ (name ++ (size ++ take n rest))) ++ drop n rest
split_file name size rest n = ap (λ (l : List ℕ). length name ∷ l)
    (ap (λ (l : List ℕ). name ++ (size ++ l)) (sym (take-append-drop n rest)) ∙ ap (λ (l : List ℕ). name ++ l) (sym (append_assoc size (take n rest) (drop n rest)))
    ∙ sym (append_assoc name (size ++ take n rest) (drop n rest)))

bytes_total : (names : List (List ℕ)) (before : List NewFile) (name : List ℕ) (file : ℕ) → IsNameOf names name file → (Stands before file → ⊥) → (size rest : List ℕ) → length size ≡ 4 → from_be_bytes w32 size ≤ most_bytes
    → OneFile names before (length name ∷ (name ++ (size ++ rest)))
bytes_total names before name file named first size rest four small = elim (cases_lt (length rest) (from_be_bytes w32 size)) [
  | inl short ↦ inl (5 + length name, inr (inr (inr (record { name = name; file = file; size = size; rest = rest; text = refl; named = named; first = first; four = four; small = small; is = refl; wrong = short }))))
  | inr long ↦
      let n = from_be_bytes w32 size in
      let whole : n ≡ length (take n rest) = let e = length-take n rest in omega (arith, e, long) in
      inr (
        record { file = file; bytes = take n rest },
        length name ∷ (name ++ (size ++ take n rest)),
        drop n rest,
        split_file name size rest n,
        record { name = name; size = size; text = refl; named = named; first = first; four = four; value = whole; small = subst (λ (k : ℕ). k ≤ most_bytes) whole small },
      )
]

size_total : (names : List (List ℕ)) (before : List NewFile) (name : List ℕ) (file : ℕ) → IsNameOf names name file → (Stands before file → ⊥) → (tail : List ℕ) → OneFile names before (length name ∷ (name ++ tail))
size_total names before name file named first tail = elim (cases_lt (length tail) 4) [
  | inl short ↦ inl (1 + length name, inr (inr (inl (record { name = name; file = file; rest = tail; text = refl; named = named; first = first; is = refl; wrong = inl short }))))
  | inr long ↦ elim (cases_lt most_bytes (from_be_bytes w32 (take 4 tail))) [
    | inl big ↦ inl (1 + length name, inr (inr (inl (record { name = name; file = file; rest = tail; text = refl; named = named; first = first; is = refl; wrong = inr big }))))
    | inr small ↦
        let four : length (take 4 tail) ≡ 4 = let e = length-take 4 tail in omega (arith, e, long) in
        subst (λ (l : List ℕ). OneFile names before (length name ∷ (name ++ l))) (take-append-drop 4 tail)
        (bytes_total names before name file named first (take 4 tail) (drop 4 tail) four small)
  ]
]

abbrev number_or : Option ℕ → ℕ
number_or None = 0
number_or (Some number) = number

-- two packages of one name are one
one_file : (names : List (List ℕ)) → AreDiskNames names → (name : List ℕ) (file other : ℕ) → IsNameOf names name file → IsNameOf names name other → file ≡ other
one_file names are name file other is has = ap number_or (sym (found_name names are name file is) ∙ found_name names are name other has)

file_total : (names : List (List ℕ)) → AreDiskNames names → (before : List NewFile) (bytes : List ℕ) → OneFile names before bytes
file_total names are before [] = inl (0, inl (record { text = refl; is = refl }))
file_total names are before (named ∷ bytes) = elim (cases_lt (length bytes) named) [
  | inl short ↦ inl (1, inr (inl (record { named = named; rest = bytes; text = refl; is = refl; wrong = inl short })))
  | inr long ↦ ⊎_elim
      (λ found. ⊎_elim
      (λ s. inl (1, inr (inl (record { named = named; rest = bytes; text = refl; is = refl; wrong = inr (λ other is. subst (Stands before) (one_file names are (take named bytes) found.0 other found.1 is) s.0) }))))
      (λ s. subst (λ (l : List ℕ). OneFile names before l) (whole long) (size_total names before (take named bytes) found.0 found.1 s.0 (drop named bytes)))
      (stands_test before found.0))
      (λ none. inl (1, inr (inl (record { named = named; rest = bytes; text = refl; is = refl; wrong = inr (λ other is. absurd (none other is)) }))))
      (find_name names (take named bytes))
]
  where
    whole : named ≤ length bytes → length (take named bytes) ∷ (take named bytes ++ drop named bytes) ≡ named ∷ bytes
    whole long =
        let e : length (take named bytes) ≡ named = let f = length-take named bytes in omega (arith, f, long) in
        λ i. e i ∷ take-append-drop named bytes i

pub files_total : (names : List (List ℕ)) → AreDiskNames names → (more : ℕ) (before : List NewFile) (bytes : List ℕ)
    → ((place : ℕ) × FilesWrong names before more bytes place) ⊎ ((files : List NewFile) × (more ≡ length files) × SpellsFiles names before bytes files)
files_total names are zero before [] = inr ([], refl, refl)
files_total names are zero before (b ∷ bytes) = inl (0, ((λ e. cc e), refl))
files_total names are (suc more) before bytes = ⊎_elim
    (λ w. inl (w.0, inl w.1))
    (λ s. ⊎_elim
    (λ w. inl (length s.1 + w.0, inr (s.0, s.1, s.2, w.0, s.3, s.4, refl, w.1)))
    (λ t. inr (s.0 ∷ t.0, ap suc t.1, (s.1, s.2, s.3, s.4, t.2)))
    (files_total names are more (before ++ s.0 ∷ []) s.2))
    (file_total names are before bytes)

abbrev OneBody : List (List ℕ) → List ℕ → Type 0
OneBody names bytes = ((place : ℕ) × IsFirstWrongPlace names bytes place) ⊎ ((kept : Kept) × SpellsBody names bytes kept)

rest_total : (names : List (List ℕ)) → AreDiskNames names → (bytes d h n t : List ℕ) → IsHead bytes d h n t → OneBody names bytes
rest_total names are bytes d h n t is = ⊎_elim
    (λ w. inl (29 + w.0, inr (inr (record { deadline = d; holder = h; count = n; rest = t; behind = w.0; head = is; is = refl; files = w.1 }))))
    (λ s. inr (
      record { pending = record { deadline = from_be_bytes w64 d; holder = from_be_bytes w128 h }; files = s.0 },
      record { deadline = d; holder = h; count = n; rest = t; head = is; until = refl; whose = refl; many = s.1; files = s.2 },
    ))
    (files_total names are (from_be_bytes w32 n) [] t)

whole_head : (version : ℕ) (bytes : List ℕ) → IsVersion version → 28 ≤ length bytes → IsHead (version ∷ bytes) (take 8 bytes) (take 16 (drop 8 bytes)) (take 4 (drop 16 (drop 8 bytes))) (drop 4 (drop 16 (drop 8 bytes)))
whole_head version bytes is long =
    let e = length-drop 8 bytes in
    let f = length-drop 16 (drop 8 bytes) in
    let a = length-take 8 bytes in
    let b = length-take 16 (drop 8 bytes) in
    let c = length-take 4 (drop 16 (drop 8 bytes)) in
    record {
      version = version;
      text = ap (λ (l : List ℕ). version ∷ l) (sym (take-append-drop 8 bytes) ∙ ap (λ (l : List ℕ). take 8 bytes ++ l) (sym (take-append-drop 16 (drop 8 bytes))
          ∙ ap (λ (l : List ℕ). take 16 (drop 8 bytes) ++ l) (sym (take-append-drop 4 (drop 16 (drop 8 bytes))))));
      known = is;
      eight = omega (arith, a, long);
      sixteen = omega (arith, e, b, long);
      four = omega (arith, e, f, c, long);
    }

abbrev head_or : List ℕ → ℕ
head_or [] = 0
head_or (x ∷ xs) = x

pub body_total : (names : List (List ℕ)) → AreDiskNames names → (bytes : List ℕ) → OneBody names bytes
body_total names are [] = inl (0, inl (record { is = refl; wrong = λ version rest e is. cc e }))
body_total names are (version ∷ bytes) = ⊎_elim
    (λ is. by_size is (cases_lt (length bytes) 8) (cases_lt (length bytes) 24) (cases_lt (length bytes) 28))
    (λ none. inl (0, inl (record { is = refl; wrong = λ other rest e is. none (subst IsVersion (sym (first e)) is) })))
    (version_test version)
  where
    first : {other : ℕ} {rest : List ℕ} → version ∷ bytes ≡ other ∷ rest → version ≡ other
    first e = ap head_or e

    cut : (place : ℕ) → IsVersion version → HeadCut (length bytes) place → OneBody names (version ∷ bytes)
    cut place is c = inl (place, inr (inl (record { version = version; rest = bytes; text = refl; known = is; cut = c })))

    by_size : IsVersion version → ((length bytes < 8) ⊎ (8 ≤ length bytes)) → ((length bytes < 24) ⊎ (24 ≤ length bytes)) → ((length bytes < 28) ⊎ (28 ≤ length bytes)) → OneBody names (version ∷ bytes)
    by_size is (inl a) b c = cut 1 is (inl (a, refl))
    by_size is (inr a) (inl b) c = cut 9 is (inr (inl (a, b, refl)))
    by_size is (inr a) (inr b) (inl c) = cut 25 is (inr (inr (b, c, refl)))
    by_size is (inr a) (inr b) (inr c) = rest_total names are (version ∷ bytes) _ _ _ _ (whole_head version bytes is c)

-- ---- the laws

abbrev kept_or : Kept → Result Kept ℕ → Kept
kept_or other (Ok kept) = kept
kept_or other (Err place) = other

abbrev place_or : Result Kept ℕ → ℕ
place_or (Ok kept) = 0
place_or (Err place) = place

pub reads_exactly : (names : List (List ℕ)) (bytes : List ℕ) (kept : Kept) → AreDiskNames names → (read_body names bytes ≡ Ok kept) ↔ SpellsBody names bytes kept
reads_exactly names bytes kept are = (
  λ is. ⊎_elim
      (λ w. absurd (let refuses = body_refuses names are bytes w.0 w.1 in cc (refuses, is)))
      (λ s. subst (SpellsBody names bytes) (ap (kept_or kept) (sym (body_reads names are bytes s.0 s.1) ∙ is)) s.1)
      (body_total names are bytes),
  body_reads names are bytes kept,
)

pub refuses_exactly : (names : List (List ℕ)) (bytes : List ℕ) (place : ℕ) → AreDiskNames names → (read_body names bytes ≡ Err place) ↔ IsFirstWrongPlace names bytes place
refuses_exactly names bytes place are = (
  λ is. ⊎_elim
      (λ w. subst (IsFirstWrongPlace names bytes) (ap place_or (sym (body_refuses names are bytes w.0 w.1) ∙ is)) w.1)
      (λ s. absurd (let reads = body_reads names are bytes s.0 s.1 in cc (reads, is)))
      (body_total names are bytes),
  body_refuses names are bytes place,
)

pub one_kept : (names : List (List ℕ)) (bytes : List ℕ) (kept other : Kept) → AreDiskNames names → SpellsBody names bytes kept → SpellsBody names bytes other → other ≡ kept
one_kept names bytes kept other are s t = ap (kept_or kept) (sym (body_reads names are bytes other t) ∙ body_reads names are bytes kept s)

pub one_place : (names : List (List ℕ)) (bytes : List ℕ) (place other : ℕ) → AreDiskNames names → IsFirstWrongPlace names bytes place → IsFirstWrongPlace names bytes other → other ≡ place
one_place names bytes place other are w v = ap place_or (sym (body_refuses names are bytes other v) ∙ body_refuses names are bytes place w)

pub not_both : (names : List (List ℕ)) (bytes : List ℕ) (kept : Kept) (place : ℕ) → AreDiskNames names → SpellsBody names bytes kept → IsFirstWrongPlace names bytes place → ⊥
not_both names bytes kept place are s w =
    let reads = body_reads names are bytes kept s in
    let refuses = body_refuses names are bytes place w in
    cc (reads, refuses)

pub one_of_both : (names : List (List ℕ)) (bytes : List ℕ) → AreDiskNames names → ((kept : Kept) × SpellsBody names bytes kept) ⊎ ((place : ℕ) × IsFirstWrongPlace names bytes place)
one_of_both names bytes are = ⊎_elim (λ w. inr w) (λ s. inl s) (body_total names are bytes)
