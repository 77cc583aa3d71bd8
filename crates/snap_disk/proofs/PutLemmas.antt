-- Packages that are put, and packages beside them.
use Rattle.std.proofs.Common.{◌≡◌, ◌≢◌, inl, inr, ⊎_elim, ℕ, zero, suc, ◌+◌, ◌-◌, ◌≤◌, ◌<◌, max, List, [], ◌∷◌, ◌++◌, length, take, get_or, refl, sym, ◌∙◌, ap, subst, arith}
use Rattle.std.proofs.lemmas.Bool.{cases_eq, cases_lt}
use Rattle.std.proofs.lemmas.List.{length-set, get_or-set_same, get_or-set_other, get_or_past, take_more}
use Rattle.plane_disk.specs.Files.{Files, bytes_of, with_bytes}
use Rattle.snap_disk.specs.Body.{most_bytes}
use Rattle.snap_disk.specs.Opened.{with_package, put, IsWithin}
use Rattle.snap_disk.specs.Phase.{Layout, files_of, AnyPackages, Stands, IsBeside, IsFilled, IsPackageFile, ArePackageFiles}
use Rattle.snap_disk.specs.declared.new_file.NewFile.{NewFile}
use Rattle.snap_disk.proofs.LayoutLemmas.{two_and_rest, same_packages, package_at, count_of}

pub length-put : (files : List NewFile) (ps : Files) → length (put files ps) ≡ length ps
length-put [] ps = refl
length-put (x ∷ files) ps = length-put files (with_package ps x.file x.bytes) ∙ length-set ps (x.file - 2) x.bytes

-- one package of a layout is written
pub package_written : (l : Layout) (file : ℕ) (bytes : List ℕ) → 2 ≤ file → with_bytes (files_of l) file bytes ≡ files_of (record l { packages = with_package l.packages file bytes })
package_written l zero bytes low = absurd (omega (arith, low))
package_written l (suc zero) bytes low = absurd (omega (arith, low))
package_written l (suc (suc k)) bytes low = let e : suc (suc k) - 2 ≡ k = omega arith in ap (λ (j : ℕ). (l.gate ∷ l.second_gate ∷ []) ∷ l.body ∷ with_bytes l.packages j bytes) (sym e)

-- the same packages
pub beside_self : (files : List NewFile) (ps : Files) → IsBeside files ps ps
beside_self files ps = record { count = refl; others = λ index apart. refl; small = λ index. omega arith }

pub within_beside : (files : List NewFile) (ps qs : Files) → IsWithin ps → IsBeside files ps qs → IsWithin qs
within_beside files ps qs within beside = record {
  few = omega (arith, within.few, beside.count);
  small = λ index. omega (arith, within.small index, beside.small index);
}

-- a package more is the same
written_same : (n : NewFile) (ns : List NewFile) (f c : Files) → IsBeside (n ∷ ns) f c → IsBeside ns (with_package f n.file n.bytes) (with_package c n.file n.bytes)
written_same n ns f c same = record {
  count = length-set c (n.file - 2) n.bytes ∙ (same.count ∙ sym (length-set f (n.file - 2) n.bytes));
  others = λ other apart. elim (cases_eq other (n.file - 2)) [
    | inl is ↦ subst (λ (k : ℕ). bytes_of (with_package c n.file n.bytes) k ≡ bytes_of (with_package f n.file n.bytes) k) (sym is) here
    | inr isnt ↦ get_or-set_other c (n.file - 2) other n.bytes [] isnt ∙ (same.others other (⊎_elim (λ e. isnt (omega (arith, e))) apart) ∙ sym (get_or-set_other f (n.file - 2) other n.bytes [] isnt))
  ];
  small = λ other. elim (cases_eq other (n.file - 2)) [
    | inl is ↦ subst (λ (k : ℕ). length (bytes_of (with_package c n.file n.bytes) k) ≤ max (length (bytes_of (with_package f n.file n.bytes) k)) most_bytes) (sym is) (let e = ap length here in omega (arith, e))
    | inr isnt ↦
        let e = ap length (get_or-set_other c (n.file - 2) other n.bytes [] isnt) in
        let d = ap length (get_or-set_other f (n.file - 2) other n.bytes [] isnt) in
        omega (arith, e, d, same.small other)
  ];
}
  where
    here : bytes_of (with_package c n.file n.bytes) (n.file - 2) ≡ bytes_of (with_package f n.file n.bytes) (n.file - 2)
    here = elim (cases_lt (n.file - 2) (length f)) [
      | inl within ↦ get_or-set_same c (n.file - 2) n.bytes [] (omega (arith, within, same.count)) ∙ sym (get_or-set_same f (n.file - 2) n.bytes [] within)
      | inr past ↦
          let long-c = length-set c (n.file - 2) n.bytes in
          let long-f = length-set f (n.file - 2) n.bytes in
          get_or_past (with_package c n.file n.bytes) (n.file - 2) [] (omega (arith, past, long-c, same.count)) ∙ sym (get_or_past (with_package f n.file n.bytes) (n.file - 2) [] (omega (arith, past, long-f)))
    ]

-- whatever stands in files, putting them gives what putting them gave before
pub put_again : (old : List NewFile) (f c : Files) → IsBeside old f c → put old c ≡ put old f
put_again [] f c same = same_packages f c same.count (λ k. same.others k (λ none. none))
put_again (n ∷ ns) f c same = put_again ns (with_package f n.file n.bytes) (with_package c n.file n.bytes) (written_same n ns f c same)

-- packages that were put are beside the old ones
beside_more : (n : NewFile) (ns : List NewFile) (f c : Files) → 2 ≤ n.file → length n.bytes ≤ most_bytes → IsBeside ns (with_package f n.file n.bytes) c → IsBeside (n ∷ ns) f c
beside_more n ns f c low little same = record {
  count = same.count ∙ length-set f (n.file - 2) n.bytes;
  others = λ other apart.
      let isnt : other ≢ n.file - 2 = λ e. apart (inl (omega (arith, e, low))) in
      same.others other (λ s. apart (inr s)) ∙ get_or-set_other f (n.file - 2) other n.bytes [] isnt;
  small = λ other. elim (cases_eq other (n.file - 2)) [
    | inl is ↦ elim (cases_lt (n.file - 2) (length f)) [
      | inl within ↦
          let e = ap length (ap (λ (k : ℕ). bytes_of (with_package f n.file n.bytes) k) is ∙ get_or-set_same f (n.file - 2) n.bytes [] within) in
          omega (arith, e, little, same.small other)
      | inr past ↦
          let long = length-set f (n.file - 2) n.bytes in
          let e = ap length (get_or_past (with_package f n.file n.bytes) other [] (omega (arith, past, long, is))) in
          omega (arith, e, same.small other)
    ]
    | inr isnt ↦ let e = ap length (get_or-set_other f (n.file - 2) other n.bytes [] isnt) in omega (arith, e, same.small other)
  ];
}

pub put_beside : (count : ℕ) (files : List NewFile) (f : Files) → ArePackageFiles count files → IsBeside files f (put files f)
put_beside count [] f are = beside_self [] f
put_beside count (n ∷ ns) f are = beside_more n ns f (put ns (with_package f n.file n.bytes)) are.0.low are.0.small (put_beside count ns (with_package f n.file n.bytes) are.1)

-- a package that is filled is beside
pub beside_filled : (files : List NewFile) (file size : ℕ) (l : Layout) (d c : Files) → 2 ≤ file → size ≤ most_bytes → Stands files file → AnyPackages files l d → IsFilled file size d c → AnyPackages files l c
beside_filled files file size l d c low little stands any filled =
    let m : Layout = record l { packages = any.0 } in
    let b : IsFilled file size (files_of m) c = subst (λ (f : Files). IsFilled file size f c) any.1 filled in
    let parts = two_and_rest c (l.gate ∷ l.second_gate ∷ []) l.body any.0 (b.count ∙ count_of m) (b.others 0 (omega (arith, low))) (b.others 1 (omega (arith, low))) in (
      parts.0,
      parts.1,
      record {
        count = parts.2 ∙ any.2.count;
        others = λ k apart. parts.3 k ∙ (b.others (k + 2) (λ e. apart (subst (λ (j : ℕ). Stands files j) (sym e) stands)) ∙ (package_at m k ∙ any.2.others k apart));
        small = λ k. elim (cases_eq (k + 2) file) [
          | inl is ↦
              let e = ap length (parts.3 k) in
              let s = subst (λ (j : ℕ). length (bytes_of c j) ≤ max (length (bytes_of (files_of m) j)) size) (sym is) b.small in
              let a = ap length (package_at m k) in
              omega (arith, e, s, a, any.2.small k, little)
          | inr isnt ↦ let e = ap length (parts.3 k ∙ (b.others (k + 2) isnt ∙ package_at m k)) in omega (arith, e, any.2.small k)
        ];
      },
    )

put_one_more : (xs : List NewFile) (x : NewFile) (f : Files) → put (xs ++ x ∷ []) f ≡ with_package (put xs f) x.file x.bytes
put_one_more [] x f = refl
put_one_more (y ∷ ys) x f = put_one_more ys x (with_package f y.file y.bytes)

-- the files up to this one
pub put_next : (files : List NewFile) (i : ℕ) (file : NewFile) (f : Files) → i < length files → file ≡ get_or files i file → put (take (i + 1) files) f ≡ with_package (put (take i files) f) file.file file.bytes
put_next files i file f within is =
    let more : take (i + 1) files ≡ take i files ++ file ∷ [] = take_more files i file within ∙ ap (λ x. take i files ++ x ∷ []) (sym is) in
    ap (λ l. put l f) more ∙ put_one_more (take i files) file f

pub stands_at : (files : List NewFile) (i : ℕ) (file : NewFile) → i < length files → file ≡ get_or files i file → Stands files file.file
stands_at [] i file within is = absurd (omega (arith, within))
stands_at (x ∷ xs) zero file within is = inl (ap (λ (n : NewFile). n.file) is)
stands_at (x ∷ xs) (suc i) file within is = inr (stands_at xs i file (omega (arith, within)) is)

pub package_file_at : (count : ℕ) (files : List NewFile) (i : ℕ) (file : NewFile) → ArePackageFiles count files → i < length files → file ≡ get_or files i file → IsPackageFile count file
package_file_at count [] i file are within is = absurd (omega (arith, within))
package_file_at count (x ∷ xs) zero file are within is = subst (IsPackageFile count) (sym is) are.0
package_file_at count (x ∷ xs) (suc i) file are within is = package_file_at count xs i file are.1 (omega (arith, within)) is

pub put_none : (files : List NewFile) (ps : Files) → length files ≡ 0 → ps ≡ put files ps
put_none [] ps none = refl
put_none (x ∷ files) ps none = absurd (omega (arith, none))
