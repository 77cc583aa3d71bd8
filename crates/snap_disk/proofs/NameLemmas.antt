-- Names of files.
use Rattle.std.proofs.Common.{◌≡◌, ◌<◌, ◌≤◌, ℕ, zero, suc, ◌+◌, ◌-◌, List, [], ◌∷◌, length, drop, Some, Bool, true, false, nat_eq, refl, sym, ◌∙◌, ap, subst, arith}
use Rattle.std.specs.Cmp.Lexicographic.{pointwise, bytes_decides}
use Rattle.std.proofs.Math.Seq.{drop-cons}
use Rattle.std.specs.Cmp.Lexicographic.{slice_cmp}
use Rattle.std.specs.Ordering.{nat_cmp, ordering_reverse}
use Rattle.std.specs.declared.cmp.Ordering.TheVariants.{Less}
use Rattle.std.proofs.lemmas.Cmp.{nat_list_cmp_total}
use Rattle.plane_disk.specs.Names.{name_at, AreDiskNames}
use Rattle.snap_disk.specs.Body.{number_from, number_of}

-- the next name is another one, or it
pub next_apart : (names : List (List ℕ)) (file : ℕ) (name : List ℕ) → file < length names → pointwise nat_eq (name_at names file) name ≡ false → number_from file (drop file names) name ≡ number_from (file + 1) (drop (file + 1) names) name
next_apart names file name within apart =
    let one : file + 1 ≡ suc file = omega arith in
    let front : drop file names ≡ name_at names file ∷ drop (file + 1) names = drop-cons names file [] within ∙ ap (λ (k : ℕ). name_at names file ∷ drop k names) (sym one) in
    ap (λ (ns : List (List ℕ)). number_from file ns name) front ∙ grind (arith, apart)

pub next_is : (names : List (List ℕ)) (file : ℕ) (name : List ℕ) → file < length names → pointwise nat_eq (name_at names file) name ≡ true → number_from file (drop file names) name ≡ Some file
next_is names file name within same =
    let one : file + 1 ≡ suc file = omega arith in
    let front : drop file names ≡ name_at names file ∷ drop (file + 1) names = drop-cons names file [] within ∙ ap (λ (k : ℕ). name_at names file ∷ drop k names) (sym one) in
    ap (λ (ns : List (List ℕ)). number_from file ns name) front ∙ grind (arith, same)

-- the names of packages rise
less_from : (names : List (List ℕ)) → AreDiskNames names → (j n : ℕ) → 2 ≤ j → j + n + 1 < length names → slice_cmp nat_cmp (name_at names j) (name_at names (j + n + 1)) ≡ Less
less_from names are j zero low within =
    let e : j + 1 ≡ j + zero + 1 = omega arith in
    subst (λ (k : ℕ). slice_cmp nat_cmp (name_at names j) (name_at names k) ≡ Less) e ((are.packages j low (omega (arith, within))).in_order (omega (arith, within)))
less_from names are j (suc n) low within =
    let e : j + n + 1 + 1 ≡ j + suc n + 1 = omega arith in
    let next = subst (λ (k : ℕ). slice_cmp nat_cmp (name_at names (j + n + 1)) (name_at names k) ≡ Less) e ((are.packages (j + n + 1) (omega (arith, low)) (omega (arith, within))).in_order (omega (arith, within))) in
    nat_list_cmp_total.trans (name_at names j) (name_at names (j + n + 1)) (name_at names (j + suc n + 1)) (less_from names are j n low (omega (arith, within))) next

-- a text is not less than itself
less_apart : (xs ys : List ℕ) → slice_cmp nat_cmp xs ys ≡ Less → pointwise nat_eq xs ys ≡ false
less_apart xs ys less = by_case (pointwise nat_eq xs ys) refl
  where
    by_case : (b : Bool) → pointwise nat_eq xs ys ≡ b → pointwise nat_eq xs ys ≡ false
    by_case false is = is
    by_case true is =
        let same : xs ≡ ys = (bytes_decides xs ys).0 is in
        let self : slice_cmp nat_cmp ys ys ≡ Less = subst (λ (t : List ℕ). slice_cmp nat_cmp t ys ≡ Less) same less in
        let turned = nat_list_cmp_total.antisymm ys ys in
        absurd (cc (self, turned, ap ordering_reverse self))

same_text : (xs : List ℕ) → pointwise nat_eq xs xs ≡ true
same_text xs = (bytes_decides xs xs).1 refl

found_from : (names : List (List ℕ)) → AreDiskNames names → (n j k : ℕ) → 2 ≤ j → j + n ≡ k → k < length names → number_from j (drop j names) (name_at names k) ≡ Some k
found_from names are zero j k low is within =
    let e : j ≡ k = omega (arith, is) in
    next_is names j (name_at names k) (omega (arith, is, within)) (subst (λ (i : ℕ). pointwise nat_eq (name_at names j) (name_at names i) ≡ true) e (same_text (name_at names j))) ∙ ap (λ (i : ℕ). Some i) e
found_from names are (suc n) j k low is within =
    let e : j + n + 1 ≡ k = omega (arith, is) in
    let less = subst (λ (i : ℕ). slice_cmp nat_cmp (name_at names j) (name_at names i) ≡ Less) e (less_from names are j n low (omega (arith, is, within))) in
    next_apart names j (name_at names k) (omega (arith, is, within)) (less_apart (name_at names j) (name_at names k) less)
    ∙ found_from names are n (j + 1) k (omega (arith, low)) (omega (arith, is)) within

-- a package is found by its name
pub name_found : (names : List (List ℕ)) → AreDiskNames names → (k : ℕ) → 2 ≤ k → k < length names → number_of names (name_at names k) ≡ Some k
name_found names are k low within = found_from names are (k - 2) 2 k (omega arith) (omega (arith, low)) within
