-- A file that is written anew, and files that are emptied.
use Rattle.std.proofs.Common.{ℕ, ◌≡◌, ◌≢◌, ◌≤◌, ◌<◌, ◌+◌, Bool, true, false, nat_eq, nat_lt, List, [], ◌++◌, length, take, Option, Some, refl, sym, ap, subst, ◌∙◌, arith}
use Rattle.std.proofs.lemmas.Bool.Decides.{nat_tests}
use Rattle.std.proofs.lemmas.List.{set-set, get_or-set_same, get_or-set_other, get_or_past, append-nil, drop_all, length-set}
use Rattle.plane_disk.specs.Files.{Files, bytes_of, with_bytes, put_at, AtFile}
use Rattle.plane_disk.specs.View.{View, IsSound, Elapses, SeenSteps, Steps}
use Rattle.uci_staged.specs.Kept.{Follows, ChangesFile, ChangesPackages, HasFilled}
use Rattle.uci_staged.proofs.KeptLemmas.{told, some_same, within_files}

-- a file that was cut to nothing and written
pub filled : (f : Files) (file : ℕ) (bytes : List ℕ) → file < length f → let cut : Files = with_bytes f file (take 0 (bytes_of f file)) in with_bytes cut file (put_at (bytes_of cut file) 0 bytes) ≡ with_bytes f file bytes
filled f file bytes within =
    let none : bytes_of (with_bytes f file []) file ≡ [] = get_or-set_same f file [] [] within in
    let whole : put_at (bytes_of (with_bytes f file []) file) 0 bytes ≡ bytes = ap (λ (old : List ℕ). put_at old 0 bytes) none ∙ (ap (λ (l : List ℕ). bytes ++ l) (drop_all (0 + length bytes) [] (omega arith)) ∙ append-nil bytes) in
    ap (λ (b : List ℕ). with_bytes (with_bytes f file []) file b) whole ∙ set-set f file [] bytes

pub follows_same : (view : View) → Follows view view
follows_same view = record { names = refl; tells = λ files seen. (files, seen); silent = λ none. none; later = omega arith }

pub follows_join : (old mid new : View) → Follows old mid → Follows mid new → Follows old new
follows_join old mid new a b = record {
  names = b.names ∙ a.names;
  tells = λ files seen. let now = a.tells files seen in b.tells now.0 now.1;
  silent = λ none. b.silent (a.silent none);
  later = omega (arith, a.later, b.later);
}

-- a call that changes one file
pub follows_step : (old new : View) (file : ℕ) (step : List ℕ → List ℕ → Type 0) → Elapses old new → Steps (AtFile file step) old new → old.faults ≤ new.faults → Follows old new
follows_step old new file step time steps later = record {
  names = time.names;
  tells = λ files seen. let s : SeenSteps (AtFile file step) (Some files) new.seen = subst (λ (o : Option Files). SeenSteps (AtFile file step) o new.seen) seen steps in (s.0, s.1);
  silent = time.silent;
  later = later;
}

pub changes_step : (old new : View) (file : ℕ) (step : List ℕ → List ℕ → Type 0) → Steps (AtFile file step) old new → ChangesFile file old new
changes_step old new file step steps files now was is other differs =
    let s : SeenSteps (AtFile file step) (Some files) new.seen = subst (λ (o : Option Files). SeenSteps (AtFile file step) o new.seen) was steps in
    let same : now ≡ s.0 = some_same now s.0 (sym is ∙ s.1) in
    ap (λ (f : Files). bytes_of f other) same ∙ s.2.others other differs

pub changes_same : (view : View) (file : ℕ) → ChangesFile file view view
changes_same view file files now was is other differs = ap (λ (f : Files). bytes_of f other) (some_same now files (sym is ∙ was))

pub changes_join : (old mid new : View) (file : ℕ) → Follows old mid → ChangesFile file old mid → ChangesFile file mid new → ChangesFile file old new
changes_join old mid new file follows a b files now was is other differs =
    let between = follows.tells files was in
    b between.0 now between.1 is other differs ∙ a files between.0 was between.1 other differs

pub packages_same : (view : View) → ChangesPackages view view
packages_same view files now was is other low = ap (λ (f : Files). bytes_of f other) (some_same now files (sym is ∙ was))

pub packages_more : (old mid new : View) (file : ℕ) → 2 ≤ file → Follows old mid → ChangesPackages old mid → ChangesFile file mid new → ChangesPackages old new
packages_more old mid new file high follows a b files now was is other low =
    let between = follows.tells files was in
    b between.0 now between.1 is other (λ same. absurd (omega (arith, high, low, same))) ∙ a files between.0 was between.1 other low

-- the packages before this file are empty
pub record EmptiedTo (old new : View) (file : ℕ) : Type 0 where
  pub follows : Follows old new
  pub changes : ChangesPackages old new
  pub told : (files : Files) → old.seen ≡ Some files → (now : Files) × (new.seen ≡ Some now) × (length now ≡ length files) × ((k : ℕ) → 2 ≤ k → k < file → bytes_of now k ≡ [])

pub none_emptied : (view : View) → EmptiedTo view view 2
none_emptied view = record { follows = follows_same view; changes = packages_same view; told = λ files seen. (files, seen, refl, λ k low below. absurd (omega (arith, low, below))) }

pub emptied_more : (old mid new : View) (file : ℕ) → IsSound mid → 2 ≤ file → file < length mid.names → EmptiedTo old mid file → Follows mid new → ChangesFile file mid new → HasFilled mid new file [] → EmptiedTo old new (file + 1)
emptied_more old mid new file sound low within so_far follows changes is = record {
  follows = follows_join old mid new so_far.follows follows;
  changes = packages_more old mid new file low so_far.follows so_far.changes changes;
  told = λ files seen.
      let was = so_far.told files seen in
      let f : Files = was.0 in
      let below : file < length f = within_files mid sound f file was.1 within in
      (with_bytes f file [], is f was.1, length-set f file [] ∙ was.2, λ k k_low k_below. by f below was.3 k k_low k_below (nat_eq k file) refl);
}
  where
    by : (f : Files) → file < length f → ((k : ℕ) → 2 ≤ k → k < file → bytes_of f k ≡ []) → (k : ℕ) → 2 ≤ k → k < file + 1 → (t : Bool) → nat_eq k file ≡ t → bytes_of (with_bytes f file []) k ≡ []
    by f below none k k_low k_below true e =
        let same : k ≡ file = grind (arith, nat_tests) in
        ap (bytes_of (with_bytes f file [])) same ∙ get_or-set_same f file [] [] below
    by f below none k k_low k_below false e =
        let n : k ≢ file = λ s. let t : nat_eq k file ≡ true = grind (arith, nat_tests) in let g : true ≡ false = sym t ∙ e in absurd cc in
        get_or-set_other f file k [] [] n ∙ none k k_low (omega (arith, k_below, n))

-- so all are
pub all_emptied : (old new : View) (file : ℕ) → IsSound old → length old.names ≤ file → EmptiedTo old new file → (files : Files) → old.seen ≡ Some files → (now : Files) × (new.seen ≡ Some now) × ((k : ℕ) → 2 ≤ k → bytes_of now k ≡ [])
all_emptied old new file sound all so_far files seen =
    let was = so_far.told files seen in
    let long : length files ≡ length old.names = told (λ (f : Files). length f ≡ length old.names) old.seen files sound.counted seen in
    (was.0, was.1, λ k low. by was.0 was.2 was.3 long k low (nat_lt k file) refl)
  where
    by : (f : Files) → length f ≡ length files → ((k : ℕ) → 2 ≤ k → k < file → bytes_of f k ≡ []) → length files ≡ length old.names → (k : ℕ) → 2 ≤ k → (t : Bool) → nat_lt k file ≡ t → bytes_of f k ≡ []
    by f same none long k low true e = none k low (grind (arith, nat_tests))
    by f same none long k low false e = let beyond : file ≤ k = grind (arith, nat_tests) in get_or_past f k [] (omega (arith, same, long, all, beyond))
