-- Changes that are read, package by package.
use Rattle.std.proofs.Common.{ℕ, ◌≡◌, ◌≢◌, ◌≤◌, ◌<◌, ◌+◌, Bool, true, false, nat_eq, List, [], ◌∷◌, ◌++◌, length, map, Some, cond, refl, sym, ap, subst, ◌∙◌, arith}
use Rattle.std.specs.List.{AllByRecursion, filter}
use Rattle.std.proofs.lemmas.Bool.Decides.{nat_tests}
use Rattle.std.proofs.lemmas.List.{append-nil}
use Rattle.uci_text.proofs.ClassLemmas.{each-append}
use Rattle.plane_words.specs.Causes.{Rose}
use Rattle.plane_disk.specs.Files.{Files, bytes_of}
use Rattle.plane_disk.specs.Names.{name_at}
use Rattle.plane_disk.specs.View.{View}
use Rattle.uci_delta.specs.declared.delta.Delta.{Delta}
use Rattle.uci_delta.specs.Deltas.{AreDeltas}
use Rattle.uci_delta.specs.Printed.{IsLine}
use Rattle.uci_delta.proofs.TakenLemmas.{read_lines}
use Rattle.uci_staged.specs.declared.change.StagedChange.{StagedChange}
use Rattle.uci_staged.specs.declared.staged_error.StagedError.{StagedError}
use Rattle.uci_staged.specs.declared.staged_error.StagedError.TheVariants.{DiskFailed, Memory}
use Rattle.uci_staged.specs.Change.{is_of, deltas_in}
use Rattle.uci_staged.specs.Kept.{IsStagedIn, AreStagedIn, AreKept, ReadsOn}
use Rattle.uci_staged.specs.Opening.{own_change, HasRead}
use Rattle.uci_staged.specs.StagedError.{DiskRefuses}
use Rattle.uci_staged.proofs.ChangeLemmas.{deltas-append, and_false, other_number}
use Rattle.uci_staged.proofs.KeptLemmas.{reads_on}

-- the packages of the files before this one are read
pub record SoFar (view : View) (file : ℕ) (changes : List StagedChange) : Type 0 where
  pub lines : AreStagedIn view.names changes
  pub below : AllByRecursion (λ (change : StagedChange). change.file < file) changes
  pub own : AllByRecursion (λ (change : StagedChange). change.holder ≡ 0) changes
  pub kept : (files : Files) → view.seen ≡ Some files → (k : ℕ) → 2 ≤ k → k < file → AreDeltas (name_at view.names k) (bytes_of files k) (deltas_in 0 k changes)

pub reads_same : (view : View) → ReadsOn view view
reads_same view = record { names = refl; seen = refl; later = omega arith }

pub reads_join : (old mid new : View) → ReadsOn old mid → ReadsOn mid new → ReadsOn old new
reads_join old mid new a b = record { names = b.names ∙ a.names; seen = b.seen ∙ a.seen; later = omega (arith, a.later, b.later) }

pub refused_later : (old mid new : View) (error : StagedError) → ReadsOn old mid → DiskRefuses mid new error → DiskRefuses old new error
refused_later old mid new DiskFailed reads rose = let later = reads.later in let r : Rose mid.faults new.faults = rose in omega (arith, later, r)
refused_later old mid new Memory reads h = tt

pub nothing_read : (view : View) → SoFar view 2 []
nothing_read view = record { lines = tt; below = tt; own = tt; kept = λ files seen k low below. absurd (omega (arith, low, below)) }

-- the changes that a text gives
self_number : (n : ℕ) → nat_eq n n ≡ true
self_number n = grind (arith, nat_tests)

own_here : (file : ℕ) (deltas : List Delta) → deltas_in 0 file (map (own_change file) deltas) ≡ deltas
own_here file [] = refl
own_here file (delta ∷ deltas) =
    ap (λ (t : Bool). map (λ (c : StagedChange). c.delta) (cond {A = List StagedChange} t (own_change file delta ∷ filter (is_of 0 file) (map (own_change file) deltas)) (filter (is_of 0 file) (map (own_change file) deltas))))
    (self_number file)
    ∙ ap (λ (l : List Delta). delta ∷ l) (own_here file deltas)

own_there : (file k : ℕ) (deltas : List Delta) → file ≢ k → deltas_in 0 k (map (own_change file) deltas) ≡ []
own_there file k [] n = refl
own_there file k (delta ∷ deltas) n =
    ap (λ (t : Bool). map (λ (c : StagedChange). c.delta) (cond {A = List StagedChange} t (own_change file delta ∷ filter (is_of 0 k) (map (own_change file) deltas)) (filter (is_of 0 k) (map (own_change file) deltas))))
    (other_number file k n)
    ∙ own_there file k deltas n

none_yet : (k : ℕ) (changes : List StagedChange) → AllByRecursion (λ (change : StagedChange). change.file < k) changes → deltas_in 0 k changes ≡ []
none_yet k [] h = refl
none_yet k (change ∷ changes) h =
    let below : change.file < k = h.0 in
    let apart : is_of 0 k change ≡ false = and_false (nat_eq change.holder 0) (nat_eq change.file k) (other_number change.file k (λ s. omega (arith, s, below))) in
    ap (λ (t : Bool). map (λ (c : StagedChange). c.delta) (cond {A = List StagedChange} t (change ∷ filter (is_of 0 k) changes) (filter (is_of 0 k) changes))) apart
    ∙ none_yet k changes h.1

each_own : (P : StagedChange → Type 0) (file : ℕ) (deltas : List Delta) → ((delta : Delta) → P (own_change file delta)) → AllByRecursion P (map (own_change file) deltas)
each_own P file [] h = tt
each_own P file (delta ∷ deltas) h = (h delta, each_own P file deltas h)

own_lines : (names : List (List ℕ)) (file : ℕ) (deltas : List Delta) → 2 ≤ file → file < length names → AllByRecursion (IsLine (name_at names file)) deltas → AreStagedIn names (map (own_change file) deltas)
own_lines names file [] low within h = tt
own_lines names file (delta ∷ deltas) low within h = (record { low = low; number = within; line = h.0 }, own_lines names file deltas low within h.1)

each_below : (file : ℕ) (changes : List StagedChange) → AllByRecursion (λ (change : StagedChange). change.file < file) changes → AllByRecursion (λ (change : StagedChange). change.file < file + 1) changes
each_below file [] h = tt
each_below file (change ∷ changes) h = (let b : change.file < file = h.0 in omega (arith, b), each_below file changes h.1)

-- one package more
pub one_more : (view : View) (file : ℕ) (old new : List StagedChange) → 2 ≤ file → file < length view.names → SoFar view file old → HasRead view file old new → SoFar view (file + 1) new
one_more view file old new low within so_far read =
    let own = map (own_change file) read.deltas in
    let P : (StagedChange → Type 0) → List StagedChange → Type 0 = λ Q l. AllByRecursion Q l in
    record {
      lines = subst (AreStagedIn view.names) (sym read.grown)
          (each-append (IsStagedIn view.names) old own so_far.lines (own_lines view.names file read.deltas low within (read_lines (name_at view.names file) read.text read.deltas read.read)));
      below = subst (P (λ change. change.file < file + 1)) (sym read.grown)
          (each-append (λ (change : StagedChange). change.file < file + 1) old own (each_below file old so_far.below) (each_own (λ change. change.file < file + 1) file read.deltas (λ delta. omega arith)));
      own = subst (P (λ change. change.holder ≡ 0)) (sym read.grown) (each-append (λ (change : StagedChange). change.holder ≡ 0) old own so_far.own (each_own (λ change. change.holder ≡ 0) file read.deltas (λ delta. refl)));
      kept = λ files seen k k_low below. subst (λ (l : List StagedChange). AreDeltas (name_at view.names k) (bytes_of files k) (deltas_in 0 k l)) (sym read.grown) (by files seen k k_low below (nat_eq k file) refl);
    }
  where
    by : (files : Files) → view.seen ≡ Some files → (k : ℕ) → 2 ≤ k → k < file + 1 → (t : Bool) → nat_eq k file ≡ t → AreDeltas (name_at view.names k) (bytes_of files k) (deltas_in 0 k (old ++ map (own_change file) read.deltas))
    by files seen k k_low below true e =
        let same : k ≡ file = grind (arith, nat_tests) in
        let is : deltas_in 0 file (old ++ map (own_change file) read.deltas) ≡ read.deltas = deltas-append 0 file old (map (own_change file) read.deltas)
        ∙ ap (λ (l : List Delta). l ++ deltas_in 0 file (map (own_change file) read.deltas)) (none_yet file old so_far.below) ∙ own_here file read.deltas in
        subst (λ (j : ℕ). AreDeltas (name_at view.names j) (bytes_of files j) (deltas_in 0 j (old ++ map (own_change file) read.deltas))) (sym same)
        (subst (AreDeltas (name_at view.names file) (bytes_of files file)) (sym is) (subst (λ (t : List ℕ). AreDeltas (name_at view.names file) t read.deltas) (read.told files seen) read.read))
    by files seen k k_low below false e =
        let n : k ≢ file = λ s. let f : nat_eq k file ≡ true = ap (nat_eq k) (sym s) ∙ self_number k in let g : true ≡ false = sym f ∙ e in absurd cc in
        let is : deltas_in 0 k (old ++ map (own_change file) read.deltas) ≡ deltas_in 0 k old = deltas-append 0 k old (map (own_change file) read.deltas)
        ∙ ap (λ (l : List Delta). deltas_in 0 k old ++ l) (own_there file k read.deltas (λ s. n (sym s))) ∙ append-nil (deltas_in 0 k old) in
        subst (AreDeltas (name_at view.names k) (bytes_of files k)) (sym is) (so_far.kept files seen k k_low (omega (arith, below, n)))

pub read_from : (old mid : View) (file : ℕ) (changes more : List StagedChange) → ReadsOn old mid → HasRead mid file changes more → HasRead old file changes more
read_from old mid file changes more reads r = record {
  deltas = r.deltas;
  text = r.text;
  read = subst (λ (n : List (List ℕ)). AreDeltas (name_at n file) r.text r.deltas) reads.names r.read;
  told = λ files seen. r.told files (reads.seen ∙ seen);
  grown = r.grown;
}

-- all are read
pub all_read : (old new : View) (file : ℕ) (changes : List StagedChange) → length old.names ≤ file → ReadsOn old new → SoFar old file changes → AreStagedIn new.names changes × AreKept new changes
all_read old new file changes all reads so_far = reads_on old new changes reads so_far.lines (λ files seen k low below. so_far.kept files seen k low (omega (arith, below, all)))
