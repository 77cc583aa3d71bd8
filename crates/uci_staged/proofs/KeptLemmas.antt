-- What a disk keeps of staged changes once one of its files is written.
use Rattle.std.proofs.Common.{ℕ, ◌≡◌, ◌≢◌, ◌<◌, Bool, true, false, not, cond, nat_eq, List, [], ◌∷◌, ◌++◌, length, map, Option, Some, None, refl, sym, ap, subst, ◌∙◌, arith}
use Rattle.std.specs.List.{filter}
use Rattle.std.specs.Prelude.{IfSome, ◌&&◌}
use Rattle.std.proofs.lemmas.Bool.Decides.{nat_tests}
use Rattle.std.proofs.lemmas.List.{append-nil, get_or-set_same, get_or-set_other}
use Rattle.uci_text.proofs.ClassLemmas.{each-append}
use Rattle.plane_disk.specs.Files.{Files, bytes_of, with_bytes}
use Rattle.plane_disk.specs.Names.{name_at}
use Rattle.plane_disk.specs.View.{View, IsSound}
use Rattle.uci_tree.specs.declared.path.Path.{Path}
use Rattle.uci_delta.specs.declared.delta.Delta.{Delta}
use Rattle.uci_delta.specs.Deltas.{AreDeltas}
use Rattle.uci_delta.specs.Printed.{lines_of}
use Rattle.uci_delta.proofs.PrintedLemmas.{lines_read}
use Rattle.uci_staged.specs.declared.change.StagedChange.{StagedChange}
use Rattle.uci_staged.specs.Change.{is_of, changes_at, deltas_in, stays, reverted, without, forgotten, kept_text}
use Rattle.uci_staged.specs.Kept.{IsStagedIn, AreStagedIn, AreKept, Follows, ReadsOn, HasFilled, HasEmptied}
use Rattle.uci_staged.proofs.ChangeLemmas.{Leaves, holder_of, file_of, other_number, and_false, each_filter, each_line, other_holder, other_file, reverted_leaves, without_leaves, forgotten_leaves, without_none, forgotten_none, all_stay}
use Rattle.uci_staged.proofs.ChangeLemmas.{deltas-append, one_passed}

-- ---- a disk that tells

pub told : {A : Type 0} (P : A → Type 0) (o : Option A) (x : A) → IfSome o P → o ≡ Some x → P x
told P o x h e = subst (λ (q : Option _). IfSome q P) e h

pub some_same : {A : Type 0} (x y : A) → ◌≡◌ {A = Option A} (Some x) (Some y) → x ≡ y
some_same x y e = cc

-- a disk that tells its files now told them before
record Before (old : View) : Type 0 where
  pub files : Files
  pub seen : old.seen ≡ Some files

before : (old new : View) (files : Files) → Follows old new → new.seen ≡ Some files → Before old
before old new files follows seen = by old.seen refl
  where
    by : (o : Option Files) → old.seen ≡ o → Before old
    by None e = let f : ◌≡◌ {A = Option Files} None (Some files) = sym (follows.silent e) ∙ seen in absurd cc
    by (Some was) e = record { files = was; seen = e }

pub within_files : (view : View) → IsSound view → (files : Files) (file : ℕ) → view.seen ≡ Some files → file < length view.names → file < length files
within_files view sound files file seen below =
    let long : length files ≡ length view.names = told (λ (f : Files). length f ≡ length view.names) view.seen files sound.counted seen in
    omega (arith, long, below)

same_number : (a b : ℕ) → nat_eq a b ≡ true → a ≡ b
same_number a b e = grind (arith, nat_tests)

differs : (a b : ℕ) → nat_eq a b ≡ false → a ≢ b
differs a b e same = let t : nat_eq a b ≡ true = grind (arith, nat_tests) in let f : true ≡ false = sym t ∙ e in cc

-- ---- one file is written

-- the file reads as what is staged of it, and of the others nothing changed
pub kept_filled : (old new : View) (file : ℕ) (text : List ℕ) (changes after : List StagedChange) → IsSound old → Follows old new → file < length old.names → HasFilled old new file text → AreKept old changes
    → AreDeltas (name_at old.names file) text (deltas_in 0 file after) → ((k : ℕ) → k ≢ file → deltas_in 0 k after ≡ deltas_in 0 k changes) → AreKept new after
kept_filled old new file text changes after sound follows within filled kept reads others files seen k low below =
    let was = before old new files follows seen in
    let now : files ≡ with_bytes was.files file text = some_same files (with_bytes was.files file text) (sym seen ∙ filled was.files was.seen) in
    let k_within : k < length old.names = subst (λ (n : List (List ℕ)). k < length n) follows.names below in
    let P : List (List ℕ) → Files → Type 0 = λ n f. AreDeltas (name_at n k) (bytes_of f k) (deltas_in 0 k after) in
    subst (λ (n : List (List ℕ)). P n files) (sym follows.names) (subst (λ (f : Files). P old.names f) (sym now) (by was.files was.seen k_within (nat_eq k file) refl))
  where
    by : (f : Files) → old.seen ≡ Some f → k < length old.names → (t : Bool) → nat_eq k file ≡ t → AreDeltas (name_at old.names k) (bytes_of (with_bytes f file text) k) (deltas_in 0 k after)
    by f was k_within true e =
        let same : k ≡ file = same_number k file e in
        let here : bytes_of (with_bytes f file text) file ≡ text = get_or-set_same f file text [] (within_files old sound f file was within) in
        subst (λ (j : ℕ). AreDeltas (name_at old.names j) (bytes_of (with_bytes f file text) j) (deltas_in 0 j after)) (sym same)
        (subst (λ (t : List ℕ). AreDeltas (name_at old.names file) t (deltas_in 0 file after)) (sym here) reads)
    by f was k_within false e =
        let n : k ≢ file = differs k file e in
        let there : bytes_of (with_bytes f file text) k ≡ bytes_of f k = get_or-set_other f file k text [] n in
        subst (λ (t : List ℕ). AreDeltas (name_at old.names k) t (deltas_in 0 k after)) (sym there)
        (subst (AreDeltas (name_at old.names k) (bytes_of f k)) (sym (others k n)) (kept f was k low k_within))

-- nothing of holder 0 changed, nor did the disk
pub kept_aside : (view : View) (changes after : List StagedChange) → AreKept view changes → ((k : ℕ) → deltas_in 0 k after ≡ deltas_in 0 k changes) → AreKept view after
kept_aside view changes after kept same files seen k low below = subst (AreDeltas (name_at view.names k) (bytes_of files k)) (sym (same k)) (kept files seen k low below)

lines_follow : (old new : View) (changes : List StagedChange) → Follows old new → AreStagedIn old.names changes → AreStagedIn new.names changes
lines_follow old new changes follows h = subst (λ (n : List (List ℕ)). AreStagedIn n changes) (sym follows.names) h

by_holder : {A : Type 0} (holder : ℕ) → (holder ≡ 0 → A) → (holder ≢ 0 → A) → A
by_holder {A} holder own other = by (nat_eq holder 0) refl
  where
    by : (t : Bool) → nat_eq holder 0 ≡ t → A
    by true e = own (same_number holder 0 e)
    by false e = other (differs holder 0 e)

-- ---- a change is staged

pub staged_more : (old new : View) (changes after : List StagedChange) (change : StagedChange) → IsSound old → Follows old new → AreStagedIn old.names changes → AreKept old changes → IsStagedIn old.names change
    → after ≡ changes ++ change ∷ [] → (change.holder ≡ 0 → HasFilled old new change.file (kept_text change.file None after)) → (change.holder ≢ 0 → new ≡ old) → AreStagedIn new.names after × AreKept new after
staged_more old new changes after change sound follows lines kept staged grown filled aside =
    let all : AreStagedIn old.names after = subst (AreStagedIn old.names) (sym grown) (each-append (IsStagedIn old.names) changes (change ∷ []) lines (staged, tt)) in (
      lines_follow old new after follows all,
      by_holder change.holder
          (λ own. kept_filled old new change.file (kept_text change.file None after) changes after sound follows staged.number (filled own) kept
          (subst (λ (l : List StagedChange). AreDeltas (name_at old.names change.file) (lines_of (deltas_in 0 change.file l)) (deltas_in 0 change.file after)) (sym (all_stay 0 change.file after))
          (lines_read (name_at old.names change.file) (deltas_in 0 change.file after) (each_line old.names change.file after all)))
          (λ k n. more k (passed k (λ e. n (sym (file_in k e))))))
          (λ other. subst (λ (v : View). AreKept v after) (sym (aside other)) (kept_aside old changes after kept (λ k. more k (passed k (λ e. other (holder_in k e)))))),
    )
  where
    more : (k : ℕ) → deltas_in 0 k (change ∷ []) ≡ [] → deltas_in 0 k after ≡ deltas_in 0 k changes
    more k none = ap (deltas_in 0 k) grown ∙ deltas-append 0 k changes (change ∷ []) ∙ ap (λ (l : List _). deltas_in 0 k changes ++ l) none ∙ append-nil (deltas_in 0 k changes)

    holder_in : (k : ℕ) → is_of 0 k change ≡ true → change.holder ≡ 0
    holder_in k e = holder_of 0 k change e

    file_in : (k : ℕ) → is_of 0 k change ≡ true → change.file ≡ k
    file_in k e = file_of 0 k change e

    passed : (k : ℕ) → (is_of 0 k change ≡ true → ⊥) → deltas_in 0 k (change ∷ []) ≡ []
    passed k never = by (is_of 0 k change) refl
      where
        by : (t : Bool) → is_of 0 k change ≡ t → deltas_in 0 k (change ∷ []) ≡ []
        by true e = absurd (never e)
        by false e = one_passed 0 k change e

-- ---- and several, of one package

none_of : (holder file k : ℕ) (deltas : List Delta) → (nat_eq holder 0 && nat_eq file k) ≡ false → deltas_in 0 k (changes_at holder file deltas) ≡ []
none_of holder file k [] e = refl
none_of holder file k (delta ∷ deltas) e =
    ap (λ (t : Bool). map (λ (c : StagedChange). c.delta) (cond {A = List StagedChange} t (record { holder = holder; file = file; delta = delta } ∷ filter (is_of 0 k) (changes_at holder file deltas))
    (filter (is_of 0 k) (changes_at holder file deltas)))) e
    ∙ none_of holder file k deltas e

pub staged_all_more : (old new : View) (changes after : List StagedChange) (holder file : ℕ) (deltas : List Delta) → IsSound old → Follows old new → file < length old.names → AreStagedIn old.names changes → AreKept old changes
    → AreStagedIn old.names (changes_at holder file deltas)
    → after ≡ changes ++ changes_at holder file deltas → (holder ≡ 0 → HasFilled old new file (kept_text file None after)) → (holder ≢ 0 → new ≡ old) → AreStagedIn new.names after × AreKept new after
staged_all_more old new changes after holder file deltas sound follows within lines kept staged grown filled aside =
    let all : AreStagedIn old.names after = subst (AreStagedIn old.names) (sym grown) (each-append (IsStagedIn old.names) changes (changes_at holder file deltas) lines staged) in (
      lines_follow old new after follows all,
      by_holder holder
          (λ own. kept_filled old new file (kept_text file None after) changes after sound follows within (filled own) kept
          (subst (λ (l : List StagedChange). AreDeltas (name_at old.names file) (lines_of (deltas_in 0 file l)) (deltas_in 0 file after)) (sym (all_stay 0 file after))
          (lines_read (name_at old.names file) (deltas_in 0 file after) (each_line old.names file after all)))
          (λ k n. more k (none_of holder file k deltas (and_false (nat_eq holder 0) (nat_eq file k) (other_number file k (λ e. n (sym e)))))))
          (λ other. subst (λ (v : View). AreKept v after) (sym (aside other)) (kept_aside old changes after kept (λ k. more k (none_of holder file k deltas (ap (λ (t : Bool). t && nat_eq file k) (other_number holder 0 other)))))),
    )
  where
    more : (k : ℕ) → deltas_in 0 k (changes_at holder file deltas) ≡ [] → deltas_in 0 k after ≡ deltas_in 0 k changes
    more k none = ap (deltas_in 0 k) grown ∙ deltas-append 0 k changes (changes_at holder file deltas) ∙ ap (λ (l : List _). deltas_in 0 k changes ++ l) none ∙ append-nil (deltas_in 0 k changes)

-- ---- changes are dropped

-- of holder 0 in that file only what is left is kept, and the others stay
pub dropped : (old new : View) (holder file : ℕ) (text : List ℕ) (changes after : List StagedChange) (q : StagedChange → Bool) → IsSound old → Follows old new → file < length old.names → AreStagedIn old.names changes → AreKept old changes
    → after ≡ filter q changes → (holder ≡ 0 → HasFilled old new file text) → (holder ≢ 0 → new ≡ old) → (holder ≡ 0 → text ≡ lines_of (deltas_in 0 file after))
    → ((k : ℕ) → Leaves holder file k → deltas_in 0 k after ≡ deltas_in 0 k changes)
    → AreStagedIn new.names after × AreKept new after
dropped old new holder file text changes after q sound follows within lines kept is filled aside whole leaves =
    let all : AreStagedIn old.names after = subst (AreStagedIn old.names) (sym is) (each_filter (IsStagedIn old.names) q changes lines) in (
      lines_follow old new after follows all,
      by_holder holder
          (λ own. kept_filled old new file text changes after sound follows within (filled own) kept
          (subst (λ (t : List ℕ). AreDeltas (name_at old.names file) t (deltas_in 0 file after)) (sym (whole own)) (lines_read (name_at old.names file) (deltas_in 0 file after) (each_line old.names file after all)))
          (λ k n. leaves k (λ change e. other_file k holder file change n e)))
          (λ other. subst (λ (v : View). AreKept v after) (sym (aside other)) (kept_aside old changes after kept (λ k. leaves k (λ change e. other_holder k holder file change other e)))),
    )

pub reverted_on : (old new : View) (holder file : ℕ) (path : Path) (changes after : List StagedChange) → IsSound old → Follows old new → file < length old.names → AreStagedIn old.names changes → AreKept old changes
    → after ≡ reverted holder file path changes → (holder ≡ 0 → HasFilled old new file (kept_text file (Some path) changes)) → (holder ≢ 0 → new ≡ old) → AreStagedIn new.names after × AreKept new after
reverted_on old new holder file path changes after sound follows within lines kept is filled aside =
    dropped old new holder file (kept_text file (Some path) changes) changes after (stays holder file (Some path)) sound follows within lines kept is filled aside
    (λ own. sym (ap (λ (l : List StagedChange). lines_of (deltas_in 0 file l)) (is ∙ ap (λ (h : ℕ). reverted h file path changes) own)))
    (λ k leaves. ap (deltas_in 0 k) is ∙ reverted_leaves holder file k path changes leaves)

pub without_on : (old new : View) (holder file : ℕ) (changes after : List StagedChange) → IsSound old → Follows old new → file < length old.names → AreStagedIn old.names changes → AreKept old changes
    → after ≡ without holder file changes → (holder ≡ 0 → HasFilled old new file []) → (holder ≢ 0 → new ≡ old) → AreStagedIn new.names after × AreKept new after
without_on old new holder file changes after sound follows within lines kept is filled aside =
    dropped old new holder file [] changes after (λ change. not (is_of holder file change)) sound follows within lines kept is filled aside
    (λ own. sym (ap lines_of (ap (deltas_in 0 file) (is ∙ ap (λ (h : ℕ). without h file changes) own) ∙ without_none 0 file changes)))
    (λ k leaves. ap (deltas_in 0 k) is ∙ without_leaves holder file k changes leaves)

pub forgotten_on : (old new : View) (holder : ℕ) (changes after : List StagedChange) → Follows old new → AreStagedIn old.names changes → AreKept old changes
    → after ≡ forgotten holder changes → (holder ≡ 0 → HasEmptied old new) → (holder ≢ 0 → new ≡ old) → AreStagedIn new.names after × AreKept new after
forgotten_on old new holder changes after follows lines kept is emptied aside =
    let all : AreStagedIn old.names after = subst (AreStagedIn old.names) (sym is) (each_filter (IsStagedIn old.names) (λ change. not (nat_eq change.holder holder)) changes lines) in (
      lines_follow old new after follows all,
      by_holder holder
          (λ own files seen k low below.
          let was = before old new files follows seen in
          let now = emptied own was.files was.seen in
          let none : bytes_of files k ≡ [] = ap (λ (f : Files). bytes_of f k) (some_same files now.0 (sym seen ∙ now.1)) ∙ now.2 k low in
          let gone : deltas_in 0 k after ≡ [] = ap (deltas_in 0 k) (is ∙ ap (λ (h : ℕ). forgotten h changes) own) ∙ forgotten_none 0 k changes in
          subst (λ (t : List ℕ). AreDeltas (name_at new.names k) t (deltas_in 0 k after)) (sym none) (subst (AreDeltas (name_at new.names k) []) (sym gone) (lines_read (name_at new.names k) [] tt)))
          (λ other. subst (λ (v : View). AreKept v after) (sym (aside other)) (kept_aside old changes after kept (λ k. ap (deltas_in 0 k) is ∙ forgotten_leaves holder k changes other))),
    )

-- a disk that reads as before
pub reads_on : (old new : View) (changes : List StagedChange) → ReadsOn old new → AreStagedIn old.names changes → AreKept old changes → AreStagedIn new.names changes × AreKept new changes
reads_on old new changes reads lines kept = (
  subst (λ (n : List (List ℕ)). AreStagedIn n changes) (sym reads.names) lines,
  λ files seen k low below. subst (λ (n : List (List ℕ)). AreDeltas (name_at n k) (bytes_of files k) (deltas_in 0 k changes)) (sym reads.names)
      (kept files (sym reads.seen ∙ seen) k low (subst (λ (n : List (List ℕ)). k < length n) reads.names below)),
)
