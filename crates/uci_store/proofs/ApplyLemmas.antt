-- Packages that are gone through for an apply.
use Rattle.std.proofs.Common.{ℕ, ◌≡◌, ◌≢◌, ◌≤◌, ◌<◌, ◌+◌, inl, inr, Bool, true, false, nat_eq, List, [], ◌∷◌, ◌++◌, length, Option, Some, None, refl, sym, subst, ◌∙◌, arith}
use Rattle.std.specs.List.{AllByRecursion}
use Rattle.std.specs.Prelude.{unwrap_or}
use Rattle.std.proofs.lemmas.Bool.Decides.{nat_tests}
use Rattle.snap_disk.specs.declared.new_file.NewFile.{NewFile}
use Rattle.snap_disk.specs.Body.{most_bytes}
use Rattle.snap_disk.specs.Phase.{Stands, ArePackageFiles}
use Rattle.uci_text.proofs.ClassLemmas.{each-append}
use Rattle.uci_staged.specs.Change.{has_deltas}
use Rattle.uci_store.specs.declared.store.Store.{Store}
use Rattle.uci_store.specs.declared.store_error.StoreError.{StoreError}
use Rattle.uci_store.specs.declared.store_error.StoreError.TheVariants.{Parse, TooLarge, Memory}
use Rattle.uci_store.specs.Store.{names_of, staged_in}
use Rattle.uci_store.specs.Committing.{IsNewFile, IsSeenTooLarge, NewFileRefuses}
use Rattle.uci_store.specs.Applying.{EachBefore, HasView, HasSmallView, AreReadAndLarge, FoundSoFar, AreSoFar, NewFilesRefuse}

-- ---- one package more

each_more : (store : Store) (holder file next : ℕ) (P : ℕ → Type 0) → next ≡ file + 1 → EachBefore store holder file P → (has_deltas holder file (staged_in store) ≡ true → P file) → EachBefore store holder next P
each_more store holder file next P step h last k low below some = by (nat_eq k file) refl
  where
    by : (t : Bool) → nat_eq k file ≡ t → P k
    by true e =
        let same : k ≡ file = grind (arith, nat_tests) in
        subst P (sym same) (last (subst (λ (j : ℕ). has_deltas holder j (staged_in store) ≡ true) same some))
    by false e =
        let n : k ≢ file = λ s. let t : nat_eq k file ≡ true = grind (arith, nat_tests) in let g : true ≡ false = sym t ∙ e in cc in
        h k low (omega (arith, step, below, n)) some

stands_push : (new : List NewFile) (one : NewFile) (k : ℕ) → Stands new k → Stands (new ++ one ∷ []) k
stands_push [] one k h = absurd h
stands_push (first ∷ new) one k (inl same) = inl same
stands_push (first ∷ new) one k (inr h) = inr (stands_push new one k h)

stands_last : (new : List NewFile) (one : NewFile) (k : ℕ) → k ≡ one.file → Stands (new ++ one ∷ []) k
stands_last [] one k same = inl same
stands_last (first ∷ new) one k same = inr (stands_last new one k same)

stands_small : (store : Store) (holder : ℕ) (new : List NewFile) (k : ℕ) → AllByRecursion (IsNewFile store holder) new → Stands new k → HasSmallView store holder k
stands_small store holder [] k all h = absurd h
stands_small store holder (one ∷ new) k all (inl same) =
    let small : HasSmallView store holder one.file = record { view = all.0.view; seen = all.0.seen; fits = subst (λ (t : List ℕ). length t ≤ most_bytes) all.0.text all.0.fits } in
    subst (HasSmallView store holder) (sym same) small
stands_small store holder (one ∷ new) k all (inr h) = stands_small store holder new k all.1 h

pub start_found : (store : Store) (holder : ℕ) → AreSoFar store holder 2 [] None
start_found store holder = record { read = λ k low below some. absurd (omega (arith, low, below)); found = (tt, λ k low below some. absurd (omega (arith, low, below))) }

pub taken_on : (store : Store) (holder file next : ℕ) (new pushed : List NewFile) (one : NewFile) (large : Option ℕ) → next ≡ file + 1 → one.file ≡ file → IsNewFile store holder one → pushed ≡ new ++ one ∷ []
    → AreSoFar store holder file new large → AreSoFar store holder next pushed large
taken_on store holder file next new pushed one large step number is grown so_far = record {
  read = each_more store holder file next (HasView store holder) step so_far.read (λ some. subst (HasView store holder) number (is.view, is.seen));
  found = by large so_far.found;
}
  where
    by : (l : Option ℕ) → FoundSoFar store holder file new l → FoundSoFar store holder next pushed l
    by None found = (
      subst (AllByRecursion (IsNewFile store holder)) (sym grown) (each-append (IsNewFile store holder) new (one ∷ []) found.0 (is, tt)),
      subst (λ (l : List NewFile). EachBefore store holder next (Stands l)) (sym grown)
          (each_more store holder file next (Stands (new ++ one ∷ [])) step (λ k low below some. stands_push new one k (found.1 k low below some)) (λ some. stands_last new one file (sym number))),
    )
    by (Some bytes) found = found

pub large_on : (store : Store) (holder file next bytes : ℕ) (new : List NewFile) (large : Option ℕ) → next ≡ file + 1 → 2 ≤ file → file < length (names_of store) + 2 → has_deltas holder file (staged_in store) ≡ true
    → IsSeenTooLarge store holder file bytes → AreSoFar store holder file new large
    → AreSoFar store holder next new (Some (unwrap_or large bytes))
large_on store holder file next bytes new large step low number some is so_far = record {
  read = each_more store holder file next (HasView store holder) step so_far.read (λ _. (is.view, is.seen));
  found = by large so_far.found;
}
  where
    by : (l : Option ℕ) → FoundSoFar store holder file new l → FoundSoFar store holder next new (Some (unwrap_or l bytes))
    by None found = record { file = file; low = low; number = number; some = some; large = is; before = λ k k_low below has. stands_small store holder new k found.0 (found.1 k k_low below has) }
    by (Some before) found = found

-- the size of a package that does not fit
pub too_large : (store : Store) (holder file : ℕ) (error : StoreError) (bytes : ℕ) → error ≡ TooLarge bytes → NewFileRefuses store holder file error → IsSeenTooLarge store holder file bytes
too_large store holder file error bytes is (inl (inl h)) = absurd (let f : ◌≡◌ {A = StoreError} (Parse h.0) (TooLarge bytes) = sym h.1 ∙ is in cc)
too_large store holder file error bytes is (inl (inr m)) = absurd (let f : ◌≡◌ {A = StoreError} Memory (TooLarge bytes) = sym m ∙ is in cc)
too_large store holder file error bytes is (inr h) = let f : ◌≡◌ {A = StoreError} (TooLarge h.0) (TooLarge bytes) = sym h.1 ∙ is in let same : h.0 ≡ bytes = cc in subst (λ (n : ℕ). IsSeenTooLarge store holder file n) same h.2

-- ---- all packages

pub all_large : (store : Store) (holder file bytes : ℕ) (new : List NewFile) → file ≡ length (names_of store) + 2 → AreSoFar store holder file new (Some bytes) → NewFilesRefuse store holder (TooLarge bytes)
all_large store holder file bytes new end so_far =
    let d : AreReadAndLarge store holder bytes = record { read = subst (λ (k : ℕ). EachBefore store holder k (HasView store holder)) end so_far.read; first = so_far.found } in
    inr (inl (bytes, refl, d))

pub package_files : (store : Store) (holder : ℕ) (new : List NewFile) → AllByRecursion (IsNewFile store holder) new → ArePackageFiles (length (names_of store) + 2) new
package_files store holder [] h = tt
package_files store holder (one ∷ new) h = (record { low = h.0.low; number = h.0.number; small = h.0.fits }, package_files store holder new h.1)
