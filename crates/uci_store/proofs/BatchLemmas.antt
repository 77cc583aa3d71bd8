-- Several changes that are staged at once.
use Rattle.std.proofs.Common.{ℕ, suc, ◌≡◌, ◌≢◌, ◌≤◌, ◌<◌, ◌+◌, Bool, true, false, List, [], ◌∷◌, ◌++◌, length, map, drop, get_or, Option, Some, Result, Ok, Err, nat_eq, refl, sym, ap, subst, ◌∙◌, append_assoc, drop-cons, eq-eqb}
use Rattle.std.specs.Prelude.{◌&&◌, filter}
use Rattle.std.specs.List.{AllByRecursion}
use Rattle.std.proofs.lemmas.List.{map-append}
use Rattle.std.proofs.Math.Numerals.{suc-eq-add-one}
use Rattle.std.proofs.lemmas.List.Elements.{filter-append}
use Rattle.plane_disk.specs.View.{View}
use Rattle.snap_disk.specs.Opened.{State}
use Rattle.uci_tree.specs.declared.package.Package.{Package}
use Rattle.uci_tree.specs.Reading.{Reads}
use Rattle.uci_tree.specs.Valid.{IsValid}
use Rattle.uci_tree.proofs.ReadingLemmas.{one_tree}
use Rattle.uci_delta.specs.declared.delta.Delta.{Delta}
use Rattle.uci_delta.specs.declared.delta_error.DeltaError.{DeltaError}
use Rattle.uci_delta.specs.declared.delta_error.DeltaError.TheVariants.{NotFound, Invalid, Duplicate, Memory as DeltaMemory}
use Rattle.uci_delta.specs.Applied.{applied}
use Rattle.uci_delta.specs.Batch.{or_before, all_applied}
use Rattle.uci_delta.specs.DeltaError.{IsRefusalOf}
use Rattle.uci_delta.proofs.ValidLemmas.{applied_valid}
use Rattle.uci_staged.specs.declared.change.StagedChange.{StagedChange}
use Rattle.uci_staged.specs.Change.{is_of, changes_at, deltas_in}
use Rattle.uci_staged.specs.Kept.{AreStagedIn}
use Rattle.uci_staged.specs.declared.staged_error.StagedError.{StagedError}
use Rattle.uci_staged.specs.declared.staged_error.StagedError.TheVariants.{DiskFailed as StagedFailed, Memory as StagedMemory}
use Rattle.uci_staged.specs.StagedError.{KeepRefuses}
use Rattle.uci_store.specs.declared.store.Store.{Store}
use Rattle.uci_store.specs.declared.store_error.StoreError.{StoreError}
use Rattle.uci_store.specs.declared.store_error.StoreError.TheVariants.{Delta as NotTaken, Memory}
use Rattle.uci_store.specs.Store.{names_of, files_of, staged_in, has_failed, file_of, name_of, text_of, IsOnStaged}
use Rattle.uci_store.specs.Refusals.{HasFile, ReadsAt, IsSeenAt, DoesNotTake}
use Rattle.uci_store.specs.Staging.{HasStaged}
use Rattle.uci_store.specs.StoreError.{IsDiskAnswer}
use Rattle.uci_store.specs.Batch.{IsOf, taken_from, all_taken, HasStagedBatch, DoesNotTakeBatch, BatchRefuses, HasSameFiles}
use Rattle.uci_store.proofs.StoreLemmas.{stage_change}

-- ---- one delta after another

-- what is refused stays so
pub stops : (error : DeltaError) (deltas : List Delta) → taken_from (Err error) deltas ≡ Err error
stops error [] = refl
stops error (delta ∷ deltas) = stops error deltas

-- of those that are left one is applied
left_is : (tree : Package) (all : List Delta) (delta d : Delta) (i : ℕ) → i < length all → delta ≡ get_or all i d → taken_from (Ok tree) (drop i all) ≡ taken_from (applied tree delta) (drop (i + 1) all)
left_is tree all delta d i inside is =
    let split : drop i all ≡ delta ∷ drop (i + 1) all = drop-cons all i d inside ∙ ap (λ (x : Delta). x ∷ drop (suc i) all) (sym is) ∙ ap (λ (k : ℕ). delta ∷ drop k all) (suc-eq-add-one i) in
    ap (taken_from (Ok tree)) split

pub one_taken : (start tree next : Package) (all : List Delta) (delta d : Delta) (i : ℕ) → i < length all → delta ≡ get_or all i d → all_taken start all ≡ taken_from (Ok tree) (drop i all) → applied tree delta ≡ Ok next
    → all_taken start all ≡ taken_from (Ok next) (drop (i + 1) all)
one_taken start tree next all delta d i inside is so_far takes = so_far ∙ left_is tree all delta d i inside is ∙ ap (λ (r : Result Package DeltaError). taken_from r (drop (i + 1) all)) takes

pub one_refused : (start tree : Package) (all : List Delta) (delta d : Delta) (error : DeltaError) (i : ℕ) → i < length all → delta ≡ get_or all i d → all_taken start all ≡ taken_from (Ok tree) (drop i all)
    → IsRefusalOf (applied tree delta) error → IsRefusalOf (all_taken start all) error
one_refused start tree all delta d error i inside is so_far why = by error why
  where
    refused : (e : DeltaError) → applied tree delta ≡ Err e → all_taken start all ≡ Err e
    refused e h = so_far ∙ left_is tree all delta d i inside is ∙ ap (λ (r : Result Package DeltaError). taken_from r (drop (i + 1) all)) h ∙ stops e (drop (i + 1) all)

    by : (e : DeltaError) → IsRefusalOf (applied tree delta) e → IsRefusalOf (all_taken start all) e
    by NotFound h = refused NotFound h
    by Invalid h = refused Invalid h
    by Duplicate h = refused Duplicate h
    by DeltaMemory h = tt

-- ---- deltas that the view takes

-- each of them is staged on the disk
lines_step : (store : Store) (view : View) (tree taken : Package) (holder file : ℕ) (name : List ℕ) (delta : Delta) (deltas : List Delta) → IsOnStaged store view → 2 ≤ file → file < length (names_of store) + 2
    → name_of (names_of store) file ≡ name → IsValid tree → IsOf name delta → all_taken tree (delta ∷ deltas) ≡ Ok taken
    → ((next : Package) → IsValid next → all_taken next deltas ≡ Ok taken → AreStagedIn view.names (changes_at holder file deltas)) → (r : Result Package DeltaError) → applied tree delta ≡ r
    → AreStagedIn view.names (changes_at holder file (delta ∷ deltas))
lines_step store view tree taken holder file name delta deltas on low number named valid one takes others (Ok next) e = (
  stage_change store view tree next holder file delta on low number (named ∙ sym one) valid e,
  others next (applied_valid tree next delta valid e) (ap (λ (r : Result Package DeltaError). taken_from r deltas) (sym e) ∙ takes),
)
lines_step store view tree taken holder file name delta deltas on low number named valid one takes others (Err error) e =
    absurd (let f : ◌≡◌ {A = Result Package DeltaError} (Err error) (Ok taken) = sym (stops error deltas) ∙ ap (λ (r : Result Package DeltaError). taken_from r deltas) (sym e) ∙ takes in cc)

pub batch_lines : (store : Store) (view : View) (tree taken : Package) (holder file : ℕ) (name : List ℕ) (deltas : List Delta) → IsOnStaged store view → 2 ≤ file → file < length (names_of store) + 2 → name_of (names_of store) file ≡ name
    → IsValid tree → AllByRecursion (IsOf name) deltas → all_taken tree deltas ≡ Ok taken
    → AreStagedIn view.names (changes_at holder file deltas)
batch_lines store view tree taken holder file name [] on low number named valid each takes = tt
batch_lines store view tree taken holder file name (delta ∷ deltas) on low number named valid each takes =
    lines_step store view tree taken holder file name delta deltas on low number named valid each.0 takes
    (λ next sound rest. batch_lines store view next taken holder file name deltas on low number named sound each.1 rest) (applied tree delta) refl

-- ---- deltas that it does not take

does_not_take : (store : Store) (holder file : ℕ) (name : List ℕ) (deltas : List Delta) (view : Package) (error : DeltaError) → HasFile store name file → IsSeenAt store holder file view → all_taken view deltas ≡ Err error
    → DoesNotTakeBatch store holder name deltas error
does_not_take store holder file name deltas view error number seen why = record {
  view = view;
  seen = record { file = file; number = number; seen = seen };
  refused = why;
}

-- the view did not take one of them, or there was no memory
pub batch_not_taken : (store : Store) (holder file : ℕ) (name : List ℕ) (deltas : List Delta) (view : Package) (old new : View) (error : DeltaError) (answer : StoreError) → has_failed store ≡ false → HasFile store name file
    → IsSeenAt store holder file view → IsRefusalOf (all_taken view deltas) error
    → (error ≡ DeltaMemory → answer ≡ Memory) × (error ≢ DeltaMemory → answer ≡ NotTaken error) → BatchRefuses store holder name deltas old new answer
batch_not_taken store holder file name deltas view old new NotFound answer ready number seen why from =
    subst (BatchRefuses store holder name deltas old new) (sym (from.1 (λ e. cc))) (ready, does_not_take store holder file name deltas view NotFound number seen why)
batch_not_taken store holder file name deltas view old new Invalid answer ready number seen why from =
    subst (BatchRefuses store holder name deltas old new) (sym (from.1 (λ e. cc))) (ready, does_not_take store holder file name deltas view Invalid number seen why)
batch_not_taken store holder file name deltas view old new Duplicate answer ready number seen why from =
    subst (BatchRefuses store holder name deltas old new) (sym (from.1 (λ e. cc))) (ready, does_not_take store holder file name deltas view Duplicate number seen why)
batch_not_taken store holder file name deltas view old new DeltaMemory answer ready number seen why from =
    subst (BatchRefuses store holder name deltas old new) (sym (from.0 refl)) (ready, (file, number))

-- the view took them, and the disk failed or there was no memory
pub batch_not_kept : (store : Store) (holder file : ℕ) (name : List ℕ) (deltas : List Delta) (view taken : Package) (old new : View) (was now : Bool) (error : StagedError) (answer : StoreError) → has_failed store ≡ false
    → HasFile store name file → IsSeenAt store holder file view → all_taken view deltas ≡ Ok taken
    → KeepRefuses holder old new error → IsDiskAnswer error answer was now → BatchRefuses store holder name deltas old new answer
batch_not_kept store holder file name deltas view taken old new was now StagedFailed answer ready number seen takes why from =
    subst (BatchRefuses store holder name deltas old new) (sym from.0)
    (ready, why.0, record { view = view; seen = record { file = file; number = number; seen = seen }; taken = taken; takes = takes }, why.1)
batch_not_kept store holder file name deltas view taken old new was now StagedMemory answer ready number seen takes why from =
    subst (BatchRefuses store holder name deltas old new) (sym from.0) (ready, (file, number))

-- ---- one change, and then the others

one_file : (store : Store) (name : List ℕ) (file other : ℕ) → HasFile store name file → HasFile store name other → other ≡ file
one_file store name file other h g = let e : ◌≡◌ {A = Option ℕ} (Some other) (Some file) = sym g ∙ h in cc

file_there : (old mid : Store) (name : List ℕ) (file : ℕ) → HasSameFiles old mid → HasFile mid name file → HasFile old name file
file_there old mid name file same h = ap (λ (z : List (List ℕ)). file_of z name) (sym same.names) ∙ h

reads_there : (old mid : Store) (file : ℕ) (tree : Package) → HasSameFiles old mid → ReadsAt mid file tree → ReadsAt old file tree
reads_there old mid file tree same h =
    let at : name_of (names_of mid) file ≡ name_of (names_of old) file = ap (λ (z : List (List ℕ)). name_of z file) same.names in
    let text : text_of (files_of mid) file ≡ text_of (files_of old) file = ap (λ (z : State). text_of z file) same.files in
    subst (λ (n : List ℕ). Reads n (text_of (files_of old) file) tree) at (subst (λ (t : List ℕ). Reads (name_of (names_of mid) file) t tree) text h)

both_true : (s t : Bool) → s ≡ true → t ≡ true → (s && t) ≡ true
both_true s t e f = subst (λ (b : Bool). (b && t) ≡ true) (sym e) f

is_own : (holder file : ℕ) (delta : Delta) → is_of holder file (record { holder = holder; file = file; delta = delta }) ≡ true
is_own holder file delta = both_true (nat_eq holder holder) (nat_eq file file) (eq-eqb holder holder refl) (eq-eqb file file refl)

only_kept : (p : StagedChange → Bool) (change : StagedChange) → p change ≡ true → filter p (change ∷ []) ≡ change ∷ []
only_kept p change e = rw e refl

abbrev delta_in : StagedChange → Delta
delta_in change = change.delta

deltas_more : (holder file : ℕ) (changes : List StagedChange) (delta : Delta) → deltas_in holder file (changes ++ record { holder = holder; file = file; delta = delta } ∷ []) ≡ deltas_in holder file changes ++ delta ∷ []
deltas_more holder file changes delta =
    let change : StagedChange = record { holder = holder; file = file; delta = delta } in
    ap (map delta_in) (filter-append (is_of holder file) changes (change ∷ []))
    ∙ map-append delta_in (filter (is_of holder file) changes) (filter (is_of holder file) (change ∷ []))
    ∙ ap (λ (z : List StagedChange). map delta_in (filter (is_of holder file) changes) ++ map delta_in z) (only_kept (is_of holder file) change (is_own holder file delta))

applied_more : (tree : Package) (deltas : List Delta) (delta : Delta) → all_applied tree (deltas ++ delta ∷ []) ≡ or_before (all_applied tree deltas) (applied (all_applied tree deltas) delta)
applied_more tree [] delta = refl
applied_more tree (first ∷ deltas) delta = applied_more (or_before tree (applied tree first)) deltas delta

-- behind a change that the view took, the holder sees what the view became
next_seen : (old mid : Store) (holder file : ℕ) (view taken next : Package) (delta : Delta) → HasSameFiles old mid → staged_in mid ≡ staged_in old ++ record { holder = holder; file = file; delta = delta } ∷ []
    → IsSeenAt old holder file view → applied view delta ≡ Ok taken → IsSeenAt mid holder file next → next ≡ taken
next_seen old mid holder file view taken next delta same grown seen takes behind =
    let more : deltas_in holder file (staged_in mid) ≡ deltas_in holder file (staged_in old) ++ delta ∷ [] = ap (deltas_in holder file) grown ∙ deltas_more holder file (staged_in old) delta in
    let ds = deltas_in holder file (staged_in old) in
    let base : behind.base ≡ seen.base = one_tree (name_of (names_of old) file) (text_of (files_of old) file) seen.base behind.base seen.reads (reads_there old mid file behind.base same behind.reads) in
    behind.is
    ∙ ap (λ (z : Package). all_applied z (deltas_in holder file (staged_in mid))) base
    ∙ ap (all_applied seen.base) more
    ∙ applied_more seen.base ds delta
    ∙ ap (λ (z : Package). or_before z (applied z delta)) (sym seen.is)
    ∙ ap (or_before view) takes

-- the view before the first change, what came of that change, and that what is seen then goes on from there
record GoesOn (old mid : Store) (holder file : ℕ) (name : List ℕ) (delta : Delta) (next : Package) : Type 0 where
  pub number : HasFile old name file
  pub view : Package
  pub seen : IsSeenAt old holder file view
  pub takes : applied view delta ≡ Ok next
  pub grown : staged_in mid ≡ staged_in old ++ record { holder = holder; file = file; delta = delta } ∷ []

goes_on : (old mid : Store) (holder file : ℕ) (name : List ℕ) (delta : Delta) (next : Package) → IsOf name delta → HasSameFiles old mid → HasStaged old mid holder delta → HasFile mid name file → IsSeenAt mid holder file next
    → GoesOn old mid holder file name delta next
goes_on old mid holder file name delta next one same first number seen =
    let there : HasFile old name file = file_there old mid name file same number in
    let named : HasFile old name first.file = ap (λ (z : List ℕ). file_of (names_of old) z) (sym one) ∙ first.number in
    let here : first.file ≡ file = one_file old name file first.file there named in
    let view : IsSeenAt old holder file first.view = subst (λ (k : ℕ). IsSeenAt old holder k first.view) here first.seen in
    let grown : staged_in mid ≡ staged_in old ++ record { holder = holder; file = file; delta = delta } ∷ [] = subst (λ (k : ℕ). staged_in mid ≡ staged_in old ++ record { holder = holder; file = k; delta = delta } ∷ []) here first.staged in
    record {
      number = there;
      view = first.view;
      seen = view;
      takes = subst (λ (z : Package). applied first.view delta ≡ Ok z) (sym (next_seen old mid holder file first.view first.taken next delta same grown view first.takes seen)) first.takes;
      grown = grown;
    }

pub one_then_others : (old mid new : Store) (holder : ℕ) (name : List ℕ) (delta : Delta) (deltas : List Delta) → IsOf name delta → HasSameFiles old mid → HasStaged old mid holder delta → HasStagedBatch mid new holder name deltas
    → HasStagedBatch old new holder name (delta ∷ deltas)
one_then_others old mid new holder name delta deltas one same first rest =
    let on = goes_on old mid holder rest.file name delta rest.view one same first rest.number rest.seen in
    record {
      ready = first.ready;
      file = rest.file;
      number = on.number;
      view = on.view;
      seen = on.seen;
      taken = rest.taken;
      takes = ap (λ (r : Result Package DeltaError). taken_from r deltas) on.takes ∙ rest.takes;
      staged = rest.staged ∙ ap (λ (z : List StagedChange). z ++ changes_at holder rest.file deltas) on.grown
          ∙ append_assoc (staged_in old) (record { holder = holder; file = rest.file; delta = delta } ∷ []) (changes_at holder rest.file deltas);
    }

pub first_refused : (store : Store) (holder : ℕ) (name : List ℕ) (delta : Delta) (deltas : List Delta) (error : DeltaError) → IsOf name delta → DoesNotTake store holder delta error → DoesNotTakeBatch store holder name (delta ∷ deltas) error
first_refused store holder name delta deltas error one h =
    does_not_take store holder h.seen.file name (delta ∷ deltas) h.view error (ap (λ (z : List ℕ). file_of (names_of store) z) (sym one) ∙ h.seen.number) h.seen.seen
    (ap (λ (r : Result Package DeltaError). taken_from r deltas) h.refused ∙ stops error deltas)

pub later_refused : (old mid : Store) (holder : ℕ) (name : List ℕ) (delta : Delta) (deltas : List Delta) (error : DeltaError) → IsOf name delta → HasSameFiles old mid → HasStaged old mid holder delta
    → DoesNotTakeBatch mid holder name deltas error → DoesNotTakeBatch old holder name (delta ∷ deltas) error
later_refused old mid holder name delta deltas error one same first h =
    let on = goes_on old mid holder h.seen.file name delta h.view one same first h.seen.number h.seen.seen in
    does_not_take old holder h.seen.file name (delta ∷ deltas) on.view error on.number on.seen
    (ap (λ (r : Result Package DeltaError). taken_from r deltas) on.takes ∙ h.refused)
