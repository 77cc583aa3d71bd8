-- What is seen of packages.
use Rattle.std.proofs.Common.{ℕ, ◌≡◌, Bool, true, false, cond, List, [], ◌∷◌, map, Option, Some, None, Result, Ok, Err, refl, ap, sym, subst, ◌∙◌}
use Rattle.std.specs.Prelude.{filter}
use Rattle.std.specs.Option.{ok_or}
use Rattle.uci_tree.specs.declared.fault.Fault.{Fault}
use Rattle.uci_tree.specs.declared.package.Package.{Package}
use Rattle.uci_tree.specs.declared.tree_error.TreeError.{TreeError}
use Rattle.uci_tree.specs.Fault.{fault_of}
use Rattle.uci_delta.specs.Batch.{all_applied}
use Rattle.uci_delta.specs.declared.delta.Delta.{Delta}
use Rattle.uci_delta.specs.Shape.{HasShape}
use Rattle.uci_staged.specs.declared.change.StagedChange.{StagedChange}
use Rattle.uci_staged.specs.Change.{is_of, deltas_in}
use Rattle.uci_store.specs.declared.store.Store.{Store}
use Rattle.uci_store.specs.declared.store_error.StoreError.{StoreError}
use Rattle.uci_store.specs.declared.store_error.StoreError.TheVariants as store_error
use Rattle.uci_store.specs.Store.{names_of, files_of, staged_in, name_of, text_of, file_of}
use Rattle.uci_store.specs.Refusals.{LacksReading, IsSeenAt, IsSeen, ReadRefuses, AreChanges, ChangesRefuse}
use Rattle.uci_cli.specs.declared.refusal.Refusal.{Refusal}
use Rattle.uci_cli.specs.declared.refusal.Refusal.TheVariants.{NoPackage}
use Rattle.uci_cli.specs.Changes.{change_lines, HaveShape}
use Rattle.uci_tool.specs.declared.stop.Stop.{Stop}
use Rattle.uci_tool.specs.Folder.{Folder, folder_of, file_in}
use Rattle.uci_tool.specs.Seen.{if_ok, refusal_of, parsed, seen_at, seen}
use Rattle.uci_tool.specs.Answers.{Answers, HaveShapes, stop_of, stop_of_fault}
use Rattle.uci_tool.proofs.ReadingLemmas.{package_is, fault_is}

-- a package with a file is what follows at that file, and one without is refused
pub at_file : {A : Type 0} (folder : Folder) (name : List ℕ) (file : ℕ) (next : ℕ → Result A Refusal) → file_of folder.names name ≡ Some file → if_ok (file_in folder name) next ≡ next file
at_file folder name file next number = ap (λ (z : Option ℕ). if_ok (ok_or z NoPackage) next) number

pub no_file : {A : Type 0} (folder : Folder) (name : List ℕ) (next : ℕ → Result A Refusal) → file_of folder.names name ≡ None → if_ok (file_in folder name) next ≡ Err NoPackage
no_file folder name next none = ap (λ (z : Option ℕ). if_ok (ok_or z NoPackage) next) none

pub seen_there : (store : Store) (file : ℕ) (view : Package) → IsSeenAt store 0 file view → seen_at (folder_of store) file ≡ Ok view
seen_there store file view s =
    ap (λ (z : Result Package TreeError). if_ok (parsed z) (λ tree. Ok (all_applied tree (deltas_in 0 file (staged_in store))))) (package_is (name_of (names_of store) file) (text_of (files_of store) file) s.base s.reads)
    ∙ (let same : all_applied s.base (deltas_in 0 file (staged_in store)) ≡ view = sym s.is in cc)

pub seen_is : (store : Store) (name : List ℕ) (view : Package) → IsSeen store 0 name view → seen (folder_of store) name ≡ Ok view
seen_is store name view s = at_file (folder_of store) name s.file (seen_at (folder_of store)) s.number ∙ seen_there store s.file view s.seen

-- a file that does not read stops what would be seen of it
pub unread_there : {A : Type 0} (store : Store) (file : ℕ) (error : TreeError) (next : Package → Result A Refusal) → LacksReading store file error → if_ok (seen_at (folder_of store) file) next ≡ Err (refusal_of (fault_of error))
unread_there {A} store file error next lacks = ap (λ (z : Result Package TreeError). if_ok (if_ok (parsed z) (λ tree. Ok (all_applied tree (deltas_in 0 file (staged_in store))))) next)
    (fault_is (name_of (names_of store) file) (text_of (files_of store) file) error lacks)

-- and is told as such, where it has a line and a reason
pub fault_answers : {A : Type 0} (fault : Option Fault) (expected : Result A Refusal) → expected ≡ Err (refusal_of fault) → Answers {A = A} (Err (stop_of_fault fault)) expected
fault_answers None expected is = tt
fault_answers (Some fault) expected is = is

seen_itself : (folder : Folder) (file : ℕ) → seen_at folder file ≡ if_ok (seen_at folder file) (λ view. Ok view)
seen_itself folder file = go (seen_at folder file)
  where
    go : (r : Result Package Refusal) → r ≡ if_ok r (λ view. Ok view)
    go (Ok view) = refl
    go (Err refusal) = refl

pub read_refused : (store : Store) (name : List ℕ) (error : StoreError) → ReadRefuses store name error → Answers {A = Package} (Err (stop_of error)) (seen (folder_of store) name)
read_refused store name store_error.NoPackage none = no_file (folder_of store) name (seen_at (folder_of store)) none
read_refused store name (store_error.Parse error) lacks = fault_answers (fault_of error) (seen (folder_of store) name)
    (at_file (folder_of store) name lacks.file (seen_at (folder_of store)) lacks.number ∙ seen_itself (folder_of store) lacks.file ∙ unread_there store lacks.file error (λ view. Ok view) lacks.fault)
read_refused store name store_error.Memory h = tt
read_refused store name (store_error.Snap error) h = absurd h
read_refused store name (store_error.Delta error) h = absurd h
read_refused store name (store_error.TooLarge bytes) h = absurd h
read_refused store name (store_error.NotHolder holder) h = absurd h
read_refused store name store_error.NothingStaged h = absurd h

-- what is staged of a package
pub changes_are : (store : Store) (name : List ℕ) (deltas : List Delta) (result : Result (List ℕ) Stop) → AreChanges store 0 name deltas → Answers result (Ok (change_lines deltas))
    → Answers result (if_ok (file_in (folder_of store) name) (λ file. Ok (change_lines (deltas_in 0 file (staged_in store)))))
changes_are store name deltas result are answers =
    let at : if_ok (file_in (folder_of store) name) (λ file. Ok (change_lines (deltas_in 0 file (staged_in store)))) ≡ Ok (change_lines (deltas_in 0 are.file (staged_in store))) =
    at_file (folder_of store) name are.file (λ file. Ok (change_lines (deltas_in 0 file (staged_in store)))) are.number in
    let same : change_lines (deltas_in 0 are.file (staged_in store)) ≡ change_lines deltas = ap change_lines (sym are.are) in
    let whole : if_ok (file_in (folder_of store) name) (λ file. Ok (change_lines (deltas_in 0 file (staged_in store)))) ≡ Ok (change_lines deltas) = cc in
    subst (λ (z : Result (List ℕ) Refusal). Answers result z) (sym whole) answers

pub changes_refused : (store : Store) (name : List ℕ) (error : StoreError) → ChangesRefuse store name error
    → Answers {A = List ℕ} (Err (stop_of error)) (if_ok (file_in (folder_of store) name) (λ file. Ok (change_lines (deltas_in 0 file (staged_in store)))))
changes_refused store name store_error.NoPackage none = no_file (folder_of store) name (λ file. Ok (change_lines (deltas_in 0 file (staged_in store)))) none
changes_refused store name store_error.Memory h = tt
changes_refused store name (store_error.Parse error) h = absurd h
changes_refused store name (store_error.Snap error) h = absurd h
changes_refused store name (store_error.Delta error) h = absurd h
changes_refused store name (store_error.TooLarge bytes) h = absurd h
changes_refused store name (store_error.NotHolder holder) h = absurd h
changes_refused store name store_error.NothingStaged h = absurd h

-- what is staged of a package has a shape each
shape_step : (t : Bool) (change : StagedChange) (rest : List StagedChange) → HasShape change.delta → HaveShape (map (λ (one : StagedChange). one.delta) rest)
    → HaveShape (map (λ (one : StagedChange). one.delta) (cond t (change ∷ rest) rest))
shape_step true change rest one others = (one, others)
shape_step false change rest one others = others

pub shapes_in : (changes : List StagedChange) (holder file : ℕ) → HaveShapes changes → HaveShape (deltas_in holder file changes)
shapes_in [] holder file h = tt
shapes_in (change ∷ changes) holder file h = shape_step (is_of holder file change) change (filter (is_of holder file) changes) h.0 (shapes_in changes holder file h.1)
