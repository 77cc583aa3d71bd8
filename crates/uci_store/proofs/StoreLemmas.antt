-- Packages by their names, and a store on its disks.
use Rattle.std.proofs.Common.{ℕ, zero, suc, ◌≡◌, ◌≤◌, ◌<◌, ◌+◌, ◌-◌, Bool, true, false, IsTrue, List, [], ◌∷◌, length, take, drop, get_or, Ok, refl, sym, ap, subst, ◌∙◌, arith, length-drop}
use Rattle.std.specs.Prelude.{◌||◌, nat_eq}
use Rattle.std.specs.Char.{is_ascii_alphanumeric}
use Rattle.std.specs.List.{AllByRecursion, list_all}
use Rattle.std.proofs.lemmas.List.{get_or-drop, take_all}
use Rattle.plane_disk.specs.Names.{name_at, is_package_byte, IsPackageName, AreDiskNames}
use Rattle.plane_disk.specs.View.{View}
use Rattle.snap_disk.specs.Open.{IsOpenOn}
use Rattle.snap_disk.specs.Refusals.{IsGood}
use Rattle.uci_text.specs.declared.byte_class.ByteClass.TheVariants.{PackageName}
use Rattle.uci_text.specs.ByteClass.{is_in, AllIn}
use Rattle.uci_text.specs.Table.{IsNameOf}
use Rattle.uci_tree.specs.declared.package.Package.{Package}
use Rattle.uci_tree.specs.Valid.{IsValid}
use Rattle.uci_delta.specs.declared.delta.Delta.{Delta}
use Rattle.uci_delta.specs.Applied.{applied}
use Rattle.uci_delta.specs.Printed.{IsLine}
use Rattle.uci_delta.proofs.NameLemmas.{first_true, second_true}
use Rattle.uci_delta.proofs.TakenLemmas.{taken_line}
use Rattle.uci_staged.specs.Kept.{IsStagedIn, AreStagedIn, AreKept}
use Rattle.uci_store.specs.declared.store.Store.{Store}
use Rattle.uci_store.specs.Store.{names_of, snap_of, staged_in, name_of, IsStore, IsOnFiles, IsOnStaged}

-- ---- packages by name

each_at : (names : List (List ℕ)) (place : ℕ) → AllByRecursion (IsNameOf PackageName) names → place < length names → IsNameOf PackageName (get_or names place [])
each_at [] place h within = absurd (omega (arith, within))
each_at (name ∷ names) zero h within = h.0
each_at (name ∷ names) (suc place) h within = each_at names place h.1 (omega (arith, within))

pub name_is : (names : List (List ℕ)) (file : ℕ) → AllByRecursion (IsNameOf PackageName) names → 2 ≤ file → file < length names + 2 → IsNameOf PackageName (name_of names file)
name_is names file h low below = each_at names (file - 2) h (omega (arith, low, below))

-- the names of the packages of a disk are names
plain_step : (byte : ℕ) → is_package_byte byte ≡ true → IsTrue (is_in PackageName byte)
plain_step byte e = by (is_ascii_alphanumeric byte) (nat_eq byte 95) (nat_eq byte 45) e
  where
    by : (a b c : Bool) → (a || b || c) ≡ true → IsTrue ((a || b) || c)
    by true b c e = refl
    by false true c e = refl
    by false false c e = e

plain_bytes : (name : List ℕ) → list_all is_package_byte name ≡ true → AllIn PackageName name
plain_bytes [] e = tt
plain_bytes (byte ∷ name) e = (plain_step byte (first_true _ _ e), plain_bytes name (second_true _ _ e))

pub package_name : (name : List ℕ) → IsPackageName name → IsNameOf PackageName name
package_name name h = (h.some, plain_bytes name h.plain)

each_from : (names : List (List ℕ)) → ((place : ℕ) → place < length names → IsNameOf PackageName (get_or names place [])) → AllByRecursion (IsNameOf PackageName) names
each_from [] h = tt
each_from (name ∷ names) h = (h 0 (omega arith), each_from names (λ place within. h (suc place) (omega (arith, within))))

disk_names : (names : List (List ℕ)) → AreDiskNames names → AllByRecursion (IsNameOf PackageName) (drop 2 names)
disk_names names h = each_from (drop 2 names) (λ place within.
    let long : length (drop 2 names) ≡ length names - 2 = length-drop 2 names in
    let p = h.packages (place + 2) (omega arith) (omega (arith, within, long)) in
    let at : name_at names (place + 2) ≡ get_or (drop 2 names) place [] = ap (λ (k : ℕ). get_or names k []) (omega arith) ∙ sym (get_or-drop 2 names place []) in
    subst (IsNameOf PackageName) at (package_name (name_at names (place + 2)) p.named))

pub names_read : (names read : List (List ℕ)) (file : ℕ) → AreDiskNames names → length names ≤ file → read ≡ take (file - 2) (drop 2 names) → AllByRecursion (IsNameOf PackageName) read
names_read names read file h end so_far =
    let long : length (drop 2 names) ≡ length names - 2 = length-drop 2 names in
    subst (AllByRecursion (IsNameOf PackageName)) (sym (so_far ∙ take_all (file - 2) (drop 2 names) (omega (arith, long, end)))) (disk_names names h)

-- ---- a store on its disks

-- the name of a file on a disk
name_there : (view : View) (names : List (List ℕ)) (file : ℕ) → drop 2 view.names ≡ names → 2 ≤ file → name_at view.names file ≡ name_of names file
name_there view names file same low =
    let two : 2 + (file - 2) ≡ file = omega (arith, low) in
    sym (ap (λ (k : ℕ). get_or view.names k []) two) ∙ sym (get_or-drop 2 view.names (file - 2) []) ∙ ap (λ (l : List (List ℕ)). get_or l (file - 2) []) same

-- what a view takes is staged on the disk
pub stage_change : (store : Store) (view : View) (tree taken : Package) (holder file : ℕ) (delta : Delta) → IsOnStaged store view → 2 ≤ file → file < length (names_of store) + 2 → name_of (names_of store) file ≡ delta.package → IsValid tree
    → applied tree delta ≡ Ok taken
    → IsStagedIn view.names (record { holder = holder; file = file; delta = delta })
stage_change store view tree taken holder file delta on low number name valid takes = record {
  low = low;
  number = omega (arith, on.count, number);
  line = subst (λ (n : List ℕ). IsLine n delta) (sym (name_there view (names_of store) file on.names low ∙ name))
      (taken_line tree taken delta valid (subst (IsNameOf PackageName) name (name_is (names_of store) file on.is.named low number)) takes);
}

opened_is : (store : Store) (view : View) → IsOpenOn (snap_of store) view → names_of store ≡ drop 2 view.names → AllByRecursion (IsNameOf PackageName) (names_of store) → IsStore store
opened_is store view opened names named =
    let long = ap length names in
    let rest : length (drop 2 view.names) ≡ length view.names - 2 = length-drop 2 view.names in
    record { counted = omega (arith, long, rest, opened.count); within = opened.within; named = named }

opened_count : (store : Store) (view : View) → IsOpenOn (snap_of store) view → names_of store ≡ drop 2 view.names → length view.names ≡ length (names_of store) + 2
opened_count store view opened names =
    let long = ap length names in
    let rest : length (drop 2 view.names) ≡ length view.names - 2 = length-drop 2 view.names in
    omega (arith, long, rest, opened.count)

pub opened_files : (store : Store) (view : View) → IsOpenOn (snap_of store) view → IsGood (snap_of store) → names_of store ≡ drop 2 view.names → AllByRecursion (IsNameOf PackageName) (names_of store) → IsOnFiles store view
opened_files store view opened good names named = record {
  is = opened_is store view opened names named;
  names = sym names;
  count = opened_count store view opened names;
  snap = opened;
  ready = λ _. good;
}

pub opened_staged : (store : Store) (view staged : View) → IsOpenOn (snap_of store) view → names_of store ≡ drop 2 view.names → AllByRecursion (IsNameOf PackageName) (names_of store) → staged.names ≡ view.names
    → AreStagedIn staged.names (staged_in store) → AreKept staged (staged_in store) → IsOnStaged store staged
opened_staged store view staged opened names named same lines kept = record {
  is = opened_is store view opened names named;
  names = ap (drop 2) same ∙ sym names;
  count = ap length same ∙ opened_count store view opened names;
  lines = lines;
  kept = λ _. kept;
}

-- ---- names that are equal one by one

pub same_names : (a b : List (List ℕ)) → length a ≡ length b → ((k : ℕ) → k < length b → name_at a k ≡ name_at b k) → a ≡ b
same_names [] [] e h = refl
same_names [] (y ∷ b) e h = absurd (omega (arith, e))
same_names (x ∷ a) [] e h = absurd (omega (arith, e))
same_names (x ∷ a) (y ∷ b) e h =
    let head : x ≡ y = h 0 (omega arith) in
    let rest : a ≡ b = same_names a b (omega (arith, e)) (λ k within. h (suc k) (omega (arith, within))) in
    cc
