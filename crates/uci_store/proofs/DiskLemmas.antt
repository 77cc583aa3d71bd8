-- A store on its disks behind a call that took one of them alone.
use Rattle.std.proofs.Common.{◌≡◌, Bool, true, false, length, Result, Ok, Err, sym, ap, subst, ◌∙◌, arith}
use Rattle.std.specs.List.{AllByRecursion}
use Rattle.plane_disk.specs.View.{View}
use Rattle.snap_disk.specs.Opened.{IsWithin}
use Rattle.snap_disk.specs.Open.{IsOpenOn, state_of}
use Rattle.snap_disk.specs.Refusals.{IsGood}
use Rattle.snap_disk.specs.declared.snap_error.SnapError.TheVariants.{DiskFailed, Waiting, NothingWaits, BadSnapshot, Reopen, Limit, Memory as SnapMemory}
use Rattle.uci_text.specs.declared.byte_class.ByteClass.TheVariants.{PackageName}
use Rattle.uci_text.specs.Table.{IsNameOf}
use Rattle.uci_staged.specs.Kept.{AreStagedIn, AreKept}
use Rattle.uci_store.specs.declared.store.Store.{Store}
use Rattle.uci_store.specs.declared.store_error.StoreError.{StoreError}
use Rattle.uci_store.specs.declared.store_error.StoreError.TheVariants.{Snap, NoPackage, Parse, Delta, TooLarge, NotHolder, NothingStaged, Memory}
use Rattle.uci_store.specs.Store.{names_of, snap_of, staged_in, has_failed, IsStore, IsOnFiles, IsOnStaged}
use Rattle.uci_store.specs.Staging.{IsWhole}

-- a store that has not failed had not failed before
pub still_good : {X : Type 0} (r : Result X StoreError) (old new : Bool) → IsWhole r old new → new ≡ false → old ≡ false
still_good (Ok x) old new e f = sym e ∙ f
still_good (Err (Snap DiskFailed)) old new e f = absurd (let g : true ≡ false = sym e ∙ f in cc)
still_good (Err (Snap (Waiting deadline))) old new e f = sym e ∙ f
still_good (Err (Snap NothingWaits)) old new e f = sym e ∙ f
still_good (Err (Snap (BadSnapshot place))) old new e f = sym e ∙ f
still_good (Err (Snap Reopen)) old new e f = sym e ∙ f
still_good (Err (Snap (Limit number))) old new e f = sym e ∙ f
still_good (Err (Snap SnapMemory)) old new e f = sym e ∙ f
still_good (Err NoPackage) old new e f = sym e ∙ f
still_good (Err (Parse error)) old new e f = sym e ∙ f
still_good (Err (Delta error)) old new e f = sym e ∙ f
still_good (Err (TooLarge bytes)) old new e f = sym e ∙ f
still_good (Err (NotHolder holder)) old new e f = sym e ∙ f
still_good (Err NothingStaged) old new e f = sym e ∙ f
still_good (Err Memory) old new e f = sym e ∙ f

store_stays : (old new : Store) → IsStore old → names_of new ≡ names_of old → snap_of new ≡ snap_of old → IsStore new
store_stays old new is names snap =
    let n = ap length names in
    let f = ap (λ (s : _). length (state_of s).packages) snap in
    record {
      counted = omega (arith, n, f, is.counted);
      within = subst (λ (s : _). IsWithin (state_of s).packages) (sym snap) is.within;
      named = subst (AllByRecursion (IsNameOf PackageName)) (sym names) is.named;
    }

-- the disk of the files, behind a call that leaves the snapshot as it was
pub files_stay : (old new : Store) (view : View) → IsOnFiles old view → names_of new ≡ names_of old → snap_of new ≡ snap_of old → (has_failed new ≡ false → has_failed old ≡ false) → IsOnFiles new view
files_stay old new view on names snap failed = record {
  is = store_stays old new on.is names snap;
  names = on.names ∙ sym names;
  count = let n = ap length names in omega (arith, n, on.count);
  snap = subst (λ (s : _). IsOpenOn s view) (sym snap) on.snap;
  ready = λ good. subst IsGood (sym snap) (on.ready (failed good));
}

-- the disk of staged changes, behind a call that leaves these as they were
pub staged_stay : (old new : Store) (view : View) → IsOnStaged old view → IsStore new → names_of new ≡ names_of old → staged_in new ≡ staged_in old → (has_failed new ≡ false → has_failed old ≡ false) → IsOnStaged new view
staged_stay old new view on is names staged failed = record {
  is = is;
  names = on.names ∙ sym names;
  count = let n = ap length names in omega (arith, n, on.count);
  lines = subst (AreStagedIn view.names) (sym staged) on.lines;
  kept = λ good. subst (AreKept view) (sym staged) (on.kept (failed good));
}

pub ruleset files_goodness = (files_stay, still_good)

pub ruleset staged_goodness = (staged_stay, still_good)
