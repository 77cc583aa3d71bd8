-- Why changes are not staged.
use Rattle.std.proofs.Common.{ℕ, ◌≡◌, ◌≢◌, false, Err, refl, sym, subst}
use Rattle.plane_disk.specs.View.{View}
use Rattle.uci_tree.specs.declared.package.Package.{Package}
use Rattle.uci_delta.specs.declared.delta.Delta.{Delta}
use Rattle.uci_delta.specs.declared.delta_error.DeltaError.{DeltaError}
use Rattle.uci_delta.specs.declared.delta_error.DeltaError.TheVariants.{NotFound, Invalid, Duplicate, Memory as DeltaMemory}
use Rattle.uci_delta.specs.Applied.{applied}
use Rattle.uci_delta.specs.DeltaError.{IsRefusalOf}
use Rattle.uci_store.specs.declared.store.Store.{Store}
use Rattle.uci_store.specs.declared.store_error.StoreError.{StoreError}
use Rattle.uci_store.specs.declared.store_error.StoreError.TheVariants.{Delta as NotTaken, Memory}
use Rattle.uci_store.specs.Store.{has_failed}
use Rattle.uci_store.specs.Refusals.{HasFile, IsSeenAt, DoesNotTake, StageRefuses}

does_not_take : (store : Store) (holder file : ℕ) (delta : Delta) (view : Package) (error : DeltaError) → HasFile store delta.package file → IsSeenAt store holder file view → applied view delta ≡ Err error
    → DoesNotTake store holder delta error
does_not_take store holder file delta view error number seen why = record {
  view = view;
  seen = record { file = file; number = number; seen = seen };
  refused = why;
}

-- the view did not take the change, or there was no memory
pub not_taken : (store : Store) (holder file : ℕ) (delta : Delta) (view : Package) (old new : View) (error : DeltaError) (answer : StoreError) → has_failed store ≡ false → HasFile store delta.package file → IsSeenAt store holder file view
    → IsRefusalOf (applied view delta) error
    → (error ≡ DeltaMemory → answer ≡ Memory) × (error ≢ DeltaMemory → answer ≡ NotTaken error) → StageRefuses store holder delta old new answer
not_taken store holder file delta view old new NotFound answer ready number seen why from =
    subst (StageRefuses store holder delta old new) (sym (from.1 (λ e. cc))) (ready, does_not_take store holder file delta view NotFound number seen why)
not_taken store holder file delta view old new Invalid answer ready number seen why from =
    subst (StageRefuses store holder delta old new) (sym (from.1 (λ e. cc))) (ready, does_not_take store holder file delta view Invalid number seen why)
not_taken store holder file delta view old new Duplicate answer ready number seen why from =
    subst (StageRefuses store holder delta old new) (sym (from.1 (λ e. cc))) (ready, does_not_take store holder file delta view Duplicate number seen why)
not_taken store holder file delta view old new DeltaMemory answer ready number seen why from =
    subst (StageRefuses store holder delta old new) (sym (from.0 refl)) (ready, (file, number))
