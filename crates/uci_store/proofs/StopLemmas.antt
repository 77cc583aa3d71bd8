-- What a stop leaves.
use Rattle.std.proofs.Common.{ℕ, ◌⊎◌, inl, inr, List}
use Rattle.plane_disk.specs.Files.{Files}
use Rattle.plane_disk.specs.View.{View}
use Rattle.snap_disk.specs.Images.{LeavesOnly}
use Rattle.snap_disk.specs.Opened.{State, OpensAsEither}
use Rattle.snap_disk.specs.Open.{ImagesSince}
use Rattle.uci_store.specs.declared.store.Store.{Store}
use Rattle.uci_store.specs.Store.{snap_of, files_of}
use Rattle.uci_store.specs.Stops.{OpensAsOne, StopLeaves}

leaves_more : (old new : View) (P Q : Files → Type 0) → LeavesOnly old new P → ((image : Files) → P image → Q image) → LeavesOnly old new Q
leaves_more old new P Q leaves more = record {
  later = leaves.later;
  each = λ image was. more image (leaves.each image was);
  before = λ from image le was. by from image (leaves.before from image le was);
}
  where
    by : (from : ℕ) (image : Files) → old.was_image from image ⊎ P image → old.was_image from image ⊎ Q image
    by from image (inl was) = inl was
    by from image (inr p) = inr (more image p)

one_more : (names : List (List ℕ)) (before : State) (Leads More : State → Type 0) (image : Files) → ((after : State) → Leads after → More after) → OpensAsOne names before Leads image → OpensAsOne names before More image
one_more names before Leads More image more (inl h) = inl h
one_more names before Leads More image more (inr h) = inr (h.0, more h.0 h.1, h.2)

pub stops_more : (store : Store) (old new : View) (Leads More : State → Type 0) → ((after : State) → Leads after → More after) → StopLeaves store old new Leads → StopLeaves store old new More
stops_more store old new Leads More more h ready files seen =
    leaves_more old new (OpensAsOne old.names (files_of store) Leads) (OpensAsOne old.names (files_of store) More) (h ready files seen) (λ image. one_more old.names (files_of store) Leads More image more)

one_either : (names : List (List ℕ)) (before after : State) (Leads : State → Type 0) (image : Files) → Leads after → OpensAsEither names before after image → OpensAsOne names before Leads image
one_either names before after Leads image leads (inl h) = inl h
one_either names before after Leads image leads (inr h) = inr (after, leads, h)

pub stops_either : (store : Store) (old new : View) (after : State) (Leads : State → Type 0) → Leads after → ImagesSince (snap_of store) old new (OpensAsEither old.names (files_of store) after) → StopLeaves store old new Leads
stops_either store old new after Leads leads h ready files seen =
    leaves_more old new (OpensAsEither old.names (files_of store) after) (OpensAsOne old.names (files_of store) Leads) (h ready files seen) (λ image. one_either old.names (files_of store) after Leads image leads)
