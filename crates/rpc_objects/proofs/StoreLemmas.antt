-- A store on its disks behind a call, and the images of its files.
use Rattle.std.proofs.Common.{ℕ, ◌≡◌, ◌+◌, false, inl, inr, List, length, refl, ap, sym, subst, ◌∙◌}
use Rattle.std.specs.Prelude.{Result, Ok, Err}
use Rattle.plane_disk.specs.Files.{Files, bytes_of}
use Rattle.plane_disk.specs.Names.{name_at}
use Rattle.plane_disk.specs.View.{View}
use Rattle.snap_disk.specs.Open.{IsOpenOn}
use Rattle.snap_disk.specs.Refusals.{IsGood}
use Rattle.snap_disk.proofs.LoadLemmas.{same_self}
use Rattle.snap_disk.proofs.Moments.{widens}
use Rattle.blob_codec.specs.declared.blob.Attr.{Attr}
use Rattle.uci_delta.specs.Deltas.{AreDeltas}
use Rattle.uci_store.specs.declared.store.Store.{Store}
use Rattle.uci_store.specs.Store.{files_of, has_failed, IsOnFiles, IsOnStaged}
use Rattle.uci_store.specs.Stops.{OpensAsOne, StopLeaves}
use Rattle.uci_tool.specs.Answers.{IsOpen}
use Rattle.uci_tool.specs.Folder.{folder_of}
use Rattle.uci_tool.proofs.StageLemmas.{follows_itself}
use Rattle.rpc_session.specs.SessionList.{SessionList}
use Rattle.rpc_uci.specs.Done.{Leads}
use Rattle.net_plane.specs.Network.{Network}
use Rattle.rpc_objects.specs.declared.uci_answer.CallStop.{CallStop}
use Rattle.rpc_objects.specs.SessionCall.{StaysOpen}
use Rattle.rpc_objects.specs.declared.local_object.LocalObject.TheVariants.{Uci}
use Rattle.rpc_objects.specs.Passed.{CallPasses, OpensIn, StopsIn}
use Rattle.rpc_objects.specs.Ended.{parts_of}
use Rattle.rpc_objects.specs.Kept.{StaysOn}

-- nothing was done
pub stays_itself : {X : Type 0} (result : Result X CallStop) (store : Store) (files staged : View) → IsOpen store files staged
    → StaysOn result store store files files staged staged
stays_itself result store files staged is = record {
  files = is.files;
  staged = is.staged;
  names = refl;
  same = same_self files;
  follows = follows_itself staged;
  ready = λ h. is.ready;
}

still_on_files : (old new : Store) (view : View) → IsOnFiles old view → has_failed old ≡ false → StaysOpen old new → IsOnFiles new view
still_on_files old new view on ready stays = record {
  is = stays.store on.is;
  names = on.names ∙ sym stays.names;
  count = on.count ∙ ap (λ (names : List (List ℕ)). length names + 2) (sym stays.names);
  snap = subst (λ snap. IsOpenOn snap view) (sym stays.snap) on.snap;
  ready = λ h. subst IsGood (sym stays.snap) (on.ready ready);
}

still_on_staged : (old new : Store) (view : View) → IsOnStaged old view → has_failed old ≡ false → StaysOpen old new → IsOnStaged new view
still_on_staged old new view on ready stays = record {
  is = stays.store on.is;
  names = on.names ∙ sym stays.names;
  count = on.count ∙ ap (λ (names : List (List ℕ)). length names + 2) (sym stays.names);
  lines = stays.lines view.names on.lines;
  kept = λ h files seen file low number.
      subst (AreDeltas (name_at view.names file) (bytes_of files file)) (sym (stays.own file)) (on.kept ready files seen file low number);
}

-- a call of `session` writes no disk
pub stays_open : {X : Type 0} (result : Result X CallStop) (old new : Store) (files staged : View) → IsOpen old files staged → StaysOpen old new
    → StaysOn result old new files files staged staged
stays_open result old new files staged is stays = record {
  files = still_on_files old new files is.files is.ready stays;
  staged = still_on_staged old new staged is.staged is.ready stays;
  names = stays.names;
  same = same_self files;
  follows = follows_itself staged;
  ready = λ h. stays.failed ∙ is.ready;
}

-- behind a call that was answered, whatever comes of the rest
pub stays_as : {X Y : Type 0} (value : X) (result : Result Y CallStop) (old new : Store) (a b c d : View) → StaysOn {X = X} (Ok value) old new a b c d
    → StaysOn result old new a b c d
stays_as value result old new a b c d stays = record {
  files = stays.files;
  staged = stays.staged;
  names = stays.names;
  same = stays.same;
  follows = stays.follows;
  ready = λ h. stays.ready (λ e. cc e);
}

-- behind one that was stopped
pub stays_stopped : {X Y : Type 0} (why : CallStop) (old new : Store) (a b c d : View) → StaysOn {X = X} (Err why) old new a b c d
    → StaysOn {X = Y} (Err why) old new a b c d
stays_stopped why old new a b c d stays = record {
  files = stays.files;
  staged = stays.staged;
  names = stays.names;
  same = stays.same;
  follows = stays.follows;
  ready = λ h. stays.ready (λ e. h (cc e));
}

-- an image gives the files in front of a call of `uci`, or files that the call leads to
opens_in : (now : ℕ) (sessions : SessionList) (method : List ℕ) (args : List Attr) (store : Store) (net : Network) (files staged : View)
    → IsOpen store files staged → (names : List (List ℕ)) (image : Files)
    → OpensAsOne names (files_of store) (Leads sessions method args now store) image
    → OpensIn names (CallPasses now (parts_of sessions store net) method args Uci) image
opens_in now sessions method args store net files staged is names image (inl opens) =
    record { folder = folder_of store; passed = CallPasses.front Uci; opens = opens }
opens_in now sessions method args store net files staged is names image (inr led) = record {
  folder = record (folder_of store) { files = led.0 };
  passed = CallPasses.led led.0 (record { store = store; is = refl; good = is.files.is; ready = is.ready; leads = led.1 });
  opens = led.2;
}

pub stops_in : (now : ℕ) (sessions : SessionList) (method : List ℕ) (args : List Attr) (store : Store) (net : Network) (files staged files_now : View)
    → IsOpen store files staged → StopLeaves store files files_now (Leads sessions method args now store)
    → StopsIn store files files_now (CallPasses now (parts_of sessions store net) method args Uci)
stops_in now sessions method args store net files staged files_now is leaves good read seen =
    widens files files_now (OpensAsOne files.names (files_of store) (Leads sessions method args now store))
    (OpensIn files.names (CallPasses now (parts_of sessions store net) method args Uci))
    (leaves good read seen) (opens_in now sessions method args store net files staged is files.names)
