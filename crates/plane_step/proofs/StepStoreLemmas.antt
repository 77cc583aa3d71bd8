-- A store on its disks, before and behind lines.
use Rattle.std.proofs.Common.{◌≡◌, ◌≢◌, ap, refl}
use Rattle.std.specs.Prelude.{Result, Ok, Err}
use Rattle.plane_disk.specs.View.{View}
use Rattle.uci_store.specs.declared.store.Store.{Store}
use Rattle.uci_tool.specs.Answers.{IsOpen}
use Rattle.rpc_objects.specs.declared.uci_answer.CallStop.{CallStop}
use Rattle.rpc_objects.specs.declared.uci_answer.CallStop.TheVariants as call
use Rattle.rpc_objects.specs.SessionCall.{StaysOpen}
use Rattle.rpc_objects.specs.Kept.{StaysOn as CallStays}
use Rattle.rpc_objects.proofs.StoreLemmas.{stays_open}
use Rattle.bus_lines.specs.declared.handled.Handled.{Handled}
use Rattle.plane_step.specs.declared.stop.Stop.{Stop}
use Rattle.plane_step.specs.declared.stop.Stop.TheVariants as stop
use Rattle.plane_step.specs.StoreKept.{StaysOn}
use Rattle.plane_step.proofs.StoreLemmas.{still_open}
use Rattle.plane_step.specs.Done.{or_stop}

-- what stopped a line of a caller is no other stop
other_stop : (result : Result Handled CallStop) → or_stop result ≢ Err stop.DiskFailed → result ≢ Err call.DiskFailed
other_stop (Ok told) other is = cc is
other_stop (Err call.DiskFailed) other is = other refl
other_stop (Err call.Memory) other is = cc is

-- the store behind a line of a caller
pub call_stays : (result : Result Handled CallStop) (old new : Store) (a b c d : View)
    → CallStays result old new a b c d → StaysOn (or_stop result) old new a b c d
call_stays result old new a b c d stays = record {
  files = stays.files;
  staged = stays.staged;
  names = stays.names;
  same = stays.same;
  follows = stays.follows;
  ready = λ h. stays.ready (other_stop result h);
}

-- the store behind sessions that expired
pub expired_stays : {X : Type 0} (result : Result X Stop) (old new : Store) (files staged : View)
    → IsOpen old files staged → StaysOpen old new → StaysOn result old new files files staged staged
expired_stays result old new files staged is stays =
    let kept = stays_open {X = Unit {0}} (Ok (tt {0})) old new files staged is stays in
    record {
      files = kept.files;
      staged = kept.staged;
      names = kept.names;
      same = kept.same;
      follows = kept.follows;
      ready = λ h. kept.ready (λ e. cc e);
    }

-- the same, whatever is answered where nothing stops
pub stays_so : {X Y : Type 0} (why : Stop) (old new : Store) (a b c d : View)
    → StaysOn {X = X} (Err why) old new a b c d → StaysOn {X = Y} (Err why) old new a b c d
stays_so why old new a b c d stays = record {
  files = stays.files;
  staged = stays.staged;
  names = stays.names;
  same = stays.same;
  follows = stays.follows;
  ready = λ h. stays.ready (λ e. let same : why ≡ stop.DiskFailed = cc e in h (ap (λ (s : Stop). Err s) same));
}

pub expired_open : (old new : Store) (files staged : View) → IsOpen old files staged → StaysOpen old new
    → IsOpen new files staged
expired_open old new files staged is stays =
    still_open (tt {0}) old new files files staged staged
    (expired_stays (Ok (tt {0})) old new files staged is stays)
