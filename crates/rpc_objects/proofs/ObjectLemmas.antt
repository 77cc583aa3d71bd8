-- Calls of an object that is this one.
use Rattle.std.proofs.Common.{ℕ, ◌≡◌, inr, List, sym, subst}
use Rattle.std.specs.Prelude.{Result}
use Rattle.plane_disk.specs.View.{View}
use Rattle.blob_codec.specs.declared.blob.Attr.{Attr}
use Rattle.uci_store.specs.declared.store.Store.{Store}
use Rattle.step_net.specs.Taken.{Telled}
use Rattle.rpc_objects.specs.declared.uci_answer.CallStop.{CallStop}
use Rattle.rpc_objects.specs.declared.local_object.LocalObject.{LocalObject}
use Rattle.rpc_objects.specs.declared.outcome.Outcome.{Outcome}
use Rattle.rpc_objects.specs.Calls.{Parts}
use Rattle.rpc_objects.specs.Ended.{Ends}
use Rattle.rpc_objects.specs.Kept.{DiskFaults}
use Rattle.rpc_objects.specs.Passed.{CallPasses, StopsIn, StaysOrStopsIn}

pub ends_of : (object other : LocalObject) (now word : ℕ) (method : List ℕ) (args : List Attr) (before after : Parts) (kernel : Telled)
    (disks : DiskFaults) (result : Result Outcome CallStop) → object ≡ other
    → Ends (record { now = now; word = word; object = other; method = method; args = args }) before after kernel disks result
    → Ends (record { now = now; word = word; object = object; method = method; args = args }) before after kernel disks result
ends_of object other now word method args before after kernel disks result is ends =
    subst (λ (o : LocalObject). Ends (record { now = now; word = word; object = o; method = method; args = args }) before after kernel disks result)
    (sym is) ends

pub stops_of : {D : Type 0} (object other : LocalObject) (now : ℕ) (method : List ℕ) (args : List Attr) (before : Parts) (store : Store)
    (view : D → View) (old new : D) → object ≡ other → StopsIn store (view old) (view new) (CallPasses now before method args other)
    → StaysOrStopsIn store view old new (CallPasses now before method args object)
stops_of object other now method args before store view old new is stops =
    inr (subst (λ (o : LocalObject). StopsIn store (view old) (view new) (CallPasses now before method args o)) (sym is) stops)
