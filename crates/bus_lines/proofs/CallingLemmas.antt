-- Calls with the next random word.
use Rattle.std.proofs.Common.{ℕ, ◌≡◌, List, Bool, refl, ap, subst, sym, ◌∙◌}
use Rattle.std.specs.Prelude.{Result, Err}
use Rattle.blob_codec.specs.declared.blob.Attr.{Attr}
use Rattle.uci_tool.specs.Folder.{Folder}
use Rattle.rpc_network.specs.declared.net_object.NetObject.{NetObject}
use Rattle.rpc_objects.specs.declared.local_answer.LocalAnswer.{LocalAnswer}
use Rattle.rpc_objects.specs.declared.uci_answer.CallStop.{CallStop}
use Rattle.rpc_objects.specs.declared.uci_answer.CallStop.TheVariants as stop
use Rattle.rpc_objects.specs.declared.local_object.LocalObject.{LocalObject}
use Rattle.rpc_objects.specs.declared.local_object.LocalObject.TheVariants.{Session, Uci, Network}
use Rattle.rpc_objects.specs.declared.outcome.Outcome.{Outcome}
use Rattle.rpc_objects.specs.Calls.{Parts, Called, CallsTo, Reloads, NetworkCalled}
use Rattle.rpc_objects.specs.Passed.{CallPasses}
use Rattle.rpc_objects.specs.Cut.{Cut, CallCuts, IsCutSo, untouched}
use Rattle.rpc_objects.specs.Ended.{Asked, IsCalled, Ends}
use Rattle.bus_lines.specs.World.{World, parts_of, with_parts}
use Rattle.plane_outside.specs.Supply.{Uses}
use Rattle.bus_lines.specs.Words.{used_by}
use Rattle.bus_lines.specs.Ended.{Seen, IsHalted}
use Rattle.bus_lines.specs.Calling.{IsOut, CallEnds, ObjectDoes, ObjectCuts, ObjectPasses}

-- there was no memory in front of all
pub halts_in_front : (Cuts : Cut → Type 0) (Passes : Folder → Type 0) (world : World) (seen : Seen)
    → Cuts (untouched world.net) → Passes world.files → IsCutSo (untouched world.net) world.net seen.kernel
    → IsHalted Cuts Passes world seen
halts_in_front Cuts Passes world seen cuts passes left =
    record { cut = untouched world.net; cuts = cuts; left = left; files = passes }

-- the object was called
module _ (world now : World) (object : LocalObject) (method : List ℕ) (args : List Attr) (word : ℕ)
    (seen : Seen) where
  abbrev pub asked : Asked
  asked = record { now = world.now; word = word; object = object; method = method; args = args }

  pub called_out : (told : Outcome) → IsCalled asked (parts_of world) (parts_of now) seen.kernel told
      → now ≡ with_parts world (parts_of now)
      → Uses seen.supply (used_by told.has_created word) seen.supply_now
      → IsOut (ObjectDoes world object method args) world now seen told
  called_out told is next used = record {
    word = word;
    failed = is.failed;
    done = is.done;
    does = is.calls;
    next = next ∙ ap (with_parts world) is.parts;
    asked = is.asked;
    used = subst (λ (b : Bool). Uses seen.supply (used_by b word) seen.supply_now) is.created used;
    answer = is.answer;
    requests = is.requests;
    refusal = is.refusal;
  }

  pub called_stopped : (why : CallStop)
      → Ends asked (parts_of world) (parts_of now) seen.kernel seen.disks (Err why)
      → CallEnds (ObjectDoes world object method args) (ObjectCuts world object method args)
      (ObjectPasses world object method args) world now seen (Err why)
  called_stopped stop.DiskFailed ends = record {
    cause = ends.cause;
    cut = untouched world.net;
    cuts = record { word = word; is = CallCuts.in_front };
    left = ends.left;
  }
  called_stopped stop.Memory ends = record {
    cut = ends.cut;
    cuts = record { word = word; is = ends.cuts };
    left = ends.left;
    files = ends.files;
  }

-- a call of the same method with the same arguments ends so
pub ends_as : (world : World) (object : LocalObject) (method other : List ℕ) (args others : List Attr)
    (now : World) (seen : Seen) (result : Result Outcome CallStop) → method ≡ other → args ≡ others
    → CallEnds (ObjectDoes world object method args) (ObjectCuts world object method args)
    (ObjectPasses world object method args) world now seen result
    → CallEnds (ObjectDoes world object other others) (ObjectCuts world object other others)
    (ObjectPasses world object other others) world now seen result
ends_as world object method other args others now seen result same also ends =
    subst (λ (m : List ℕ). CallEnds (ObjectDoes world object m others) (ObjectCuts world object m others)
    (ObjectPasses world object m others) world now seen result) same
    (subst (λ (a : List Attr). CallEnds (ObjectDoes world object method a) (ObjectCuts world object method a)
    (ObjectPasses world object method a) world now seen result) also ends)

-- ---- the folder behind a call is one that it passes through

reload_files : (parts : Parts) (answer : LocalAnswer) (reload : Bool) (done : Called)
    → Reloads parts answer reload done → done.parts.files ≡ parts.files
reload_files parts answer reload done Reloads.not = refl
reload_files parts answer reload done (Reloads.anew act requests) = refl

network_files : (before : Parts) (object : NetObject) (method : List ℕ) (args : List Attr) (failed : Bool)
    (done : Called) → NetworkCalled before object method args failed done
    → done.parts.files ≡ before.files
network_files before object method args failed done (NetworkCalled.carried net_call requests act means) = refl
network_files before object method args failed done (NetworkCalled.no_method none) = refl
network_files before object method args failed done (NetworkCalled.bad_argument nothing) = refl

pub done_passes : (now word : ℕ) (failed : Bool) (before : Parts) (object : LocalObject)
    (method : List ℕ) (args : List Attr) (done : Called)
    → CallsTo now word failed before object method args done
    → CallPasses now before method args object done.parts.files
done_passes now word failed before Session method args done is =
    subst (λ (d : Called). CallPasses now before method args Session d.parts.files) (sym is)
    (CallPasses.forgot word)
done_passes now word failed before Uci method args done is =
    subst (λ (f : Folder). CallPasses now before method args Uci f)
    (sym (reload_files _ is.told.answer is.told.reload done is.reloads))
    (CallPasses.left is.after is.called is.store)
done_passes now word failed before (Network object) method args done is =
    subst (λ (f : Folder). CallPasses now before method args (Network object) f)
    (sym (network_files before object method args failed done is)) (CallPasses.front (Network object))
