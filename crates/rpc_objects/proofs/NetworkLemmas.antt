-- Calls of the objects of the network.
use Rattle.std.proofs.Common.{ℕ, ◌≡◌, [], Bool, false, List, refl, ap, sym, subst, ◌∙◌}
use Rattle.blob_codec.specs.declared.blob.Attr.{Attr}
use Rattle.uci_store.specs.declared.store.Store.{Store}
use Rattle.uci_tool.specs.Folder.{folder_of}
use Rattle.rpc_session.specs.SessionList.{SessionList}
use Rattle.kern_model.specs.declared.kernel.Asked.{Asked}
use Rattle.kern_model.specs.Kernel.{Records}
use Rattle.net_rules.specs.Moment.{Moment}
use Rattle.net_plane.specs.Network.{Network, moment_of}
use Rattle.script_lines.specs.declared.call_status.CallStatus.{CallStatus}
use Rattle.script_lines.specs.declared.call_status.CallStatus.TheVariants as status
use Rattle.script_lines.specs.CallStatus.{status_number}
use Rattle.step_net.specs.NetLine.{NetLine}
use Rattle.step_net.specs.Acted.{acted}
use Rattle.step_net.specs.Taken.{Telled, Asks, IsLeft}
use Rattle.rpc_network.specs.declared.net_object.NetObject.{NetObject}
use Rattle.rpc_network.specs.declared.net_call.NetCall.{NetCall}
use Rattle.rpc_network.specs.Reading.{AsksMethod}
use Rattle.rpc_network.specs.declared.net_answer.NetAnswer.{NetAnswer}
use Rattle.rpc_network.specs.Answered.{answered, refused_as}
use Rattle.step_net.proofs.RequestLemmas.{interface_requests, interface_stays, device_requests, device_stays, radio_requests, radio_stays}
use Rattle.rpc_network.specs.NetCalls.{CallMeans, IsHaltedIn, IsAnsweredTo, IsStopped}
use Rattle.rpc_objects.specs.LocalAnswer.{refused}
use Rattle.rpc_objects.specs.declared.local_object.LocalObject.TheVariants.{Network as NetworkObject}
use Rattle.rpc_objects.specs.declared.outcome.Outcome.{Outcome}
use Rattle.rpc_objects.specs.Calls.{Parts, quiet, of_network, net_called, NetworkCalled}
use Rattle.rpc_objects.specs.Cut.{CallCuts, untouched, behind_call}
use Rattle.rpc_objects.specs.Ended.{parts_of, IsCalled, IsHalted}
use Rattle.rpc_objects.specs.Outcome.{of_net}
use Rattle.rpc_objects.specs.Outcome as outcomes
use Rattle.rpc_objects.specs.Passed.{CallPasses}

abbrev pub with_net : Parts → Moment → Parts
with_net parts net = record parts { net = net }

-- ---- a call asks and leaves what the line asks and leaves that means the same

left_alike : (net : Moment) (act : NetLine) (failed : Bool) → (acted net act failed).net ≡ (answered net act failed).net
left_alike net (NetLine.happens what) failed = refl
left_alike net NetLine.dump failed = refl
left_alike net (NetLine.interface name) failed = sym (interface_stays net name)
left_alike net (NetLine.device name) failed = sym (device_stays net name)
left_alike net (NetLine.radio name) failed = sym (radio_stays net name)
left_alike net (NetLine.tells text refusal) failed = refl

asked_alike : (net : Moment) (act : NetLine) (failed : Bool) → (acted net act failed).asked ≡ (answered net act failed).asked
asked_alike net (NetLine.happens what) failed = refl
asked_alike net NetLine.dump failed = refl
asked_alike net (NetLine.interface name) failed = interface_requests net name
asked_alike net (NetLine.device name) failed = device_requests net name
asked_alike net (NetLine.radio name) failed = radio_requests net name
asked_alike net (NetLine.tells text refusal) failed = refl

-- ---- a call that is answered

refused_so : (told : NetAnswer) (outcome : Outcome) (why : CallStatus) → outcome ≡ of_net told → told ≡ refused_as why
    → outcome ≡ outcomes.quiet (refused (status_number why))
refused_so told outcome why is told_is = is ∙ ap of_net told_is

pub network_ends : (now word : ℕ) (sessions : SessionList) (store : Store) (object : NetObject) (method : List ℕ) (args : List Attr)
    (old new : Network) (kernel : Telled) (told : NetAnswer) (outcome : Outcome) → outcome ≡ of_net told
    → IsAnsweredTo (folder_of store) object method args old new kernel told
    → IsCalled (record { now = now; word = word; object = NetworkObject object; method = method; args = args })
    (parts_of sessions store old) (parts_of sessions store new) kernel outcome
network_ends now word sessions store object method args old new kernel told outcome is (IsAnsweredTo.carried asked requests carried) =
    let before = parts_of sessions store old in
    let taken = carried.taken in
    record {
      failed = taken.failed;
      done = net_called before carried.act taken.failed;
      calls = NetworkCalled.carried asked requests carried.act carried.means;
      parts = ap (with_net before) taken.is.net;
      asked = taken.requests;
      answer = ap (λ (o : Outcome). o.answer) is ∙ ap of_network taken.is.answer;
      requests = ap (λ (o : Outcome). o.requests) is ∙ taken.is.requests;
      refusal = ap (λ (o : Outcome). o.refusal) is;
      created = ap (λ (o : Outcome). o.has_created) is;
    }
network_ends now word sessions store object method args old new kernel told outcome is (IsAnsweredTo.no_method none told_is idle) =
    let same = refused_so told outcome status.MethodNotFound is told_is in
    record {
      failed = false;
      done = quiet (parts_of sessions store old) (refused (status_number status.MethodNotFound));
      calls = NetworkCalled.no_method none;
      parts = ap (λ (n : Network). parts_of sessions store n) idle.same;
      asked = idle.nothing;
      answer = ap (λ (o : Outcome). o.answer) same;
      requests = ap (λ (o : Outcome). o.requests) same;
      refusal = ap (λ (o : Outcome). o.refusal) same;
      created = ap (λ (o : Outcome). o.has_created) same;
    }
network_ends now word sessions store object method args old new kernel told outcome is (IsAnsweredTo.bad_argument none told_is idle) =
    let same = refused_so told outcome status.InvalidArgument is told_is in
    record {
      failed = false;
      done = quiet (parts_of sessions store old) (refused (status_number status.InvalidArgument));
      calls = NetworkCalled.bad_argument none;
      parts = ap (λ (n : Network). parts_of sessions store n) idle.same;
      asked = idle.nothing;
      answer = ap (λ (o : Outcome). o.answer) same;
      requests = ap (λ (o : Outcome). o.requests) same;
      refusal = ap (λ (o : Outcome). o.refusal) same;
      created = ap (λ (o : Outcome). o.has_created) same;
    }

-- all is told of it
pub network_silent : (store : Store) (object : NetObject) (method : List ℕ) (args : List Attr) (old new : Network) (kernel : Telled)
    (told : NetAnswer) → old.notices ≡ [] → IsAnsweredTo (folder_of store) object method args old new kernel told → new.notices ≡ []
network_silent store object method args old new kernel told silent (IsAnsweredTo.carried asked requests carried) = carried.taken.is.silent
network_silent store object method args old new kernel told silent (IsAnsweredTo.no_method none told_is idle) =
    ap (λ (n : Network). n.notices) idle.same ∙ silent
network_silent store object method args old new kernel told silent (IsAnsweredTo.bad_argument none told_is idle) =
    ap (λ (n : Network). n.notices) idle.same ∙ silent

-- ---- a call for which there was no memory

idle_halts : (now word : ℕ) (sessions : SessionList) (store : Store) (object : NetObject) (method : List ℕ) (args : List Attr)
    (old new : Network) (kernel : Telled) → new ≡ old → Asks [] false kernel
    → IsHalted (record { now = now; word = word; object = NetworkObject object; method = method; args = args })
    (parts_of sessions store old) (parts_of sessions store new) kernel
idle_halts now word sessions store object method args old new kernel same nothing = record {
  cut = untouched (moment_of old);
  cuts = CallCuts.in_front;
  left = record { held = ap (λ (n : Network). (moment_of n).held) same; asked = nothing.asked; cause = nothing.cause };
  files = CallPasses.front (NetworkObject object);
}

left_halts : (now word : ℕ) (sessions : SessionList) (store : Store) (object : NetObject) (method : List ℕ) (args : List Attr)
    (asked : NetCall) (act : NetLine) (old new : Network) (kernel : Telled) → AsksMethod object method args asked
    → CallMeans (folder_of store) asked act → IsLeft act old new kernel
    → IsHalted (record { now = now; word = word; object = NetworkObject object; method = method; args = args })
    (parts_of sessions store old) (parts_of sessions store new) kernel
left_halts now word sessions store object method args asked act old new kernel requests means (IsLeft.in_front same nothing) =
    idle_halts now word sessions store object method args old new kernel same nothing
left_halts now word sessions store object method args asked act old new kernel requests means (IsLeft.behind failed net asked_so) =
    let before = parts_of sessions store old in
    record {
      cut = behind_call (net_called before act failed) failed;
      cuts = CallCuts.behind failed (net_called before act failed) (NetworkCalled.carried asked requests act means);
      left = record {
        held = ap (λ (m : Moment). m.held) (net ∙ left_alike (moment_of old) act failed);
        asked = subst (λ (what : List Asked). Records kernel.asked kernel.asked_now what) (asked_alike (moment_of old) act failed) asked_so.asked;
        cause = asked_so.cause;
      };
      files = CallPasses.front (NetworkObject object);
    }

pub network_halts : (now word : ℕ) (sessions : SessionList) (store : Store) (object : NetObject) (method : List ℕ) (args : List Attr)
    (old new : Network) (kernel : Telled) → IsStopped (folder_of store) object method args old new kernel
    → IsHalted (record { now = now; word = word; object = NetworkObject object; method = method; args = args })
    (parts_of sessions store old) (parts_of sessions store new) kernel
network_halts now word sessions store object method args old new kernel (IsStopped.in_front idle) =
    idle_halts now word sessions store object method args old new kernel idle.same idle.nothing
network_halts now word sessions store object method args old new kernel (IsStopped.within asked requests (IsHaltedIn.unasked same nothing)) =
    idle_halts now word sessions store object method args old new kernel same nothing
network_halts now word sessions store object method args old new kernel (IsStopped.within asked requests (IsHaltedIn.on_the_way act means left)) =
    left_halts now word sessions store object method args asked act old new kernel requests means left
