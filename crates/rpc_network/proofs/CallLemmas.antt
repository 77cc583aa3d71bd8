-- Calls that are carried out.
use Rattle.std.proofs.Common.{ℕ, ◌≡◌, List, [], Option, Some, None, false, inl, inr, refl, sym, ap, subst, ◌∙◌}
use Rattle.std.specs.Prelude.{Result, Ok, Err, IfOk, IsSomeAnd}
use Rattle.blob_codec.specs.declared.blob.Attr.{Attr}
use Rattle.uci_tree.specs.declared.fault.Fault.{Fault}
use Rattle.uci_tree.specs.declared.tree_error.TreeError.{TreeError}
use Rattle.uci_tree.specs.Fault.{fault_of}
use Rattle.uci_tool.specs.Folder.{Folder}
use Rattle.net_rules.specs.Moment.{Moment}
use Rattle.net_plane.specs.Network.{Network, moment_of}
use Rattle.script_lines.specs.declared.call_status.CallStatus.TheVariants as status
use Rattle.script_lines.specs.declared.line_error.LineError.TheVariants as error
use Rattle.step_net.specs.NetLine.{NetLine, refused as refuses}
use Rattle.step_net.specs.Acted.{acted}
use Rattle.step_net.specs.Taken.{IsNoted, Telled, Asks, IsLeft}
use Rattle.rpc_network.specs.declared.net_object.NetObject.{NetObject}
use Rattle.rpc_network.specs.declared.net_call.NetCall.{NetCall}
use Rattle.rpc_network.specs.declared.net_call.NetCall.TheVariants as call
use Rattle.rpc_network.specs.Reading.{AsksMethod}
use Rattle.rpc_network.specs.declared.net_answer.NetAnswer.{NetAnswer}
use Rattle.rpc_network.specs.Answered.{answered, refused_as}
use Rattle.rpc_network.specs.Told.{Tries, Shows, IsAnswerTo}
use Rattle.step_net.specs.declared.taken.Taken.{Taken}
use Rattle.step_net.specs.Reload.{ReloadAsks}
use Rattle.step_net.specs.ReloadTaken.{TakesOneEvent}
use Rattle.step_net.proofs.TakenLemmas.{tries_alone}
use Rattle.rpc_network.proofs.EventLemmas.{answer_tries, reload_alike}
use Rattle.rpc_network.specs.NetCalls.{CallMeans, IsHaltedIn, Carries, IsAnsweredTo, IsStopped, Answers}

-- a call that shows something
pub tries_shown : {M : Type 0} (act : NetLine) (now : Network) (kernel : Telled) (result : Result NetAnswer M)
    → (answered (moment_of now) act false).asked ≡ [] → moment_of now ≡ (answered (moment_of now) act false).net
    → now.notices ≡ [] → Asks [] false kernel → Shows act now result → Tries act now now kernel result
tries_shown act now kernel (Ok told) none stays silent nothing shows = record {
  failed = false;
  is = record { net = stays; requests = shows.requests; answer = shows.answer; silent = silent };
  requests = subst (λ what. Asks what false kernel) (sym none) nothing;
}
tries_shown act now kernel (Err lacks) none stays silent nothing shows = IsLeft.in_front refl nothing

-- a call that means this
pub carries : {M : Type 0} (folder : Folder) (asked other : NetCall) (act : NetLine) (before now : Network) (kernel : Telled)
    (result : Result NetAnswer M) → asked ≡ other → CallMeans folder other act → Tries act before now kernel result
    → Carries folder asked before now kernel result
carries {M} folder asked other act before now kernel (Ok told) is means tries =
    subst (λ c. Carries {M = M} folder c before now kernel (Ok told)) (sym is) (record { act = act; means = means; taken = tries })
carries {M} folder asked other act before now kernel (Err lacks) is means tries =
    subst (λ c. Carries {M = M} folder c before now kernel (Err lacks)) (sym is) (IsHaltedIn.on_the_way act means tries)

-- a call that loads the files
loads : {M N : Type 0} (folder : Folder) (before now : Network) (kernel : Telled) (taken : Result Taken M) (result : Result NetAnswer N)
    → Asks [] false kernel → TakesOneEvent (ReloadAsks folder) before now taken → IsAnswerTo taken result
    → Carries folder call.Reload before now kernel result
loads {M} {N} folder before now kernel (Ok taken) (Ok told) nothing (act, requests, alone) tells = record {
  act = act;
  means = requests;
  taken = answer_tries {M = M} {N = N} act before now kernel (Ok taken) (Ok told) (reload_alike (moment_of before) folder act requests)
      (tries_alone {M = M} IsNoted act before now kernel (Ok taken) alone.none nothing alone.is) tells;
}
loads folder before now kernel (Ok taken) (Err lacks) nothing takes tells = absurd tells
loads folder before now kernel (Err lacks) (Ok told) nothing takes tells = absurd tells
loads folder before now kernel (Err lacks) (Err none) nothing (inl same) tells = IsHaltedIn.unasked same nothing
loads {M} folder before now kernel (Err lacks) (Err none) nothing (inr (act, requests, alone)) tells =
    IsHaltedIn.on_the_way act requests (tries_alone {T = Taken} {M = M} IsNoted act before now kernel (Err lacks) alone.none nothing alone.is)

pub carries_load : {M N : Type 0} (folder : Folder) (asked : NetCall) (before now : Network) (kernel : Telled) (taken : Result Taken M)
    (result : Result NetAnswer N) → asked ≡ call.Reload → Asks [] false kernel → TakesOneEvent (ReloadAsks folder) before now taken
    → IsAnswerTo taken result → Carries folder asked before now kernel result
carries_load folder asked before now kernel taken result is nothing takes tells =
    subst (λ c. Carries folder c before now kernel result) (sym is) (loads folder before now kernel taken result nothing takes tells)

-- a call that was read is carried out
pub answers_carried : {M : Type 0} (folder : Folder) (object : NetObject) (method : List ℕ) (args : List Attr) (asked : NetCall) (before now : Network)
    (kernel : Telled) (result : Result NetAnswer M) → AsksMethod object method args asked → Carries folder asked before now kernel result
    → Answers folder object method args before now kernel result
answers_carried folder object method args asked before now kernel (Ok told) requests carried = IsAnsweredTo.carried asked requests carried
answers_carried folder object method args asked before now kernel (Err lacks) requests halted = IsStopped.within asked requests halted
