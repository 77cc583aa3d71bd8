-- Calls of the object `session`.
use Rattle.std.proofs.Common.{ℕ, ◌≡◌, [], false, List, refl, ap, sym, subst, ◌∙◌}
use Rattle.snap_disk.specs.declared.snap.Snap.{Snap}
use Rattle.snap_disk.specs.Open.{state_of}
use Rattle.blob_codec.specs.declared.blob.Attr.{Attr}
use Rattle.uci_staged.specs.declared.change.StagedChange.{StagedChange}
use Rattle.uci_store.specs.declared.store.Store.{Store}
use Rattle.uci_store.specs.Store.{names_of, snap_of, staged_in}
use Rattle.uci_tool.specs.Folder.{Folder, folder_of}
use Rattle.rpc_session.specs.SessionList.{SessionList}
use Rattle.net_rules.specs.Moment.{Moment}
use Rattle.net_plane.specs.Network.{Network, moment_of}
use Rattle.step_net.specs.Taken.{Telled, Asks}
use Rattle.rpc_objects.specs.declared.session_call.SessionAnswer.{SessionAnswer}
use Rattle.rpc_objects.specs.SessionCall.{session_call, HasAnswered, StaysOpen}
use Rattle.rpc_objects.specs.declared.local_object.LocalObject.TheVariants.{Session}
use Rattle.rpc_objects.specs.declared.outcome.Outcome.{Outcome}
use Rattle.rpc_objects.specs.Calls.{Parts, session_called}
use Rattle.rpc_objects.specs.Cut.{CallCuts, untouched}
use Rattle.rpc_objects.specs.Ended.{parts_of, IsCalled, IsHalted}
use Rattle.rpc_objects.specs.Outcome.{of_session}
use Rattle.rpc_objects.specs.Passed.{CallPasses}

-- the folder and the parts, by what a call of `session` may move
abbrev pub parts_from : Folder → SessionList → Moment → Parts
parts_from folder sessions net = record { files = folder; sessions = sessions; net = net }

abbrev pub folder_from : List (List ℕ) → Snap → List StagedChange → Folder
folder_from names snap staged = record { names = names; files = state_of snap; staged = staged }

same_folder : (names others : List (List ℕ)) (snap other : Snap) (staged left : List StagedChange) → names ≡ others → snap ≡ other → staged ≡ left
    → folder_from names snap staged ≡ folder_from others other left
same_folder names others snap other staged left one two three =
    ap (λ (n : List (List ℕ)). folder_from n snap staged) one ∙ ap (λ (s : Snap). folder_from others s staged) two
    ∙ ap (folder_from others other) three

same_parts : (folder other : Folder) (sessions kept : SessionList) (net : Moment) → folder ≡ other → sessions ≡ kept
    → parts_from folder sessions net ≡ parts_from other kept net
same_parts folder other sessions kept net one two =
    ap (λ (f : Folder). parts_from f sessions net) one ∙ ap (λ (l : SessionList). parts_from other l net) two

-- a call that is answered
pub session_ends : (now word : ℕ) (method : List ℕ) (args : List Attr) (sessions kept : SessionList) (old new : Store) (net : Network)
    (kernel : Telled) (told : SessionAnswer) (outcome : Outcome) → outcome ≡ of_session told → Asks [] false kernel → StaysOpen old new
    → HasAnswered (session_call method args now word sessions (staged_in old)) kept (staged_in new) told
    → IsCalled (record { now = now; word = word; object = Session; method = method; args = args })
    (parts_of sessions old net) (parts_of kept new net) kernel outcome
session_ends now word method args sessions kept old new net kernel told outcome is nothing stays has =
    let done = session_call method args now word sessions (staged_in old) in
    record {
      failed = false;
      done = session_called now word (parts_of sessions old net) method args;
      calls = refl;
      parts = same_parts (folder_of new) (record (folder_of old) { staged = done.staged }) kept done.sessions (moment_of net)
          (same_folder (names_of new) (names_of old) (snap_of new) (snap_of old) (staged_in new) done.staged stays.names stays.snap has.left)
          has.kept;
      asked = nothing;
      answer = ap (λ (o : Outcome). o.answer) is ∙ has.answer;
      requests = ap (λ (o : Outcome). o.requests) is;
      refusal = ap (λ (o : Outcome). o.refusal) is;
      created = ap (λ (o : Outcome). o.has_created) is ∙ has.created;
    }

-- a call for which there was no memory
pub session_halts : (now word : ℕ) (method : List ℕ) (args : List Attr) (sessions kept : SessionList) (old new : Store) (net : Network)
    (kernel : Telled) → Asks [] false kernel → StaysOpen old new → staged_in new ≡ staged_in old
    → IsHalted (record { now = now; word = word; object = Session; method = method; args = args })
    (parts_of sessions old net) (parts_of kept new net) kernel
session_halts now word method args sessions kept old new net kernel nothing stays staged = record {
  cut = untouched (moment_of net);
  cuts = CallCuts.in_front;
  left = record { held = refl; asked = nothing.asked; cause = nothing.cause };
  files = subst (CallPasses now (parts_of sessions old net) method args Session)
      (sym (same_folder (names_of new) (names_of old) (snap_of new) (snap_of old) (staged_in new) (staged_in old) stays.names stays.snap staged))
      (CallPasses.front Session);
}
