-- Calls of the object `uci`, and the reload behind them.
use Rattle.std.proofs.Common.{ℕ, ◌≡◌, ◌≢◌, ◌++◌, [], Bool, true, false, ◌⊎◌, inl, inr, List, Option, Some, None, refl, ap, sym, subst, ◌∙◌, append-nil}
use Rattle.std.specs.Prelude.{Result, Ok, Err, OnOk}
use Rattle.plane_words.specs.Causes.{RoseBy}
use Rattle.blob_codec.specs.declared.blob.Attr.{Attr}
use Rattle.kern_model.specs.Kernel.{Records}
use Rattle.plane_disk.specs.View.{View}
use Rattle.uci_tree.specs.declared.package.Package.{Package}
use Rattle.uci_store.specs.declared.store.Store.{Store}
use Rattle.uci_tool.specs.Answers.{IsOpen}
use Rattle.uci_tool.specs.Folder.{Folder, folder_of}
use Rattle.rpc_session.specs.SessionList.{SessionList}
use Rattle.rpc_rules.specs.declared.rpc_error.RpcError.{RpcError}
use Rattle.rpc_rules.specs.declared.rpc_error.RpcError.TheVariants as rpc
use Rattle.rpc_rules.specs.Arguments.{caller_in}
use Rattle.rpc_uci.specs.declared.reply.Reply.{Reply}
use Rattle.rpc_uci.specs.Call.{renewed}
use Rattle.rpc_uci.specs.Done.{Answers}
use Rattle.rpc_uci.specs.Ending.{HasDiskCause}
use Rattle.net_rows.specs.declared.rows.Conf.{Conf}
use Rattle.net_conf.specs.Conf.{conf}
use Rattle.net_conf.specs.Limits.{passed_limit}
use Rattle.net_rules.specs.declared.event.Event.TheVariants as event
use Rattle.net_rules.specs.declared.refusal.Refusal.{Refusal}
use Rattle.net_rules.specs.Refusal.{refusal}
use Rattle.net_rules.specs.Moment.{Moment}
use Rattle.net_plane.specs.Network.{Network, moment_of}
use Rattle.step_net.specs.declared.told.Told.{Told}
use Rattle.step_net.specs.NetLine.{NetLine, load_within}
use Rattle.step_net.specs.Acted.{acted, took_or_refused}
use Rattle.step_net.specs.Moved.{Telling}
use Rattle.step_net.specs.Taken.{Telled, Asks}
use Rattle.step_net.specs.Reload.{ReloadAsks}
use Rattle.step_net.specs.ReloadTaken.{IsTakenAlone, IsHaltedAlone}
use Rattle.rpc_objects.specs.declared.local_answer.LocalAnswer.{LocalAnswer}
use Rattle.rpc_objects.specs.declared.uci_answer.UciAnswer.{UciAnswer}
use Rattle.rpc_objects.specs.declared.uci_answer.CallStop.{CallStop}
use Rattle.rpc_objects.specs.declared.uci_answer.CallStop.TheVariants as stop
use Rattle.rpc_objects.specs.declared.local_object.LocalObject.TheVariants.{Uci}
use Rattle.rpc_objects.specs.declared.outcome.Outcome.{Outcome}
use Rattle.rpc_objects.specs.Calls.{Parts, Called, quiet, StoreCalled, UciCalled, Reloads}
use Rattle.rpc_objects.specs.Cut.{Cut, CallCuts, IsCutSo, untouched, behind_call}
use Rattle.rpc_objects.specs.Kept.{DiskFaults, DiskRose, faults_of}
use Rattle.rpc_objects.specs.Ended.{parts_of, IsHalted}
use Rattle.rpc_objects.specs.Outcome.{of_reload}
use Rattle.rpc_objects.specs.Outcome as outcomes
use Rattle.rpc_objects.specs.Passed.{CallPasses}
use Rattle.rpc_objects.specs.UciCall.{IsServed, IsToldOf, IsReloaded, IsHaltedAt, ReloadsTo, UciEnds}

-- ---- the reload

-- what is told of a reload are its requests and its refusal
loading_replies : (net : Moment) (rows : Conf) (o : Option Refusal) → (took_or_refused net (event.Load rows) false o).reply ≡ []
loading_replies net rows None = refl
loading_replies net rows (Some reason) = refl

within_replies : (net : Moment) (network wireless : Package) (passed : Option ℕ) → (acted net (load_within network wireless passed) false).reply ≡ []
within_replies net network wireless None =
    loading_replies net (conf network wireless) (refusal net (event.Load (conf network wireless)))
within_replies net network wireless (Some number) = refl

reload_replies : (net : Moment) (folder : Folder) (act : NetLine) → ReloadAsks folder act → (acted net act false).reply ≡ []
reload_replies net folder _ (ReloadAsks.loaded network wireless one other) = within_replies net network wireless (passed_limit (conf network wireless))
reload_replies net folder _ (ReloadAsks.no_network fault none) = refl
reload_replies net folder _ (ReloadAsks.no_wireless network one fault none) = refl

-- with another plane of interfaces
abbrev pub with_net : Parts → Moment → Parts
with_net parts net = record parts { net = net }

-- what a call comes to behind which this was asked
abbrev pub reloaded : Parts → LocalAnswer → NetLine → Called
reloaded parts answer act = record {
  parts = record parts { net = (acted parts.net act false).net };
  asked = (acted parts.net act false).asked;
  requests = (acted parts.net act false).requests;
  answer = answer;
  refusal = (acted parts.net act false).refused;
  has_created = false;
}

reloads_anew : (parts : Parts) (answer : UciAnswer) (act : NetLine) → answer.reload ≡ true → ReloadAsks parts.files act
    → Reloads parts answer.answer answer.reload (reloaded parts answer.answer act)
reloads_anew parts answer act is requests =
    subst (λ (b : Bool). Reloads parts answer.answer b (reloaded parts answer.answer act)) (sym is) (Reloads.anew act requests)

-- nothing is read anew
pub rests_after : (sessions : SessionList) (store : Store) (net : Network) (answer : UciAnswer) (told : Outcome) → answer.reload ≡ false
    → net.notices ≡ [] → told ≡ outcomes.quiet answer.answer → IsReloaded (parts_of sessions store net) answer net told
rests_after sessions store net answer told is silent same =
    let parts = parts_of sessions store net in
    record {
      done = quiet parts answer.answer;
      reloads = subst (λ (b : Bool). Reloads parts answer.answer b (quiet parts answer.answer)) (sym is) Reloads.not;
      parts = refl;
      none = refl;
      told = subst (IsToldOf (quiet parts answer.answer)) (sym same) (record { answer = refl; requests = refl; refusal = refl; created = refl });
      silent = silent;
    }

-- the files were loaded anew
pub loads_after : (sessions : SessionList) (store : Store) (net now : Network) (answer : UciAnswer) (shown : Told) (told : Outcome)
    → answer.reload ≡ true → (act : NetLine) × ReloadAsks (folder_of store) act × IsTakenAlone act net now shown
    → told ≡ of_reload answer.answer shown
    → IsReloaded (parts_of sessions store net) answer now told
loads_after sessions store net now answer shown told is takes same =
    let parts = parts_of sessions store net in
    let act = takes.0 in
    let done = acted (moment_of net) act false in
    record {
      done = reloaded parts answer.answer act;
      reloads = reloads_anew parts answer act is takes.1;
      parts = ap (with_net parts) takes.2.is.net;
      none = takes.2.none;
      told = record {
        answer = ap (λ (o : Outcome). o.answer) same;
        requests = ap (λ (o : Outcome). o.requests) same ∙ ap (λ (t : Telling). t.shown) takes.2.is.telling
            ∙ ap (λ (reply : List ℕ). done.requests ++ reply) (reload_replies (moment_of net) (folder_of store) act takes.1) ∙ append-nil done.requests;
        refusal = ap (λ (o : Outcome). o.refusal) same ∙ ap (λ (t : Telling). t.refusal) takes.2.is.telling;
        created = ap (λ (o : Outcome). o.has_created) same;
      };
      silent = takes.2.is.silent;
    }

halts_at : (sessions : SessionList) (store : Store) (net now : Network) (answer : UciAnswer) (act : NetLine) → answer.reload ≡ true
    → ReloadAsks (folder_of store) act → IsHaltedAlone act net now → IsHaltedAt (parts_of sessions store net) answer net now
halts_at sessions store net now answer act is requests halted = elim halted.is as (λ _. IsHaltedAt (parts_of sessions store net) answer net now) [
  | inl same ↦ IsHaltedAt.in_front same
  | inr net_is ↦ IsHaltedAt.behind (reloaded (parts_of sessions store net) answer.answer act)
      (reloads_anew (parts_of sessions store net) answer act is requests) (ap (λ (m : Moment). m.held) net_is) halted.none
]

-- there was no memory for that
pub halts_after : (sessions : SessionList) (store : Store) (net now : Network) (answer : UciAnswer) → answer.reload ≡ true
    → (now ≡ net) ⊎ ((act : NetLine) × ReloadAsks (folder_of store) act × IsHaltedAlone act net now)
    → IsHaltedAt (parts_of sessions store net) answer net now
halts_after sessions store net now answer is (inl same) = IsHaltedAt.in_front same
halts_after sessions store net now answer is (inr takes) = halts_at sessions store net now answer takes.0 is takes.1 takes.2

-- ---- the call on the store

ready_by : {X : Type 0} (called : Result X RpcError) (failed : Bool) (a b c d : View) → called ≢ Err rpc.DiskFailed → HasDiskCause called failed a b c d
    → failed ≡ false
ready_by (Ok value) failed a b c d unless cause = cause
ready_by (Err (rpc.Status status)) failed a b c d unless cause = cause
ready_by (Err (rpc.Denied grant)) failed a b c d unless cause = cause
ready_by (Err rpc.DiskFailed) failed a b c d unless cause = absurd (unless refl)
ready_by (Err rpc.Memory) failed a b c d unless cause = cause

-- unless a disk failed no call of the store has
pub ready_behind : {X Y : Type 0} (called : Result X RpcError) (result : Result Y CallStop) (failed : Bool) (a b c d : View)
    → (called ≡ Err rpc.DiskFailed → result ≡ Err stop.DiskFailed) → HasDiskCause called failed a b c d
    → result ≢ Err stop.DiskFailed → failed ≡ false
ready_behind called result failed a b c d told cause unless = ready_by called failed a b c d (λ e. unless (told e)) cause

-- where one failed a count rose
pub rose_after : {X : Type 0} (called : Result X RpcError) (failed : Bool) (a b c d : View) → called ≡ Err rpc.DiskFailed
    → HasDiskCause called failed a b c d → DiskRose (faults_of a b c d)
rose_after {X} called failed a b c d is cause =
    let rose : HasDiskCause {X = X} (Err rpc.DiskFailed) failed a b c d = subst (λ (r : Result X RpcError). HasDiskCause r failed a b c d) is cause in
    rose.1

pub store_called : (now : ℕ) (sessions : SessionList) (method : List ℕ) (args : List Attr) (old new : Store) (files staged : View)
    (called : Result Reply RpcError) → IsOpen old files staged → Answers sessions method args now old new called
    → StoreCalled now sessions method args (folder_of old) (folder_of new) called
store_called now sessions method args old new files staged called is answers = record {
  old = old;
  new = new;
  is_old = refl;
  is_new = refl;
  store = is.files.is;
  ready = is.ready;
  answers = answers;
}

-- ---- all

cut_so : (cut : Cut) (now : Moment) (kernel : Telled) → now.held ≡ cut.held → [] ≡ cut.asked → cut.failures ≡ 0 → Asks [] false kernel
    → IsCutSo cut now kernel
cut_so cut now kernel held none zero nothing = record {
  held = held;
  asked = subst (λ what. Records kernel.asked kernel.asked_now what) none nothing.asked;
  cause = subst (λ (count : ℕ). RoseBy count kernel.faults kernel.faults_now) (sym zero) nothing.cause;
}

-- what a call comes to that was answered so, and the reload behind it
uci_called : (now : ℕ) (method : List ℕ) (args : List Attr) (sessions kept : SessionList) (old new : Store) (net : Network) (answer : UciAnswer)
    (done : Called) → kept ≡ renewed (caller_in args) now sessions
    → IsServed now sessions method args (folder_of old) (folder_of new) (Ok answer)
    → Reloads (parts_of kept new net) answer.answer answer.reload done
    → UciCalled now (parts_of sessions old net) method args done
uci_called now method args sessions kept old new net answer done is served reloads = record {
  after = folder_of new;
  called = served.called;
  store = served.store;
  told = answer;
  answers = served.told;
  reloads = subst (λ (list : SessionList). Reloads (parts_of list new net) answer.answer answer.reload done) is reloads;
}

halted_ends : (now : ℕ) (method : List ℕ) (args : List Attr) (sessions kept : SessionList) (old new : Store) (net net_now : Network)
    (answer : UciAnswer) (word : ℕ) (kernel : Telled) → kept ≡ renewed (caller_in args) now sessions
    → IsServed now sessions method args (folder_of old) (folder_of new) (Ok answer)
    → Asks [] false kernel → IsHaltedAt (parts_of kept new net) answer net net_now
    → IsHalted (record { now = now; word = word; object = Uci; method = method; args = args })
    (parts_of sessions old net) (parts_of kept new net_now) kernel
halted_ends now method args sessions kept old new net net_now answer word kernel is served nothing (IsHaltedAt.in_front same) = record {
  cut = untouched (moment_of net);
  cuts = CallCuts.in_front;
  left = cut_so (untouched (moment_of net)) (moment_of net_now) kernel (ap (λ (n : Network). (moment_of n).held) same) refl refl nothing;
  files = CallPasses.left (folder_of new) served.called served.store;
}
halted_ends now method args sessions kept old new net net_now answer word kernel is served nothing (IsHaltedAt.behind done reloads held none) = record {
  cut = behind_call done false;
  cuts = CallCuts.behind false done (uci_called now method args sessions kept old new net answer done is served reloads);
  left = cut_so (behind_call done false) (moment_of net_now) kernel held (sym none) refl nothing;
  files = CallPasses.left (folder_of new) served.called served.store;
}

-- a call that was carried out on the store
pub served_ends : (now : ℕ) (method : List ℕ) (args : List Attr) (sessions kept : SessionList) (old new : Store) (net net_now : Network)
    (answer : UciAnswer) (disks : DiskFaults) (result : Result Outcome CallStop) → kept ≡ renewed (caller_in args) now sessions
    → IsServed now sessions method args (folder_of old) (folder_of new) (Ok answer)
    → ReloadsTo (parts_of kept new net) answer net net_now result
    → UciEnds now method args (parts_of sessions old net) (parts_of kept new net_now) disks result
served_ends now method args sessions kept old new net net_now answer disks (Ok told) is served reloads word kernel nothing = record {
  failed = false;
  done = reloads.done;
  calls = uci_called now method args sessions kept old new net answer reloads.done is served reloads.reloads;
  parts = reloads.parts;
  asked = subst (λ what. Asks what false kernel) (sym reloads.none) nothing;
  answer = reloads.told.answer;
  requests = reloads.told.requests;
  refusal = reloads.told.refusal;
  created = reloads.told.created;
}
served_ends now method args sessions kept old new net net_now answer disks (Err stop.DiskFailed) is served reloads word kernel nothing = absurd reloads
served_ends now method args sessions kept old new net net_now answer disks (Err stop.Memory) is served reloads word kernel nothing =
    halted_ends now method args sessions kept old new net net_now answer word kernel is served nothing reloads

-- a call that was stopped
abbrev pub stopped : CallStop → Result UciAnswer CallStop
stopped why = Err why

pub stopped_ends : (now : ℕ) (method : List ℕ) (args : List Attr) (sessions kept : SessionList) (old new : Store) (net : Network)
    (disks : DiskFaults) (why : CallStop) → IsServed now sessions method args (folder_of old) (folder_of new) (stopped why)
    → (stopped why ≡ stopped stop.DiskFailed → DiskRose disks)
    → UciEnds now method args (parts_of sessions old net) (parts_of kept new net) disks (Err why)
stopped_ends now method args sessions kept old new net disks stop.DiskFailed served rose word kernel nothing = record {
  cause = rose refl;
  left = cut_so (untouched (moment_of net)) (moment_of net) kernel refl refl refl nothing;
}
stopped_ends now method args sessions kept old new net disks stop.Memory served rose word kernel nothing = record {
  cut = untouched (moment_of net);
  cuts = CallCuts.in_front;
  left = cut_so (untouched (moment_of net)) (moment_of net) kernel refl refl refl nothing;
  files = CallPasses.left (folder_of new) served.called served.store;
}

-- all is told of the reload
pub silent_behind : (before : Parts) (answer : UciAnswer) (old now : Network) (result : Result Outcome CallStop)
    → ReloadsTo before answer old now result → OnOk result (now.notices ≡ [])
silent_behind before answer old now (Ok told) reloads = reloads.silent
silent_behind before answer old now (Err why) reloads = tt
