-- What a call leaves and answers (OpenWrt's rpcd, but for rules of our own that `rpc_rules` names).
use Rattle.std.specs.Prelude.{ℕ, ◌≡◌, ◌<◌, ◌⊎◌, List, [], ◌++◌, length, Option, Some, None, Result, Ok, Err, Bool, true}
use Rattle.std.specs.Prelude.{false, map, unwrap_or}
use Rattle.blob_codec.specs.declared.blob.Attr.{Attr}
use Rattle.snap_disk.specs.Opened.{State}
use Rattle.snap_disk.specs.Open.{pending_of}
use Rattle.uci_tree.specs.declared.path.Path.{Path}
use Rattle.uci_tree.specs.declared.tree_error.TreeError.{TreeError}
use Rattle.uci_delta.specs.declared.delta.Delta.{Delta}
use Rattle.uci_staged.specs.declared.change.StagedChange.{StagedChange}
use Rattle.uci_staged.specs.Change.{has_staged}
use Rattle.uci_store.specs.declared.store.Store.{Store}
use Rattle.uci_store.specs.Store.{names_of, files_of, staged_in, file_of}
use Rattle.uci_store.specs.Refusals.{HasNoFile, LacksReading}
use Rattle.uci_store.specs.Staging.{HasReverted}
use Rattle.uci_store.specs.Committing.{CommitsTo, HasCommitted, OfStaged, IsSeenTooLarge}
use Rattle.uci_store.specs.Applying.{AppliesTo, HasApplied, IsFirstUnread, AreReadAndLarge}
use Rattle.uci_store.specs.Waiting.{ConfirmsTo, RollsBackTo}
use Rattle.rpc_session.specs.declared.grant.Grant.{Grant}
use Rattle.rpc_session.specs.SessionList.{SessionList}
use Rattle.rpc_rules.specs.declared.method.Question.{Question}
use Rattle.rpc_rules.specs.declared.method.Edit.{Edit}
use Rattle.rpc_rules.specs.declared.method.Method.{Method}
use Rattle.rpc_rules.specs.declared.method.Method.TheVariants.{Ask, Stage, Revert, Commit, Apply, Confirm, Rollback}
use Rattle.rpc_rules.specs.declared.plan.Plan.{Plan}
use Rattle.rpc_rules.specs.declared.rpc_error.RpcError.{RpcError}
use Rattle.rpc_rules.specs.declared.rpc_error.RpcError.TheVariants.{Status, Denied, DiskFailed, Memory}
use Rattle.rpc_rules.specs.Status.{bad_argument, no_method, not_found, no_data, unknown_error}
use Rattle.rpc_rules.specs.Method.{method_of}
use Rattle.rpc_rules.specs.Arguments.{caller_in, config_in, holder_of, apply_deadline}
use Rattle.rpc_rules.specs.Grants.{is_admitted}
use Rattle.rpc_uci.specs.declared.reply.Reply.{Reply}
use Rattle.rpc_uci.specs.Call.{Call, call_of, missing, denied_grant, is_reloading}
use Rattle.rpc_uci.specs.Outcome.{AskComesTo, EditComesTo}

-- ---- replies and refusals

-- a reply after which nothing is read anew, and one after which all is
abbrev pub quiet : List Attr → Reply
quiet payload = record { payload = payload; reload = false }

abbrev pub reloading : Reply
reloading = record { payload = []; reload = true }

-- files and staged changes are as they were
pub record Rests (old new : Store) : Type 0 where
  pub files : files_of new ≡ files_of old
  pub staged : staged_in new ≡ staged_in old

-- a call is refused so, or there was no memory for that; nothing changed
abbrev pub IsRefusal : RpcError → Result Reply RpcError → Type 0
IsRefusal error (Ok reply) = ⊥
IsRefusal error (Err given) = (given ≡ error) ⊎ (given ≡ Memory)

pub record IsRefused (error : RpcError) (old new : Store) (result : Result Reply RpcError) : Type 0 where
  pub answer : IsRefusal error result
  pub rests : Rests old new

-- the error is a status of which that holds, or there was no memory
abbrev pub IsStatusFor : (ℕ → Type 0) → RpcError → Type 0
IsStatusFor P (Status status) = P status
IsStatusFor P (Denied grant) = ⊥
IsStatusFor P DiskFailed = ⊥
IsStatusFor P Memory = Unit {0}

-- ---- questions

abbrev pub AskAnswers : Question → Store → Call → Result Reply RpcError → Type 0
AskAnswers question old call (Ok reply) = AskComesTo question old call (Ok reply.payload) × (reply.reload ≡ false)
AskAnswers question old call (Err error) = IsStatusFor (λ status. AskComesTo question old call (Err status)) error

-- a question is answered or refused, and changes nothing
pub record AskDone (question : Question) (call : Call) (old new : Store) (result : Result Reply RpcError) : Type 0 where
  pub answers : AskAnswers question old call result
  pub rests : Rests old new

-- ---- changes that are staged

-- the number of the file of a package
abbrev pub file_number : Store → List ℕ → ℕ
file_number store name = unwrap_or (file_of (names_of store) name) 0

-- a change of a holder, of the package that it names
abbrev pub change_in : Store → ℕ → Delta → StagedChange
change_in store holder delta = record { holder = holder; file = file_number store delta.package; delta = delta }

-- these changes are the holder's last ones now, and the files are as they were
pub record HasStagedAll (old new : Store) (holder : ℕ) (deltas : List Delta) : Type 0 where
  pub staged : staged_in new ≡ staged_in old ++ map (change_in old holder) deltas
  pub files : files_of new ≡ files_of old

-- what the method was to stage is staged, and told
pub record EditIsStaged (edit : Edit) (holder : ℕ) (args : List Attr) (old new : Store) (reply : Reply) : Type 0 where
  pub plan : Plan
  pub comes : EditComesTo edit old holder args (Ok plan)
  pub told : reply ≡ quiet plan.told
  pub staged : HasStagedAll old new holder plan.deltas

-- it was to stage something, and nothing is staged
pub record NoneIsStaged (edit : Edit) (holder : ℕ) (args : List Attr) (old new : Store) : Type 0 where
  pub plan : Plan
  pub comes : EditComesTo edit old holder args (Ok plan)
  pub some : 0 < length plan.deltas
  pub rests : Rests old new

-- where it is refused nothing is staged, nor where a disk failed or there was no memory
abbrev pub EditDone : Edit → ℕ → List Attr → Store → Store → Result Reply RpcError → Type 0
EditDone edit holder args old new (Ok reply) = EditIsStaged edit holder args old new reply
EditDone edit holder args old new (Err (Status status)) = EditComesTo edit old holder args (Err status) × Rests old new
EditDone edit holder args old new (Err (Denied grant)) = ⊥
EditDone edit holder args old new (Err DiskFailed) = NoneIsStaged edit holder args old new
EditDone edit holder args old new (Err Memory) = Rests old new

-- ---- a package that is named

-- the argument is asked for
abbrev pub WithConfig : Option (List ℕ) → Store → Store → Result Reply RpcError → (List ℕ → Type 0) → Type 0
WithConfig None old new result Done = IsRefused (Status bad_argument) old new result
WithConfig (Some name) old new result Done = Done name

-- the path of a whole package
abbrev pub path_of : List ℕ → Path
path_of name = record { «package» = name; section = None; option = None }

-- `revert`: what the holder has staged of the package goes
abbrev pub RevertDone : ℕ → Store → Store → Result Reply RpcError → List ℕ → Type 0
RevertDone holder old new (Ok reply) name = (reply ≡ quiet []) × HasReverted old new holder (path_of name)
    × (files_of new ≡ files_of old)
RevertDone holder old new (Err (Status status)) name = HasNoFile old name × (status ≡ not_found) × Rests old new
RevertDone holder old new (Err (Denied grant)) name = ⊥
RevertDone holder old new (Err DiskFailed) name = Rests old new
RevertDone holder old new (Err Memory) name = Rests old new

-- why a commit is refused: no file has the name; something is staged, and the file does not read or the new one is too
-- large
abbrev pub CommitIsRefused : Store → ℕ → List ℕ → ℕ → Type 0
CommitIsRefused store holder name status =
    (HasNoFile store name × (status ≡ not_found))
    ⊎ (OfStaged store holder name (λ file. (error : TreeError) × LacksReading store file error)
    × (status ≡ bad_argument))
    ⊎ (OfStaged store holder name (λ file. (bytes : ℕ) × IsSeenTooLarge store holder file bytes)
    × (status ≡ unknown_error))

-- a disk that failed may have left the files that a call leads to
pub record LeavesEither (old new : Store) (To : State → Type 0) : Type 0 where
  pub staged : staged_in new ≡ staged_in old
  pub files : (files_of new ≡ files_of old) ⊎ To (files_of new)

-- `commit`: what the holder sees of the package is written
abbrev pub CommitDone : ℕ → Store → Store → Result Reply RpcError → List ℕ → Type 0
CommitDone holder old new (Ok reply) name = (reply ≡ quiet []) × HasCommitted old new holder name
CommitDone holder old new (Err (Status status)) name = CommitIsRefused old holder name status × Rests old new
CommitDone holder old new (Err (Denied grant)) name = ⊥
CommitDone holder old new (Err DiskFailed) name = LeavesEither old new (CommitsTo old holder name)
CommitDone holder old new (Err Memory) name = Rests old new

-- ---- `apply`, `confirm`, `rollback`

-- why an apply is refused: nothing is staged; a package does not read; they all read, and one is too large
abbrev pub ApplyIsRefused : Store → ℕ → ℕ → Type 0
ApplyIsRefused store holder status =
    ((has_staged holder (staged_in store) ≡ false) × (status ≡ no_data))
    ⊎ ((error : TreeError) × IsFirstUnread store holder error × (status ≡ bad_argument))
    ⊎ ((bytes : ℕ) × AreReadAndLarge store holder bytes × (status ≡ unknown_error))

-- all that the holder has staged is written, and waits until the deadline where there is one
abbrev pub ApplyDone : ℕ → Store → Store → Result Reply RpcError → Option ℕ → Type 0
ApplyDone holder old new (Ok reply) deadline = (reply ≡ reloading) × HasApplied old new holder deadline
ApplyDone holder old new (Err (Status status)) deadline = ApplyIsRefused old holder status × Rests old new
ApplyDone holder old new (Err (Denied grant)) deadline = ⊥
ApplyDone holder old new (Err DiskFailed) deadline = LeavesEither old new (AppliesTo old holder deadline)
ApplyDone holder old new (Err Memory) deadline = Rests old new

-- its arguments go first
abbrev pub WithDeadline : Result (Option ℕ) ℕ → Store → Store → Result Reply RpcError → (Option ℕ → Type 0) → Type 0
WithDeadline (Err status) old new result Done = IsRefused (Status status) old new result
WithDeadline (Ok deadline) old new result Done = Done deadline

-- what waits stays, or is undone; where a disk failed all is as it was
pub record HasEnded (old new : Store) (To : State → Type 0) : Type 0 where
  pub files : To (files_of new)
  pub staged : staged_in new ≡ staged_in old

abbrev pub EndDone : Reply → (State → Type 0) → Store → Store → Result Reply RpcError → Type 0
EndDone told To old new (Ok reply) = (reply ≡ told) × HasEnded old new To
EndDone told To old new (Err (Status status)) = (pending_of (files_of old).waits ≡ None) × (status ≡ no_data)
    × Rests old new
EndDone told To old new (Err (Denied grant)) = ⊥
EndDone told To old new (Err DiskFailed) = Rests old new
EndDone told To old new (Err Memory) = Rests old new

-- ---- all

-- a method, once no grant is missing
abbrev pub MethodDone : Method → Call → Store → Store → Result Reply RpcError → Type 0
MethodDone (Ask question) call old new result = AskDone question call old new result
MethodDone (Stage edit) call old new result = EditDone edit (holder_of call.caller) call.args old new result
MethodDone Revert call old new result =
    WithConfig (config_in call.args) old new result (RevertDone (holder_of call.caller) old new result)
MethodDone Commit call old new result =
    WithConfig (config_in call.args) old new result (CommitDone (holder_of call.caller) old new result)
MethodDone Apply call old new result =
    WithDeadline (apply_deadline call.args call.now) old new result (ApplyDone (holder_of call.caller) old new result)
MethodDone Confirm call old new result = EndDone (quiet []) (ConfirmsTo old (holder_of call.caller)) old new result
MethodDone Rollback call old new result = EndDone reloading (RollsBackTo old (holder_of call.caller)) old new result

-- the first grant that is missing is told
abbrev pub GrantedDone : Option Grant → Method → Call → Store → Store → Result Reply RpcError → Type 0
GrantedDone (Some grant) method call old new result = IsRefused (Denied grant) old new result
GrantedDone None method call old new result = MethodDone method call old new result

-- a session that is no live one goes before that
abbrev pub AdmittedDone : Bool → Method → Call → Store → Store → Result Reply RpcError → Type 0
AdmittedDone false method call old new result = IsRefused (Status not_found) old new result
AdmittedDone true method call old new result =
    IsRefused Memory old new result ⊎ GrantedDone (missing method call old) method call old new result

-- A call, in this order: its method, its session, its grants, its arguments, and what it looks up.
abbrev pub CallDone : Option Method → Bool → Call → Store → Store → Result Reply RpcError → Type 0
CallDone None admitted call old new result = IsRefused (Status no_method) old new result
CallDone (Some method) admitted call old new result = AdmittedDone admitted method call old new result

abbrev pub Answers : SessionList → List ℕ → List Attr → ℕ → Store → Store → Result Reply RpcError → Type 0
Answers list method args now old new result =
    CallDone (method_of method) (is_admitted (caller_in args) now list) (call_of list args now) old new result

-- the grant that the call is told to lack
abbrev pub denied : SessionList → List ℕ → List Attr → ℕ → Store → Option Grant
denied list method args now store =
    denied_grant (method_of method) (is_admitted (caller_in args) now list) (call_of list args now) store

-- whether the packages are read anew after it
abbrev pub reloads : Option Method → Bool
reloads None = false
reloads (Some method) = is_reloading method

-- the files that a method leads to
abbrev pub ConfigLeads : Option (List ℕ) → (List ℕ → State → Type 0) → State → Type 0
ConfigLeads None To after = ⊥
ConfigLeads (Some name) To after = To name after

abbrev pub DeadlineLeads : Result (Option ℕ) ℕ → (Option ℕ → State → Type 0) → State → Type 0
DeadlineLeads (Err status) To after = ⊥
DeadlineLeads (Ok deadline) To after = To deadline after

abbrev pub MethodLeads : Method → Call → Store → State → Type 0
MethodLeads (Ask question) call old after = ⊥
MethodLeads (Stage edit) call old after = ⊥
MethodLeads Revert call old after = ⊥
MethodLeads Commit call old after = ConfigLeads (config_in call.args) (CommitsTo old (holder_of call.caller)) after
MethodLeads Apply call old after =
    DeadlineLeads (apply_deadline call.args call.now) (AppliesTo old (holder_of call.caller)) after
MethodLeads Confirm call old after = ConfirmsTo old (holder_of call.caller) after
MethodLeads Rollback call old after = RollsBackTo old (holder_of call.caller) after

-- a call leads to none where its method, its session or a grant stops it
abbrev pub GrantedLeads : Option Grant → Method → Call → Store → State → Type 0
GrantedLeads (Some grant) method call old after = ⊥
GrantedLeads None method call old after = MethodLeads method call old after

abbrev pub AdmittedLeads : Bool → Method → Call → Store → State → Type 0
AdmittedLeads false method call old after = ⊥
AdmittedLeads true method call old after = GrantedLeads (missing method call old) method call old after

abbrev pub CallLeads : Option Method → Bool → Call → Store → State → Type 0
CallLeads None admitted call old after = ⊥
CallLeads (Some method) admitted call old after = AdmittedLeads admitted method call old after

abbrev pub Leads : SessionList → List ℕ → List Attr → ℕ → Store → State → Type 0
Leads list method args now old after =
    CallLeads (method_of method) (is_admitted (caller_in args) now list) (call_of list args now) old after

-- neither did a disk fail, nor was there no memory
abbrev pub IsGiven : Result Reply RpcError → Type 0
IsGiven (Ok reply) = Unit {0}
IsGiven (Err (Status status)) = Unit {0}
IsGiven (Err (Denied grant)) = Unit {0}
IsGiven (Err DiskFailed) = ⊥
IsGiven (Err Memory) = ⊥
