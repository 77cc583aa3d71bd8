-- A call leaves one state.
use Rattle.std.proofs.Common.{ℕ, ◌≡◌, ◌≢◌, ◌<◌, ◌+◌, ◌-◌, ◌++◌, ◌⊎◌, inl, inr, List, [], ◌∷◌, length, map, Option, Some, None, Result, Ok, Err, Bool, true, false, sym, ap, subst, ◌∙◌, arith}
use Rattle.std.specs.List.{AllByRecursion}
use Rattle.std.proofs.lemmas.Bool.{cases_eq}
use Rattle.std.proofs.lemmas.List.{length-set, get_or-set_same, get_or-set_other}
use Rattle.plane_disk.specs.Files.{Files, bytes_of}
use Rattle.snap_disk.specs.declared.new_file.NewFile.{NewFile}
use Rattle.snap_disk.specs.declared.new_file.Pending.{Pending}
use Rattle.snap_disk.specs.Opened.{State, with_package, put, settled, pending_over}
use Rattle.snap_disk.specs.Open.{begun}
use Rattle.snap_disk.specs.Phase.{Stands, IsBeside, ArePackageFiles}
use Rattle.snap_disk.proofs.PutLemmas.{put_again, put_beside}
use Rattle.snap_disk.proofs.OldLemmas.{AreOf, put_of}
use Rattle.blob_codec.specs.declared.blob.Attr.{Attr}
use Rattle.uci_staged.specs.Change.{has_deltas, without, reverted}
use Rattle.uci_store.specs.declared.store.Store.{Store}
use Rattle.uci_store.specs.Store.{names_of, files_of, staged_in, IsStore}
use Rattle.uci_store.specs.Refusals.{IsSeenAt}
use Rattle.uci_store.specs.Committing.{file_text, with_file, IsNewFile, HasCommitted}
use Rattle.uci_store.specs.Applying.{EachBefore, AreNewFiles, wait_of}
use Rattle.uci_store.specs.Waiting.{ConfirmsTo, RollsBackTo}
use Rattle.rpc_session.specs.declared.grant.Grant.{Grant}
use Rattle.rpc_session.specs.SessionList.{SessionList}
use Rattle.rpc_rules.specs.declared.method.Edit.{Edit}
use Rattle.rpc_rules.specs.declared.method.Method.{Method}
use Rattle.rpc_rules.specs.declared.method.Method.TheVariants.{Ask, Stage, Revert, Commit, Apply, Confirm, Rollback}
use Rattle.rpc_rules.specs.declared.plan.Plan.{Plan}
use Rattle.rpc_rules.specs.declared.rpc_error.RpcError.{RpcError}
use Rattle.rpc_rules.specs.declared.rpc_error.RpcError.TheVariants.{Status, Denied, DiskFailed, Memory}
use Rattle.rpc_rules.specs.Method.{method_of}
use Rattle.rpc_rules.specs.Arguments.{caller_in, config_in, holder_of, apply_deadline}
use Rattle.rpc_rules.specs.Grants.{is_admitted}
use Rattle.rpc_uci.specs.declared.reply.Reply.{Reply}
use Rattle.rpc_uci.specs.Call.{Call, call_of, missing}
use Rattle.rpc_uci.specs.Done.{quiet, reloading, path_of, change_in, Rests, EditDone, WithConfig, WithDeadline, RevertDone, CommitDone, ApplyDone, EndDone, MethodDone, GrantedDone, AdmittedDone, CallDone, Answers, IsGiven}
use Rattle.rpc_uci.proofs.SightLemmas.{one_file, one_sight}
use Rattle.rpc_uci.proofs.AnswerLemmas.{ok_is, one_plan, true_or_false, memory_given, answers_are_one}

both_rest : (old one other : Store) → Rests old one → Rests old other → Rests one other
both_rest old one other h k = record { files = k.files ∙ sym h.files; staged = k.staged ∙ sym h.staged }

-- ---- new files

-- of one number, the holder sees one text
same_bytes : (store : Store) (holder : ℕ) (a b : NewFile) → b.file ≡ a.file → IsNewFile store holder a → IsNewFile store holder b → b.bytes ≡ a.bytes
same_bytes store holder a b same h k =
    let seen : IsSeenAt store holder a.file k.view = subst (λ (n : ℕ). IsSeenAt store holder n k.view) same k.seen in
    k.text ∙ ap file_text (one_sight store holder a.file h.view k.view h.seen seen) ∙ sym h.text

same_new : (a b : NewFile) → b.file ≡ a.file → b.bytes ≡ a.bytes → b ≡ a
same_new a b file bytes = ap (λ (z : ℕ). new_of z b.bytes) file ∙ ap (λ (z : List ℕ). new_of a.file z) bytes
  where
    new_of : ℕ → List ℕ → NewFile
    new_of file bytes = record { file = file; bytes = bytes }

also_stands : (store : Store) (holder : ℕ) (a b : List NewFile) (file : ℕ) → AllByRecursion (IsNewFile store holder) a → EachBefore store holder (length (names_of store) + 2) (Stands b) → Stands a file → Stands b file
also_stands store holder [] b file all each h = absurd h
also_stands store holder (one ∷ a) b file all each (inl same) = subst (Stands b) (sym same) (each one.file all.0.low all.0.number all.0.some)
also_stands store holder (one ∷ a) b file all each (inr h) = also_stands store holder a b file all.1 each h

package_files : (store : Store) (holder : ℕ) (a : List NewFile) → AllByRecursion (IsNewFile store holder) a → ArePackageFiles (length (names_of store) + 2) a
package_files store holder [] all = tt
package_files store holder (one ∷ a) all = (record { low = all.0.low; number = all.0.number; small = all.0.fits }, package_files store holder a all.1)

-- a package that is written has its text
written : (store : Store) (holder : ℕ) (one : NewFile) (ps : Files) (new : NewFile) → length ps ≡ length (names_of store) → IsNewFile store holder one → IsNewFile store holder new → new.file ≡ one.file
    → new.bytes ≡ bytes_of (with_package ps one.file one.bytes) (new.file - 2)
written store holder one ps new count h is same =
    let within : one.file - 2 < length ps = omega (arith, h.low, h.number, count) in
    same_bytes store holder one new same h is ∙ sym (get_or-set_same ps (one.file - 2) one.bytes [] within)
    ∙ ap (λ (z : ℕ). bytes_of (with_package ps one.file one.bytes) (z - 2)) (sym same)

-- once they are put, each package of them has its text
holds : (store : Store) (holder : ℕ) (a : List NewFile) (ps : Files) (new : NewFile) → length ps ≡ length (names_of store) → AllByRecursion (IsNewFile store holder) a → IsNewFile store holder new
    → Stands a new.file ⊎ (new.bytes ≡ bytes_of ps (new.file - 2)) → new.bytes ≡ bytes_of (put a ps) (new.file - 2)
holds store holder [] ps new count all is (inl h) = absurd h
holds store holder [] ps new count all is (inr e) = e
holds store holder (one ∷ a) ps new count all is (inl (inr h)) = holds store holder a (with_package ps one.file one.bytes) new (length-set ps (one.file - 2) one.bytes ∙ count) all.1 is (inl h)
holds store holder (one ∷ a) ps new count all is (inl (inl same)) =
    holds store holder a (with_package ps one.file one.bytes) new (length-set ps (one.file - 2) one.bytes ∙ count) all.1 is (inr (written store holder one ps new count all.0 is same))
holds store holder (one ∷ a) ps new count all is (inr e) =
    let stays : new.bytes ≡ bytes_of (with_package ps one.file one.bytes) (new.file - 2) = elim (cases_eq new.file one.file) [
      | inl same ↦ written store holder one ps new count all.0 is same
      | inr apart ↦
          let isnt : new.file - 2 ≢ one.file - 2 = λ f. apart (omega (arith, f, is.low, all.0.low)) in
          e ∙ sym (get_or-set_other ps (one.file - 2) (new.file - 2) one.bytes [] isnt)
    ] in
    holds store holder a (with_package ps one.file one.bytes) new (length-set ps (one.file - 2) one.bytes ∙ count) all.1 is (inr stays)

are_held : (store : Store) (holder : ℕ) (a b : List NewFile) (ps : Files) → length ps ≡ length (names_of store) → AllByRecursion (IsNewFile store holder) a → EachBefore store holder (length (names_of store) + 2) (Stands a)
    → AllByRecursion (IsNewFile store holder) b → AreOf (put a ps) b
are_held store holder a [] ps count all each are = tt
are_held store holder a (new ∷ b) ps count all each are =
    (holds store holder a ps new count all are.0 (inl (each new.file are.0.low are.0.number are.0.some)), are_held store holder a b ps count all each are.1)

put_same : (store : Store) (holder : ℕ) (a b : List NewFile) (ps : Files) → length ps ≡ length (names_of store) → AreNewFiles store holder a → AreNewFiles store holder b → put b ps ≡ put a ps
put_same store holder a b ps count h k =
    let first = put_beside (length (names_of store) + 2) a ps (package_files store holder a h.each) in
    let beside : IsBeside b ps (put a ps) = record {
      count = first.count;
      others = λ index apart. first.others index (λ stands. apart (also_stands store holder a b (index + 2) h.each k.all stands));
      small = first.small;
    } in
    sym (put_again b ps (put a ps) beside) ∙ put_of (put a ps) b (are_held store holder a b ps count h.each h.all k.each)

begun_same : (state : State) (a b : List NewFile) (wait : Option Pending) → put b state.packages ≡ put a state.packages → begun state b wait ≡ begun state a wait
begun_same state a b None e = ap settled e
begun_same state a b (Some pending) e = ap (λ (z : Files). pending_over z pending state.packages) e

-- ---- methods

edit_state : (edit : Edit) (holder : ℕ) (args : List Attr) (old one other : Store) (result : Result Reply RpcError) → IsGiven result → EditDone edit holder args old one result → EditDone edit holder args old other result → Rests one other
edit_state edit holder args old one other (Ok reply) g h k =
    let same : k.plan ≡ h.plan = ok_is k.plan h.plan (one_plan edit old holder args (Ok h.plan) (Ok k.plan) h.comes k.comes) in
    record {
      files = k.staged.files ∙ sym h.staged.files;
      staged = k.staged.staged ∙ ap (λ (z : Plan). staged_in old ++ map (change_in old holder) z.deltas) same ∙ sym h.staged.staged;
    }
edit_state edit holder args old one other (Err (Status status)) g h k = both_rest old one other h.1 k.1
edit_state edit holder args old one other (Err (Denied grant)) g h k = absurd h
edit_state edit holder args old one other (Err DiskFailed) g h k = absurd g
edit_state edit holder args old one other (Err Memory) g h k = absurd g

revert_state : (holder : ℕ) (old one other : Store) (result : Result Reply RpcError) → IsGiven result → (name : List ℕ) → RevertDone holder old one result name → RevertDone holder old other result name → Rests one other
revert_state holder old one other (Ok reply) g name h k =
    let same : k.1.file ≡ h.1.file = one_file old name h.1.file k.1.file h.1.number k.1.number in
    record {
      files = k.2 ∙ sym h.2;
      staged = k.1.staged ∙ ap (λ (z : ℕ). reverted holder z (path_of name) (staged_in old)) same ∙ sym h.1.staged;
    }
revert_state holder old one other (Err (Status status)) g name h k = both_rest old one other h.2 k.2
revert_state holder old one other (Err (Denied grant)) g name h k = absurd h
revert_state holder old one other (Err DiskFailed) g name h k = absurd g
revert_state holder old one other (Err Memory) g name h k = absurd g

-- something is staged of the package, or nothing is
some_or_none : (store : Store) (holder : ℕ) (file other : ℕ) → other ≡ file → has_deltas holder other (staged_in store) ≡ true → has_deltas holder file (staged_in store) ≡ false → ⊥
some_or_none store holder file other same some none = true_or_false (has_deltas holder file (staged_in store)) (subst (λ (z : ℕ). has_deltas holder z (staged_in store) ≡ true) same some) none

committed_state : (holder : ℕ) (old one other : Store) (name : List ℕ) → HasCommitted old one holder name → HasCommitted old other holder name → Rests one other
committed_state holder old one other name (inl h) (inl k) = record { files = k.files ∙ sym h.files; staged = k.staged ∙ sym h.staged }
committed_state holder old one other name (inl h) (inr k) = absurd (some_or_none old holder h.nothing.file k.file.file (one_file old name h.nothing.file k.file.file h.nothing.number k.is.number) k.is.is.some h.nothing.nothing)
committed_state holder old one other name (inr h) (inl k) = absurd (some_or_none old holder k.nothing.file h.file.file (one_file old name k.nothing.file h.file.file k.nothing.number h.is.number) h.is.is.some k.nothing.nothing)
committed_state holder old one other name (inr h) (inr k) =
    let number : k.file.file ≡ h.file.file = one_file old name h.file.file k.file.file h.is.number k.is.number in
    let same : k.file ≡ h.file = same_new h.file k.file number (same_bytes old holder h.file k.file number h.is.is k.is.is) in
    record {
      files = k.written.files ∙ ap (with_file (files_of old)) same ∙ sym h.written.files;
      staged = k.written.staged ∙ ap (λ (z : ℕ). without holder z (staged_in old)) number ∙ sym h.written.staged;
    }

commit_state : (holder : ℕ) (old one other : Store) (result : Result Reply RpcError) → IsGiven result → (name : List ℕ) → CommitDone holder old one result name → CommitDone holder old other result name → Rests one other
commit_state holder old one other (Ok reply) g name h k = committed_state holder old one other name h.1 k.1
commit_state holder old one other (Err (Status status)) g name h k = both_rest old one other h.1 k.1
commit_state holder old one other (Err (Denied grant)) g name h k = absurd h
commit_state holder old one other (Err DiskFailed) g name h k = absurd g
commit_state holder old one other (Err Memory) g name h k = absurd g

apply_state : (holder : ℕ) (old one other : Store) (result : Result Reply RpcError) → IsStore old → IsGiven result → (deadline : Option ℕ) → ApplyDone holder old one result deadline → ApplyDone holder old other result deadline
    → Rests one other
apply_state holder old one other (Ok reply) is g deadline h k =
    let a = h.1.leads.new in
    let b = k.1.leads.new in
    let puts = put_same old holder a b (files_of old).packages (sym is.counted) h.1.leads.written k.1.leads.written in
    record {
      files = k.1.leads.files ∙ begun_same (files_of old) a b (wait_of holder deadline) puts ∙ sym h.1.leads.files;
      staged = k.1.staged ∙ sym h.1.staged;
    }
apply_state holder old one other (Err (Status status)) is g deadline h k = both_rest old one other h.1 k.1
apply_state holder old one other (Err (Denied grant)) is g deadline h k = absurd h
apply_state holder old one other (Err DiskFailed) is g deadline h k = absurd g
apply_state holder old one other (Err Memory) is g deadline h k = absurd g

end_state : (told : Reply) (To : State → Type 0) (old one other : Store) (result : Result Reply RpcError) → ((a b : State) → To a → To b → b ≡ a) → IsGiven result → EndDone told To old one result → EndDone told To old other result
    → Rests one other
end_state told To old one other (Ok reply) same g h k = record { files = same (files_of one) (files_of other) h.1.files k.1.files; staged = k.1.staged ∙ sym h.1.staged }
end_state told To old one other (Err (Status status)) same g h k = both_rest old one other h.2 k.2
end_state told To old one other (Err (Denied grant)) same g h k = absurd h
end_state told To old one other (Err DiskFailed) same g h k = absurd g
end_state told To old one other (Err Memory) same g h k = absurd g

-- ---- all

config_state : (config : Option (List ℕ)) (old one other : Store) (result : Result Reply RpcError) (D E : List ℕ → Type 0) → ((name : List ℕ) → D name → E name → Rests one other) → WithConfig config old one result D
    → WithConfig config old other result E → Rests one other
config_state None old one other result D E each h k = both_rest old one other h.rests k.rests
config_state (Some name) old one other result D E each h k = each name h k

deadline_state : (deadline : Result (Option ℕ) ℕ) (old one other : Store) (result : Result Reply RpcError) (D E : Option ℕ → Type 0) → ((d : Option ℕ) → D d → E d → Rests one other) → WithDeadline deadline old one result D
    → WithDeadline deadline old other result E → Rests one other
deadline_state (Err status) old one other result D E each h k = both_rest old one other h.rests k.rests
deadline_state (Ok d) old one other result D E each h k = each d h k

method_state : (method : Method) (call : Call) (old one other : Store) (result : Result Reply RpcError) → IsStore old → IsGiven result → MethodDone method call old one result → MethodDone method call old other result → Rests one other
method_state (Ask question) call old one other result is g h k = both_rest old one other h.rests k.rests
method_state (Stage edit) call old one other result is g h k = edit_state edit (holder_of call.caller) call.args old one other result g h k
method_state Revert call old one other result is g h k =
    config_state (config_in call.args) old one other result (RevertDone (holder_of call.caller) old one result) (RevertDone (holder_of call.caller) old other result) (revert_state (holder_of call.caller) old one other result g) h k
method_state Commit call old one other result is g h k =
    config_state (config_in call.args) old one other result (CommitDone (holder_of call.caller) old one result) (CommitDone (holder_of call.caller) old other result) (commit_state (holder_of call.caller) old one other result g) h k
method_state Apply call old one other result is g h k =
    deadline_state (apply_deadline call.args call.now) old one other result (ApplyDone (holder_of call.caller) old one result) (ApplyDone (holder_of call.caller) old other result)
    (apply_state (holder_of call.caller) old one other result is g) h k
method_state Confirm call old one other result is g h k = end_state (quiet []) (ConfirmsTo old (holder_of call.caller)) old one other result (λ a b x y. y.files ∙ sym x.files) g h k
method_state Rollback call old one other result is g h k = end_state reloading (RollsBackTo old (holder_of call.caller)) old one other result (λ a b x y. y.files ∙ sym x.files) g h k

granted_state : (found : Option Grant) (method : Method) (call : Call) (old one other : Store) (result : Result Reply RpcError) → IsStore old → IsGiven result → GrantedDone found method call old one result
    → GrantedDone found method call old other result → Rests one other
granted_state (Some grant) method call old one other result is g h k = both_rest old one other h.rests k.rests
granted_state None method call old one other result is g h k = method_state method call old one other result is g h k

admitted_state : (admitted : Bool) (method : Method) (call : Call) (old one other : Store) (result : Result Reply RpcError) → IsStore old → IsGiven result → AdmittedDone admitted method call old one result
    → AdmittedDone admitted method call old other result → Rests one other
admitted_state false method call old one other result is g h k = both_rest old one other h.rests k.rests
admitted_state true method call old one other result is g (inl h) k = absurd (memory_given result g h.answer)
admitted_state true method call old one other result is g (inr h) (inl k) = absurd (memory_given result g k.answer)
admitted_state true method call old one other result is g (inr h) (inr k) = granted_state (missing method call old) method call old one other result is g h k

call_state : (method : Option Method) (admitted : Bool) (call : Call) (old one other : Store) (result : Result Reply RpcError) → IsStore old → IsGiven result → CallDone method admitted call old one result
    → CallDone method admitted call old other result → Rests one other
call_state None admitted call old one other result is g h k = both_rest old one other h.rests k.rests
call_state (Some method) admitted call old one other result is g h k = admitted_state admitted method call old one other result is g h k

pub states_are_one : (list : SessionList) (name : List ℕ) (args : List Attr) (now : ℕ) (store one other : Store) (result again : Result Reply RpcError) → IsStore store → Answers list name args now store one result
    → Answers list name args now store other again → IsGiven result → IsGiven again → Rests one other
states_are_one list name args now store one other result again is h k g f =
    let same : again ≡ result = answers_are_one list name args now store one other result again h k g f in
    let there : Answers list name args now store other result = subst (Answers list name args now store other) same k in
    call_state (method_of name) (is_admitted (caller_in args) now list) (call_of list args now) store one other result is g h there
