-- Changes that are staged at once.
use Rattle.std.proofs.Common.{ℕ, ◌≡◌, ◌<◌, List, [], ◌∷◌, ◌++◌, length, map, Option, Some, None, Result, Ok, Err, Bool, true, false, refl, sym, ap, subst, ◌∙◌, arith}
use Rattle.std.specs.Prelude.{unwrap_or}
use Rattle.std.specs.List.{AllByRecursion}
use Rattle.std.proofs.lemmas.List.{append-nil}
use Rattle.plane_disk.specs.View.{View}
use Rattle.snap_disk.specs.declared.snap_error.SnapError.TheVariants.{DiskFailed, Waiting, NothingWaits, BadSnapshot, Reopen, Limit, Memory as SnapMemory}
use Rattle.snap_disk.specs.Open.{state_of}
use Rattle.uci_tree.specs.declared.package.Package.{Package}
use Rattle.uci_tree.specs.declared.tree_error.TreeError.{TreeError}
use Rattle.uci_tree.proofs.LawLemmas.{no_package}
use Rattle.uci_delta.specs.declared.delta.Delta.{Delta}
use Rattle.uci_delta.specs.declared.delta_error.DeltaError.{DeltaError}
use Rattle.uci_staged.specs.declared.change.StagedChange.{StagedChange}
use Rattle.uci_staged.specs.Change.{changes_at}
use Rattle.uci_store.specs.declared.store.Store.{Store}
use Rattle.uci_store.specs.declared.store_error.StoreError.{StoreError}
use Rattle.uci_store.specs.declared.store_error.StoreError.TheVariants.{Snap, NoPackage, Parse, Delta as NotTaken, TooLarge, NotHolder, NothingStaged, Memory as StoreMemory}
use Rattle.uci_store.specs.Store.{names_of, snap_of, files_of, staged_in, has_failed, file_of, name_of, text_of}
use Rattle.uci_store.specs.Refusals.{HasFile, ReadsAt, IsSeenAt}
use Rattle.uci_store.specs.Staging.{IsWhole}
use Rattle.uci_store.specs.Batch.{IsOf, taken_from, all_taken, HasStagedBatch, BatchRefuses}
use Rattle.blob_codec.specs.declared.blob.Attr.{Attr}
use Rattle.rpc_rules.specs.declared.method.Edit.{Edit}
use Rattle.rpc_rules.specs.declared.plan.Plan.{Plan}
use Rattle.rpc_rules.specs.Status.{bad_argument, and_then}
use Rattle.rpc_rules.specs.Arguments.{config_in, edit_fits}
use Rattle.rpc_uci.specs.Outcome.{SeesNamed, planned_of, EditComesTo}
use Rattle.rpc_rules.specs.declared.rpc_error.RpcError.{RpcError}
use Rattle.rpc_rules.specs.declared.rpc_error.RpcError.TheVariants.{Status, Denied, DiskFailed as DiskError, Memory as NoMemory}
use Rattle.rpc_uci.specs.declared.reply.Reply.{Reply}
use Rattle.rpc_uci.specs.Done.{change_in, HasStagedAll, quiet, IsStatusFor, EditDone}
use Rattle.rpc_uci.specs.Staging.{TakesAll, IsStageable, IsCut, HasCause}
use Rattle.rpc_uci.specs.Refused.{store_told}
use Rattle.rpc_uci.proofs.PlanLemmas.{planned_takes}
use Rattle.rpc_uci.proofs.SightLemmas.{one_file, one_sight}
use Rattle.rpc_uci.proofs.EndingLemmas.{told_unless_failed}

-- ---- what is planned may be staged

stageable_of : (edit : Edit) (store : Store) (holder : ℕ) (args : List Attr) (plan : Plan) (name : List ℕ) (fits : Bool) (seen : Result Package ℕ) → SeesNamed store holder fits (Some name) seen → Ok plan
    ≡ and_then seen (planned_of edit (Some name) args) → IsStageable store holder name plan.deltas
stageable_of edit store holder args plan name fits (Err status) sees e = absurd (let f : ◌≡◌ {A = Result Plan ℕ} (Ok plan) (Err status) = e in cc)
stageable_of edit store holder args plan name false (Ok view) sees e = absurd (let f : ◌≡◌ {A = Result Package ℕ} (Ok view) (Err bad_argument) = sees in cc)
stageable_of edit store holder args plan name true (Ok view) sees e = record {
  file = sees.file;
  number = sees.number;
  view = view;
  seen = sees.seen;
  takes = planned_takes edit name args view plan (sym e);
}

pub plan_stageable : (edit : Edit) (store : Store) (holder : ℕ) (args : List Attr) (plan : Plan) (name : List ℕ) → config_in args ≡ Some name → EditComesTo edit store holder args (Ok plan) → IsStageable store holder name plan.deltas
plan_stageable edit store holder args plan name named comes =
    stageable_of edit store holder args plan name (edit_fits edit args) comes.0
    (subst (λ (config : Option (List ℕ)). SeesNamed store holder (edit_fits edit args) config comes.0) named comes.1)
    (subst (λ (config : Option (List ℕ)). Ok plan ≡ and_then comes.0 (planned_of edit config args)) named comes.2)

-- each is a change of the package
pub each_is_of : (name : List ℕ) (tree : Package) (deltas : List Delta) → TakesAll name tree deltas → AllByRecursion (IsOf name) deltas
each_is_of name tree [] h = tt
each_is_of name tree (delta ∷ deltas) h = (h.0, each_is_of name h.1.0 deltas h.1.2)

-- the package that takes them all
record Takes (tree : Package) (deltas : List Delta) : Type 0 where
  pub taken : Package
  pub takes : all_taken tree deltas ≡ Ok taken

all_take : (name : List ℕ) (tree : Package) (deltas : List Delta) → TakesAll name tree deltas → Takes tree deltas
all_take name tree [] h = record { taken = tree; takes = refl }
all_take name tree (delta ∷ deltas) h =
    let rest = all_take name h.1.0 deltas h.1.2 in
    record { taken = rest.taken; takes = ap (λ (r : Result Package DeltaError). taken_from r deltas) h.1.1 ∙ rest.takes }

-- ---- a store stages what it is to

changes_are : (store : Store) (holder file : ℕ) (name : List ℕ) (deltas : List Delta) → HasFile store name file → AllByRecursion (IsOf name) deltas → changes_at holder file deltas ≡ map (change_in store holder) deltas
changes_are store holder file name [] number each = refl
changes_are store holder file name (delta ∷ deltas) number each =
    let here : file_of (names_of store) delta.package ≡ Some file = ap (λ (z : List ℕ). file_of (names_of store) z) each.0 ∙ number in
    ap (λ (z : Option ℕ). record { holder = holder; file = unwrap_or z 0; delta = delta } ∷ changes_at holder file deltas) (sym here)
    ∙ ap (λ (z : List StagedChange). change_in store holder delta ∷ z) (changes_are store holder file name deltas number each.1)

pub staged_all : (old new : Store) (holder : ℕ) (name : List ℕ) (deltas : List Delta) → IsStageable old holder name deltas → snap_of new ≡ snap_of old → HasStagedBatch old new holder name deltas → HasStagedAll old new holder deltas
staged_all old new holder name deltas fits snap h = record {
  staged = h.staged ∙ ap (λ (z : List StagedChange). staged_in old ++ z) (changes_are old holder h.file name deltas h.number (each_is_of name fits.view deltas fits.takes));
  files = ap state_of snap;
}

-- it refuses only for a disk or for memory
taken_there : (store : Store) (holder : ℕ) (name : List ℕ) (deltas : List Delta) (error : DeltaError) (file : ℕ) (view : Package) → HasFile store name file → IsSeenAt store holder file view → all_taken view deltas ≡ Err error
    → IsStageable store holder name deltas → ⊥
taken_there store holder name deltas error file view number seen refused fits =
    let same : file ≡ fits.file = one_file store name fits.file file fits.number number in
    let there : IsSeenAt store holder fits.file view = subst (λ (k : ℕ). IsSeenAt store holder k view) same seen in
    let one : view ≡ fits.view = one_sight store holder fits.file fits.view view fits.seen there in
    let takes = all_take name fits.view deltas fits.takes in
    let e : ◌≡◌ {A = Result Package DeltaError} (Err error) (Ok takes.taken) = sym refused ∙ ap (λ (z : Package). all_taken z deltas) one ∙ takes.takes in
    absurd cc

reads_there : (store : Store) (holder : ℕ) (name : List ℕ) (deltas : List Delta) (old new : View) (error : TreeError) → BatchRefuses store holder name deltas old new (Parse error) → IsStageable store holder name deltas → ⊥
reads_there store holder name deltas old new error h fits =
    let same : h.1.file ≡ fits.file = one_file store name fits.file h.1.file fits.number h.1.number in
    let reads : ReadsAt store h.1.file fits.seen.base = subst (λ (k : ℕ). ReadsAt store k fits.seen.base) (sym same) fits.seen.reads in
    no_package (name_of (names_of store) h.1.file) (text_of (files_of store) h.1.file) error fits.seen.base h.1.fault reads

pub batch_cut : (store : Store) (holder : ℕ) (name : List ℕ) (deltas : List Delta) (old new : View) (error : StoreError) → has_failed store ≡ false → 0 < length deltas → IsStageable store holder name deltas
    → BatchRefuses store holder name deltas old new error → IsCut deltas (store_told error)
batch_cut store holder name deltas old new (Snap DiskFailed) ready some fits h = some
batch_cut store holder name deltas old new (Snap Reopen) ready some fits h = absurd (let e : true ≡ false = sym h ∙ ready in cc)
batch_cut store holder name deltas old new (Snap (Waiting deadline)) ready some fits h = absurd h
batch_cut store holder name deltas old new (Snap NothingWaits) ready some fits h = absurd h
batch_cut store holder name deltas old new (Snap (BadSnapshot byte)) ready some fits h = absurd h
batch_cut store holder name deltas old new (Snap (Limit number)) ready some fits h = absurd h
batch_cut store holder name deltas old new (Snap SnapMemory) ready some fits h = absurd h
batch_cut store holder name deltas old new NoPackage ready some fits h = absurd (let e : ◌≡◌ {A = Option ℕ} None (Some fits.file) = sym h.1 ∙ fits.number in cc)
batch_cut store holder name deltas old new (Parse error) ready some fits h = absurd (reads_there store holder name deltas old new error h fits)
batch_cut store holder name deltas old new (NotTaken error) ready some fits h = absurd (taken_there store holder name deltas error h.1.seen.file h.1.view h.1.seen.number h.1.seen.seen h.1.refused fits)
batch_cut store holder name deltas old new (TooLarge bytes) ready some fits h = absurd h
batch_cut store holder name deltas old new (NotHolder other) ready some fits h = absurd h
batch_cut store holder name deltas old new NothingStaged ready some fits h = absurd h
batch_cut store holder name deltas old new StoreMemory ready some fits h = tt

pub batch_cause : (store : Store) (holder : ℕ) (name : List ℕ) (deltas : List Delta) (failed : Bool) (old new : View) (error : StoreError) → has_failed store ≡ false → IsWhole {X = Unit {0}} (Err error) (has_failed store) failed
    → IsStageable store holder name deltas → BatchRefuses store holder name deltas old new error → HasCause {X = Unit {0}} (Err (store_told error)) failed old new
batch_cause store holder name deltas failed old new (Snap DiskFailed) ready whole fits h = (whole, h.3)
batch_cause store holder name deltas failed old new (Snap Reopen) ready whole fits h = absurd (let e : true ≡ false = sym h ∙ ready in cc)
batch_cause store holder name deltas failed old new (Snap (Waiting deadline)) ready whole fits h = absurd h
batch_cause store holder name deltas failed old new (Snap NothingWaits) ready whole fits h = absurd h
batch_cause store holder name deltas failed old new (Snap (BadSnapshot byte)) ready whole fits h = absurd h
batch_cause store holder name deltas failed old new (Snap (Limit number)) ready whole fits h = absurd h
batch_cause store holder name deltas failed old new (Snap SnapMemory) ready whole fits h = absurd h
batch_cause store holder name deltas failed old new NoPackage ready whole fits h = absurd (let e : ◌≡◌ {A = Option ℕ} None (Some fits.file) = sym h.1 ∙ fits.number in cc)
batch_cause store holder name deltas failed old new (Parse error) ready whole fits h = absurd (reads_there store holder name deltas old new error h fits)
batch_cause store holder name deltas failed old new (NotTaken error) ready whole fits h = absurd (taken_there store holder name deltas error h.1.seen.file h.1.view h.1.seen.number h.1.seen.seen h.1.refused fits)
batch_cause store holder name deltas failed old new (TooLarge bytes) ready whole fits h = absurd h
batch_cause store holder name deltas failed old new (NotHolder other) ready whole fits h = absurd h
batch_cause store holder name deltas failed old new NothingStaged ready whole fits h = absurd h
batch_cause store holder name deltas failed old new StoreMemory ready whole fits h = whole ∙ ready

-- nothing is to be staged
pub none_staged : (store : Store) (holder : ℕ) (deltas : List Delta) → length deltas ≡ 0 → HasStagedAll store store holder deltas
none_staged store holder [] none = record { staged = sym (append-nil (staged_in store)); files = refl }
none_staged store holder (delta ∷ deltas) none = absurd (omega (arith, none))

-- ---- a method that stages changes

pub edit_is_staged : (edit : Edit) (holder : ℕ) (args : List Attr) (old new : Store) (plan : Plan) (reply : Reply) → EditComesTo edit old holder args (Ok plan) → reply ≡ quiet plan.told → HasStagedAll old new holder plan.deltas
    → EditDone edit holder args old new (Ok reply)
edit_is_staged edit holder args old new plan reply comes told staged = record { plan = plan; comes = comes; told = told; staged = staged }

pub edit_is_cut : (edit : Edit) (holder : ℕ) (args : List Attr) (old new : Store) (plan : Plan) (error : RpcError) → EditComesTo edit old holder args (Ok plan) → snap_of new ≡ snap_of old → staged_in new ≡ staged_in old
    → IsCut plan.deltas error → EditDone edit holder args old new (Err error)
edit_is_cut edit holder args old new plan (Status status) comes snap kept cut = absurd cut
edit_is_cut edit holder args old new plan (Denied grant) comes snap kept cut = absurd cut
edit_is_cut edit holder args old new plan DiskError comes snap kept cut = record { plan = plan; comes = comes; some = cut; rests = record { files = ap state_of snap; staged = kept } }
edit_is_cut edit holder args old new plan NoMemory comes snap kept cut = record { files = ap state_of snap; staged = kept }

pub edit_is_refused : (edit : Edit) (holder : ℕ) (args : List Attr) (store : Store) (error : RpcError) → IsStatusFor (λ status. EditComesTo edit store holder args (Err status)) error → EditDone edit holder args store store (Err error)
edit_is_refused edit holder args store (Status status) comes = (comes, record { files = refl; staged = refl })
edit_is_refused edit holder args store (Denied grant) comes = absurd comes
edit_is_refused edit holder args store DiskError comes = absurd comes
edit_is_refused edit holder args store NoMemory comes = record { files = refl; staged = refl }

-- no package is named
sees_none : (store : Store) (holder : ℕ) (fits : Bool) → SeesNamed store holder fits None (Err bad_argument)
sees_none store holder false = refl
sees_none store holder true = refl

pub edit_is_unnamed : (edit : Edit) (holder : ℕ) (args : List Attr) (store : Store) → config_in args ≡ None → EditDone edit holder args store store (Err (Status bad_argument))
edit_is_unnamed edit holder args store unnamed = (
  (Err bad_argument, subst (λ (config : Option (List ℕ)). SeesNamed store holder (edit_fits edit args) config (Err bad_argument)) (sym unnamed) (sees_none store holder (edit_fits edit args)), refl),
  record { files = refl; staged = refl },
)

pub ruleset edits = (edit_is_staged, edit_is_cut, edit_is_refused, edit_is_unnamed)

pub ruleset staged_or_told = (none_staged, told_unless_failed)
