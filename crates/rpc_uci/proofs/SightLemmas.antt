-- What a call sees of packages is one thing.
use Rattle.std.proofs.Common.{ℕ, ◌≡◌, inl, inr, List, [], Option, Some, None, Result, Ok, Err, Bool, true, false, refl, sym, ap, subst, ◌∙◌}
use Rattle.uci_tree.specs.declared.package.Package.{Package}
use Rattle.uci_tree.proofs.ReadingLemmas.{one_tree}
use Rattle.uci_delta.specs.declared.delta.Delta.{Delta}
use Rattle.uci_delta.specs.Batch.{all_applied}
use Rattle.uci_staged.specs.Change.{deltas_in}
use Rattle.uci_store.specs.declared.store.Store.{Store}
use Rattle.uci_store.specs.declared.store_error.StoreError.{StoreError}
use Rattle.uci_store.specs.declared.store_error.StoreError.TheVariants.{Snap, NoPackage, Parse, Delta as NotTaken, TooLarge, NotHolder, NothingStaged, Memory}
use Rattle.uci_store.specs.Store.{names_of, files_of, staged_in, name_of, text_of}
use Rattle.uci_store.specs.Refusals.{HasFile, HasNoFile, IsSeenAt, ReadRefuses, AreChanges}
use Rattle.rpc_rules.specs.declared.rpc_error.RpcError.{RpcError}
use Rattle.rpc_rules.specs.declared.rpc_error.RpcError.TheVariants.{Status, Denied, DiskFailed, Memory as RpcMemory}
use Rattle.rpc_rules.specs.Status.{bad_argument, IsStatusOf}
use Rattle.rpc_uci.specs.Sight.{deltas_at, deltas_named, Sees}
use Rattle.rpc_uci.specs.Outcome.{SeesNamed, ComesOf}
use Rattle.rpc_uci.specs.Done.{IsStatusFor}
use Rattle.rpc_uci.specs.Refused.{store_told}

pub one_file : (store : Store) (name : List ℕ) (file other : ℕ) → HasFile store name file → HasFile store name other → other ≡ file
one_file store name file other h g = let e : ◌≡◌ {A = Option ℕ} (Some other) (Some file) = sym g ∙ h in cc

pub one_sight : (store : Store) (holder file : ℕ) (view other : Package) → IsSeenAt store holder file view → IsSeenAt store holder file other → other ≡ view
one_sight store holder file view other s t =
    t.is ∙ ap (λ (z : Package). all_applied z (deltas_in holder file (staged_in store))) (one_tree (name_of (names_of store) file) (text_of (files_of store) file) s.base t.base s.reads t.reads) ∙ sym s.is

-- ---- why a package is not seen

pub unseen : (store : Store) (holder : ℕ) (name : List ℕ) (error : StoreError) → ReadRefuses store name error → IsStatusFor (λ status. Sees store holder name (Err status)) (store_told error)
unseen store holder name NoPackage h = inl (h, refl)
unseen store holder name (Parse error) h = inr (error, h, refl)
unseen store holder name Memory h = tt
unseen store holder name (Snap error) h = absurd h
unseen store holder name (NotTaken error) h = absurd h
unseen store holder name (TooLarge bytes) h = absurd h
unseen store holder name (NotHolder other) h = absurd h
unseen store holder name NothingStaged h = absurd h

-- ---- what is staged

pub changes_named : (store : Store) (holder : ℕ) (name : List ℕ) (deltas : List Delta) → AreChanges store holder name deltas → deltas ≡ deltas_named holder store name
changes_named store holder name deltas h = h.are ∙ ap (λ (z : Option ℕ). deltas_at z holder store) (sym h.number)

pub none_named : (store : Store) (holder : ℕ) (name : List ℕ) → HasNoFile store name → [] ≡ deltas_named holder store name
none_named store holder name h = ap (λ (z : Option ℕ). deltas_at z holder store) (sym h)

-- ---- what comes of it

pub sees_named : (store : Store) (holder : ℕ) (fits : Bool) (config : Option (List ℕ)) (name : List ℕ) (seen : Result Package ℕ) → fits ≡ true → config ≡ Some name → Sees store holder name seen → SeesNamed store holder fits config seen
sees_named store holder fits config name seen f c s =
    subst (λ (t : Bool). SeesNamed store holder t config seen) (sym f) (subst (λ (z : Option (List ℕ)). SeesNamed store holder true z seen) (sym c) s)

pub sees_unfit : (store : Store) (holder : ℕ) (fits : Bool) (config : Option (List ℕ)) → fits ≡ false → SeesNamed store holder fits config (Err bad_argument)
sees_unfit store holder fits config f = subst (λ (t : Bool). SeesNamed store holder t config (Err bad_argument)) (sym f) refl

pub sees_unnamed : (store : Store) (holder : ℕ) (fits : Bool) (config : Option (List ℕ)) → fits ≡ true → config ≡ None → SeesNamed store holder fits config (Err bad_argument)
sees_unnamed store holder fits config f c =
    subst (λ (t : Bool). SeesNamed store holder t config (Err bad_argument)) (sym f) (subst (λ (z : Option (List ℕ)). SeesNamed store holder true z (Err bad_argument)) (sym c) refl)

-- of an error, as it is told
pub unseen_named : (store : Store) (holder : ℕ) (fits : Bool) (config : Option (List ℕ)) (name : List ℕ) (error : RpcError) → fits ≡ true → config ≡ Some name → IsStatusFor (λ status. Sees store holder name (Err status)) error
    → IsStatusFor (λ status. SeesNamed store holder fits config (Err status)) error
unseen_named store holder fits config name (Status status) f c s = sees_named store holder fits config name (Err status) f c s
unseen_named store holder fits config name (Denied grant) f c s = absurd s
unseen_named store holder fits config name DiskFailed f c s = absurd s
unseen_named store holder fits config name RpcMemory f c s = tt

-- what comes of what is seen, and of what is not
pub comes_of : {X : Type 0} (store : Store) (holder : ℕ) (fits : Bool) (config : Option (List ℕ)) (next : Package → Result X ℕ) (view : Package) (x : X) → SeesNamed store holder fits config (Ok view) → next view ≡ Ok x
    → ComesOf store holder fits config next (Ok x)
comes_of store holder fits config next view x s e = (Ok view, s, sym e)

pub refused_of : {X : Type 0} (store : Store) (holder : ℕ) (fits : Bool) (config : Option (List ℕ)) (next : Package → Result X ℕ) (view : Package) (error : RpcError) → SeesNamed store holder fits config (Ok view)
    → IsStatusOf (next view) error → IsStatusFor (λ status. ComesOf store holder fits config next (Err status)) error
refused_of store holder fits config next view (Status status) s e = (Ok view, s, sym e)
refused_of store holder fits config next view (Denied grant) s e = absurd e
refused_of store holder fits config next view DiskFailed s e = absurd e
refused_of store holder fits config next view RpcMemory s e = tt

pub unseen_of : {X : Type 0} (store : Store) (holder : ℕ) (fits : Bool) (config : Option (List ℕ)) (next : Package → Result X ℕ) (error : RpcError) → IsStatusFor (λ status. SeesNamed store holder fits config (Err status)) error
    → IsStatusFor (λ status. ComesOf store holder fits config next (Err status)) error
unseen_of store holder fits config next (Status status) s = (Err status, s, refl)
unseen_of store holder fits config next (Denied grant) s = absurd s
unseen_of store holder fits config next DiskFailed s = absurd s
unseen_of store holder fits config next RpcMemory s = tt

pub ruleset changes_by_name = (changes_named, none_named)

pub ruleset sight_of = (comes_of, refused_of, unseen_of)

pub ruleset seen_by_name = (sees_named, sees_unfit, sees_unnamed, unseen_named)
