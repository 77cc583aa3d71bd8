-- Packages that are loaded.
use Rattle.std.proofs.Common.{ℕ, ◌≡◌, inl, List, [], Option, Some, None, refl, sym, subst}
use Rattle.std.specs.Prelude.{Result, Ok, Err, IfOk, IfSome, IsSomeAnd}
use Rattle.uci_tree.specs.declared.fault.Fault.{Fault}
use Rattle.uci_tree.specs.declared.package.Package.{Package}
use Rattle.uci_tree.specs.declared.tree_error.TreeError.{TreeError}
use Rattle.uci_tree.specs.Fault.{fault_of}
use Rattle.uci_store.specs.declared.store.Store.{Store}
use Rattle.uci_store.specs.Refusals.{IsCommitted, HasNoFile, DoesNotRead}
use Rattle.uci_tool.specs.Folder.{Folder, folder_of}
use Rattle.net_plane.specs.Network.{Network}
use Rattle.script_lines.specs.declared.line_error.LineError.TheVariants as error
use Rattle.step_net.specs.declared.taken.Taken.{Taken}
use Rattle.step_net.specs.NetLine.{refused as refuses}
use Rattle.step_net.specs.Taken.{refused_as}
use Rattle.step_net.specs.Loaded.{no_package, IsLoaded, DoesNotLoad, LoadRefuses}
use Rattle.step_net.specs.Reload.{ReloadAsks}
use Rattle.step_net.specs.ReloadTaken.{TakesOneEvent, RefusesUnread}
use Rattle.step_net.proofs.EventLemmas.{refused_noted}

pub loaded : (store : Store) (name : List ℕ) (tree : Package) → IsCommitted store name tree
    → IsLoaded (folder_of store) name tree
loaded store name tree c = IsLoaded.read c.file tree c.number c.reads

pub absent : (store : Store) (name : List ℕ) (tree : Package) → tree ≡ no_package
    → HasNoFile store name → IsLoaded (folder_of store) name tree
absent store name tree is none =
    subst (IsLoaded (folder_of store) name) (sym is) (IsLoaded.absent none)

unread_by : (store : Store) (name : List ℕ) (e : TreeError) (o : Option Fault) → fault_of e ≡ o
    → DoesNotRead store name e → IfSome o (DoesNotLoad (folder_of store) name)
unread_by store name e None is d = tt
unread_by store name e (Some fault) is d =
    record { file = d.file; number = d.number; error = e; refused = d.fault; is = is }

pub unread : (store : Store) (name : List ℕ) (e : TreeError) → DoesNotRead store name e
    → LoadRefuses (folder_of store) name e
unread store name e d = unread_by store name e (fault_of e) refl d

-- a file that is no package refuses a reload
unread_told : {M : Type 0} (folder : Folder) (why : TreeError) (before : Network)
    (result : Result Taken M) (o : Option Fault) → fault_of why ≡ o
    → ((fault : Fault) → fault_of why ≡ Some fault → ReloadAsks folder (refuses error.Parse))
    → before.notices ≡ [] → IfOk result (λ taken. IsSomeAnd o (λ fault. taken ≡ refused_as error.Parse))
    → TakesOneEvent (ReloadAsks folder) before before result
unread_told folder why before (Ok taken) None is requests silent tells = absurd tells
unread_told folder why before (Ok taken) (Some fault) is requests silent tells = (
  refuses error.Parse,
  requests fault is,
  record { is = refused_noted before before error.Parse taken refl silent tells; none = refl },
)
unread_told folder why before (Err lacks) o is requests silent tells = inl refl

ok_alone : {M : Type 0} (why : TreeError) (result : Result Taken M) → RefusesUnread why result
    → IfOk result (λ taken. IsSomeAnd (fault_of why) (λ fault. taken ≡ refused_as error.Parse))
ok_alone why (Ok answer) tells = tells
ok_alone why (Err lacks) tells = tt

pub takes_unread : {M : Type 0} (folder : Folder) (why : TreeError) (before : Network)
    (result : Result Taken M)
    → ((fault : Fault) → fault_of why ≡ Some fault → ReloadAsks folder (refuses error.Parse))
    → before.notices ≡ [] → RefusesUnread why result
    → TakesOneEvent (ReloadAsks folder) before before result
takes_unread folder why before result requests silent tells =
    unread_told folder why before result (fault_of why) refl requests silent (ok_alone why result tells)

-- what is known of a fault
pub of_fault : (folder : Folder) (name : List ℕ) (why : TreeError) (fault : Fault)
    → fault_of why ≡ Some fault → LoadRefuses folder name why → DoesNotLoad folder name fault
of_fault folder name why fault is refuses = subst (λ o. IfSome o (DoesNotLoad folder name)) is refuses
