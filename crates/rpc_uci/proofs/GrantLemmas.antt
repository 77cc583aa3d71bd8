-- What is known once no grant is missing.
use Rattle.std.proofs.Common.{ℕ, ◌≡◌, List, [], ◌∷◌, ◌++◌, map, Option, Some, None, Bool, true, false, nat_eq, if◌then◌else◌, refl, subst, arith}
use Rattle.std.specs.Prelude.{codes}
use Rattle.std.proofs.lemmas.Bool.Decides.{nat_tests}
use Rattle.rpc_session.specs.declared.grant.Grant.{Grant}
use Rattle.rpc_session.specs.SessionList.{SessionList}
use Rattle.rpc_rules.specs.declared.method.Method.TheVariants.{Commit, Apply, Confirm, Rollback}
use Rattle.rpc_rules.specs.Arguments.{config_in, holder_of}
use Rattle.rpc_rules.specs.Grants.{to_write, to_end, of_session, of_package, while_waiting, permitted, first_missing}
use Rattle.uci_store.specs.declared.store.Store.{Store}
use Rattle.rpc_uci.specs.Sight.{staged_names}
use Rattle.rpc_uci.specs.Call.{Call, waiting_in, missing}
use Rattle.rpc_uci.specs.Ending.{IsOwn}

-- none of the later grants is missing either
later_granted : (list : SessionList) (holder : ℕ) (waiting : Option ℕ) (now : ℕ) (grants later : List Grant) → first_missing list holder waiting now (grants ++ later) ≡ None → first_missing list holder waiting now later ≡ None
later_granted list holder waiting now [] later e = e
later_granted list holder waiting now (grant ∷ grants) later e = by (permitted list holder waiting now grant) (later_granted list holder waiting now grants later) e
  where
    by : (t : Bool) → (first_missing list holder waiting now (grants ++ later) ≡ None → first_missing list holder waiting now later ≡ None) → (if t then first_missing list holder waiting now (grants ++ later) else Some grant) ≡ None
        → first_missing list holder waiting now later ≡ None
    by true step f = step f
    by false step f = absurd (let g : ◌≡◌ {A = Option Grant} (Some grant) None = f in cc)

-- nobody has the grants to commit and to apply while an apply waits
nothing_waits : (list : SessionList) (holder : ℕ) (waiting : Option ℕ) (now : ℕ) (method : List ℕ) → ((other : ℕ) → permitted list holder (Some other) now (to_end method) ≡ false)
    → first_missing list holder waiting now (while_waiting waiting method) ≡ None → waiting ≡ None
nothing_waits list holder None now method nobody e = refl
nothing_waits list holder (Some other) now method nobody e = absurd (by (permitted list holder (Some other) now (to_end method)) (nobody other) e)
  where
    by : (t : Bool) → t ≡ false → (if t then None else Some (to_end method)) ≡ None → ⊥
    by true f g = let b : true ≡ false = f in cc
    by false f g = let b : ◌≡◌ {A = Option Grant} (Some (to_end method)) None = g in cc

pub commit_is_free : (call : Call) (store : Store) → missing Commit call store ≡ None → waiting_in store ≡ None
commit_is_free call store e =
    nothing_waits call.list (holder_of call.caller) (waiting_in store) call.now (codes "commit") (λ other. refl)
    (later_granted call.list (holder_of call.caller) (waiting_in store) call.now (of_session call.caller (of_package to_write (config_in call.args))) (while_waiting (waiting_in store) (codes "commit")) e)

pub apply_is_free : (call : Call) (store : Store) → missing Apply call store ≡ None → waiting_in store ≡ None
apply_is_free call store e =
    nothing_waits call.list (holder_of call.caller) (waiting_in store) call.now (codes "apply") (λ other. refl)
    (later_granted call.list (holder_of call.caller) (waiting_in store) call.now (of_session call.caller (map to_write (staged_names (holder_of call.caller) store))) (while_waiting (waiting_in store) (codes "apply")) e)

-- and its holder alone has those to end it
own_waits : (list : SessionList) (holder : ℕ) (waiting : Option ℕ) (now : ℕ) (method : List ℕ) → ((other : ℕ) → permitted list holder (Some other) now (to_end method) ≡ nat_eq other holder)
    → first_missing list holder waiting now (while_waiting waiting method) ≡ None → IsOwn holder waiting
own_waits list holder None now method own e = tt
own_waits list holder (Some other) now method own e = by (nat_eq other holder) refl (subst (λ (t : Bool). (if t then None else Some (to_end method)) ≡ None) (own other) e)
  where
    by : (t : Bool) → nat_eq other holder ≡ t → (if t then None else Some (to_end method)) ≡ None → other ≡ holder
    by true f g = grind (arith, nat_tests)
    by false f g = absurd (let b : ◌≡◌ {A = Option Grant} (Some (to_end method)) None = g in cc)

pub confirm_is_own : (call : Call) (store : Store) → missing Confirm call store ≡ None → IsOwn (holder_of call.caller) (waiting_in store)
confirm_is_own call store e = own_waits call.list (holder_of call.caller) (waiting_in store) call.now (codes "confirm") (λ other. refl) e

pub rollback_is_own : (call : Call) (store : Store) → missing Rollback call store ≡ None → IsOwn (holder_of call.caller) (waiting_in store)
rollback_is_own call store e = own_waits call.list (holder_of call.caller) (waiting_in store) call.now (codes "rollback") (λ other. refl) e
