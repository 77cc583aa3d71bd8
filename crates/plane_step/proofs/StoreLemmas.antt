-- A store on its disks, before and behind lines.
use Rattle.std.proofs.Common.{ℕ, ◌≡◌, ◌+◌, false, List, length, ap, sym, subst, ◌∙◌, refl, arith}
use Rattle.std.specs.Prelude.{Result, Ok}
use Rattle.plane_disk.specs.View.{View}
use Rattle.snap_disk.specs.Refusals.{IsGood}
use Rattle.snap_disk.proofs.LoadLemmas.{same_self, same_join}
use Rattle.uci_staged.specs.Kept.{AreKept, AreStagedIn, Follows}
use Rattle.uci_store.specs.declared.store.Store.{Store}
use Rattle.uci_store.specs.Store.{names_of, snap_of, staged_in, has_failed, IsStore, IsOnStaged}
use Rattle.uci_tool.specs.Answers.{IsOpen}
use Rattle.uci_tool.proofs.StageLemmas.{follows_itself}
use Rattle.plane_step.specs.declared.stop.Stop.{Stop}
use Rattle.plane_step.specs.StoreKept.{StaysOn}

-- nothing was done
pub stays_itself : {X : Type 0} (result : Result X Stop) (store : Store) (files staged : View)
    → IsOpen store files staged → StaysOn result store store files files staged staged
stays_itself result store files staged is = record {
  files = is.files;
  staged = is.staged;
  names = refl;
  same = same_self files;
  follows = follows_itself staged;
  ready = λ h. is.ready;
}

-- a store of the same staged changes on the same disk of them
pub staged_on : (old new : Store) (view : View) → IsOnStaged old view → IsStore new
    → names_of new ≡ names_of old → staged_in new ≡ staged_in old → has_failed old ≡ false
    → IsOnStaged new view
staged_on old new view on is names staged ready = record {
  is = is;
  names = on.names ∙ sym names;
  count = on.count ∙ ap (λ (ns : List (List ℕ)). length ns + 2) (sym names);
  lines = subst (AreStagedIn view.names) (sym staged) on.lines;
  kept = λ h. subst (AreKept view) (sym staged) (on.kept ready);
}

pub follows_both : (a b c : View) → Follows a b → Follows b c → Follows a c
follows_both a b c one two = record {
  names = two.names ∙ one.names;
  tells = λ files seen. let still = one.tells files seen in two.tells still.0 still.1;
  silent = λ unseen. two.silent (one.silent unseen);
  later = let first = one.later in let second = two.later in omega arith;
}

-- one call behind another
pub stays_both : {X Y : Type 0} (value : X) (result : Result Y Stop) (old mid new : Store)
    (a b c d e f : View) → StaysOn (Ok value) old mid a b d e → StaysOn result mid new b c e f
    → StaysOn result old new a c d f
stays_both value result old mid new a b c d e f one two = record {
  files = two.files;
  staged = two.staged;
  names = two.names ∙ one.names;
  same = same_join a b c one.same two.same;
  follows = follows_both d e f one.follows two.follows;
  ready = two.ready;
}

-- the same, whatever was answered that is not a failed disk
pub stays_as : {X Y : Type 0} (value : X) (result : Result Y Stop) (old new : Store)
    (a b c d : View) → StaysOn (Ok value) old new a b c d → StaysOn result old new a b c d
stays_as value result old new a b c d stays = record {
  files = stays.files;
  staged = stays.staged;
  names = stays.names;
  same = stays.same;
  follows = stays.follows;
  ready = λ h. stays.ready (λ e. cc e);
}

-- behind a call that was done the store is open
pub still_open : {X : Type 0} (value : X) (old new : Store) (a b c d : View)
    → StaysOn {X = X} (Ok value) old new a b c d → IsOpen new b d
still_open value old new a b c d stays =
    record { files = stays.files; staged = stays.staged; ready = stays.ready (λ e. cc e) }

pub still_good : (store : Store) (files staged : View) → IsOpen store files staged
    → IsGood (snap_of store)
still_good store files staged is = is.files.ready is.ready
