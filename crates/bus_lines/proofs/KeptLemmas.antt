-- A store on its disks, before and behind calls.
use Rattle.std.proofs.Common.{arith, ℕ, ◌≡◌, ◌≤◌, inl, inr, List, refl, ap, sym, subst, ◌∙◌}
use Rattle.std.specs.Prelude.{Result, Ok, Err}
use Rattle.plane_words.specs.Causes.{Rose}
use Rattle.plane_disk.specs.Files.{Files}
use Rattle.plane_disk.specs.View.{View}
use Rattle.snap_disk.specs.Images.{SameDisk}
use Rattle.snap_disk.specs.Refusals.{IsGood}
use Rattle.snap_disk.proofs.Moments.{joins, widens}
use Rattle.snap_disk.proofs.LoadLemmas.{same_self, same_join}
use Rattle.uci_staged.specs.Kept.{Follows}
use Rattle.uci_store.specs.declared.store.Store.{Store}
use Rattle.uci_store.specs.Store.{snap_of}
use Rattle.uci_tool.specs.Answers.{IsOpen}
use Rattle.uci_tool.specs.Folder.{Folder}
use Rattle.uci_tool.proofs.StageLemmas.{follows_itself}
use Rattle.rpc_objects.specs.declared.uci_answer.CallStop.{CallStop}
use Rattle.rpc_objects.specs.declared.uci_answer.CallStop.TheVariants as stop
use Rattle.rpc_objects.specs.Kept.{StaysOn, DiskRose}
use Rattle.rpc_objects.specs.Passed.{OpensIn, StopsIn, StaysOrStopsIn}

-- nothing was done
pub stays_itself : {X : Type 0} (result : Result X CallStop) (store : Store) (files staged : View)
    → IsOpen store files staged → StaysOn result store store files files staged staged
stays_itself result store files staged is = record {
  files = is.files;
  staged = is.staged;
  names = refl;
  same = same_self files;
  follows = follows_itself staged;
  ready = λ h. is.ready;
}

follows_both : (a b c : View) → Follows a b → Follows b c → Follows a c
follows_both a b c one two = record {
  names = two.names ∙ one.names;
  tells = λ files seen. let still = one.tells files seen in two.tells still.0 still.1;
  silent = λ unseen. two.silent (one.silent unseen);
  later = let first = one.later in let second = two.later in omega arith;
}

-- one call behind another
pub stays_both : {X Y : Type 0} (value : X) (result : Result Y CallStop) (old mid new : Store)
    (a b c d e f : View) → StaysOn (Ok value) old mid a b d e → StaysOn result mid new b c e f
    → StaysOn result old new a c d f
stays_both value result old mid new a b c d e f one two = record {
  files = two.files;
  staged = two.staged;
  names = two.names ∙ one.names;
  same = same_join a b c one.same two.same;
  follows = follows_both d e f one.follows two.follows;
  ready = two.ready;
}

-- the same, whatever was answered that is not a failed disk
pub stays_as : {X Y : Type 0} (value : X) (result : Result Y CallStop) (old new : Store)
    (a b c d : View) → StaysOn (Ok value) old new a b c d → StaysOn result old new a b c d
stays_as value result old new a b c d stays = record {
  files = stays.files;
  staged = stays.staged;
  names = stays.names;
  same = stays.same;
  follows = stays.follows;
  ready = λ h. stays.ready (λ e. cc e);
}

-- the same stop of another call
pub stays_stopped : {X Y : Type 0} (why : CallStop) (old new : Store) (a b c d : View)
    → StaysOn {X = X} (Err why) old new a b c d → StaysOn {X = Y} (Err why) old new a b c d
stays_stopped why old new a b c d stays = record {
  files = stays.files;
  staged = stays.staged;
  names = stays.names;
  same = stays.same;
  follows = stays.follows;
  ready = λ h. stays.ready (λ e. let same : why ≡ stop.DiskFailed = cc e in h (ap (λ (w : CallStop). Err w) same));
}

-- behind a call that was done the store is open
pub still_open : {X : Type 0} (value : X) (old new : Store) (a b c d : View)
    → StaysOn {X = X} (Ok value) old new a b c d → IsOpen new b d
still_open value old new a b c d stays =
    record { files = stays.files; staged = stays.staged; ready = stays.ready (λ e. cc e) }

-- a disk that failed in a call failed since an earlier moment
rose_after : (a b c : ℕ) → a ≤ b → Rose b c → Rose a c
rose_after a b c first rose = omega (arith, first, rose)

pub disk_rose : (f s a b c d : ℕ) → f ≤ a → s ≤ c
    → DiskRose (record { files = a; files_now = b; staged = c; staged_now = d })
    → DiskRose (record { files = f; files_now = b; staged = s; staged_now = d })
disk_rose f s a b c d files staged (inl rose) = inl (rose_after f a b files rose)
disk_rose f s a b c d files staged (inr rose) = inr (rose_after s c d staged rose)

-- ---- images

-- each folder of the first kind is one of the second
abbrev pub AreAlso : (Folder → Type 0) → (Folder → Type 0) → Type 0
AreAlso Few Many = (folder : Folder) → Few folder → Many folder

opens_more : (names : List (List ℕ)) (Few Many : Folder → Type 0) (image : Files) → AreAlso Few Many
    → OpensIn names Few image → OpensIn names Many image
opens_more names Few Many image also opens =
    record { folder = opens.folder; passed = also opens.folder opens.passed; opens = opens.opens }

stops_more : (store : Store) (old new : View) (Few Many : Folder → Type 0) → AreAlso Few Many
    → StopsIn store old new Few → StopsIn store old new Many
stops_more store old new Few Many also stops good files seen =
    widens old new (OpensIn old.names Few) (OpensIn old.names Many) (stops good files seen)
    (λ image opens. opens_more old.names Few Many image also opens)

pub images_more : {D : Type 0} (view : D → View) (store : Store) (old new : D)
    (Few Many : Folder → Type 0) → AreAlso Few Many → StaysOrStopsIn store view old new Few
    → StaysOrStopsIn store view old new Many
images_more view store old new Few Many also (inl e) = inl e
images_more view store old new Few Many also (inr stops) =
    inr (stops_more store (view old) (view new) Few Many also stops)

stops_join : (store mid : Store) (a b c : View) (First Second All : Folder → Type 0) → SameDisk a b
    → IsGood (snap_of mid) → AreAlso First All → AreAlso Second All → StopsIn store a b First
    → StopsIn mid b c Second → StopsIn store a c All
stops_join store mid a b c First Second All same good front behind one two ready files seen =
    let still = same.tells files seen in
    joins a b c (OpensIn a.names First) (OpensIn b.names Second) (OpensIn a.names All)
    (one ready files seen) (two good still.0 still.1)
    (λ image opens. opens_more a.names First All image front opens)
    (λ image opens. opens_more a.names Second All image behind
    (subst (λ (z : List (List ℕ)). OpensIn z Second image) same.names opens))

-- a call from a store on the same disk
stops_from : (store mid : Store) (a c : View) (Second All : Folder → Type 0) → IsGood (snap_of mid)
    → AreAlso Second All → StopsIn mid a c Second → StopsIn store a c All
stops_from store mid a c Second All good behind two ready files seen =
    stops_more mid a c Second All behind two good files seen

-- one call behind another
pub images_join : {D : Type 0} (view : D → View) (store mid : Store) (a b c : D)
    (First Second All : Folder → Type 0) → SameDisk (view a) (view b) → IsGood (snap_of mid)
    → AreAlso First All → AreAlso Second All → StaysOrStopsIn store view a b First
    → StaysOrStopsIn mid view b c Second → StaysOrStopsIn store view a c All
images_join view store mid a b c First Second All same good front behind (inl e) (inl f) = inl (f ∙ e)
images_join {D} view store mid a b c First Second All same good front behind (inl e) (inr two) =
    inr (stops_from store mid (view a) (view c) Second All good behind
    (subst (λ (z : D). StopsIn mid (view z) (view c) Second) e two))
images_join {D} view store mid a b c First Second All same good front behind (inr one) (inl f) =
    inr (subst (λ (z : D). StopsIn store (view a) (view z) All) (sym f)
    (stops_more store (view a) (view b) First All front one))
images_join view store mid a b c First Second All same good front behind (inr one) (inr two) =
    inr (stops_join store mid (view a) (view b) (view c) First Second All same good front behind one two)
