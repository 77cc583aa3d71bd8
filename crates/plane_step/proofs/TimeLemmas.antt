-- The moment of a script.
use Rattle.std.proofs.Common.{arith, ℕ, ◌≡◌, ◌<◌, ◌≤◌, ◌⊎◌, [], ◌∷◌, Bool, true, false, cond, inl, inr, refl, ap, sym, subst, ◌∙◌}
use Rattle.std.specs.Prelude.{Result, Ok, Err, IfOk, nat_lt}
use Rattle.std.proofs.lemmas.Bool.Decides.{Decides-ltb}
use Rattle.plane_words.specs.Causes.{Rose}
use Rattle.plane_disk.specs.View.{View}
use Rattle.snap_disk.specs.Open.{is_due, ticked}
use Rattle.snap_disk.specs.declared.snap_error.SnapError.TheVariants as snap_error
use Rattle.uci_store.specs.declared.store.Store.{Store}
use Rattle.uci_store.specs.declared.store_error.StoreError.{StoreError}
use Rattle.uci_store.specs.declared.store_error.StoreError.TheVariants as store_error
use Rattle.uci_store.specs.Store.{names_of, files_of, staged_in, has_failed}
use Rattle.uci_store.specs.Stops.{StopLeaves}
use Rattle.uci_store.specs.Waiting.{TicksTo, TickRefuses}
use Rattle.uci_tool.specs.Folder.{Folder, folder_of}
use Rattle.uci_tool.specs.Stops.{StaysOrStops, StopsAmong}
use Rattle.uci_tool.proofs.CommitLemmas.{same_all}
use Rattle.uci_tool.proofs.StageLemmas.{never_both}
use Rattle.uci_tool.proofs.StopLemmas.{step_stops}
use Rattle.net_plane.specs.Network.{Network}
use Rattle.script_lines.specs.declared.line_error.LineError.TheVariants as error
use Rattle.step_net.specs.declared.told.Told.{Told}
use Rattle.step_net.specs.NetLine.{NetLine, refused as refuses, nothing}
use Rattle.step_net.specs.Taken.{telling_in}
use Rattle.step_net.specs.Told.{refused, shown}
use Rattle.plane_step.specs.declared.stop.Stop.TheVariants as stop
use Rattle.plane_step.specs.FilesMoved.{FilesMoved, stays, folder_at, at_moved}
use Rattle.plane_step.specs.Means.{AtAsks}
use Rattle.step_net.specs.Reload.{ReloadAsks}
use Rattle.plane_step.specs.LineDone.{Front, ground_at, GoesTo}
use Rattle.step_net.specs.ReloadTaken.{TakesOne, IsHaltedAlone}

-- what a moment moves that is not before the last
abbrev pub moves_on : Folder → ℕ → FilesMoved
moves_on folder next = record {
  now = next;
  passes = folder ∷ folder_at folder next ∷ [];
  after = folder_at folder next;
}

false_of_not : (b : Bool) → (b ≡ true → ⊥) → b ≡ false
false_of_not true h = absurd (h refl)
false_of_not false h = refl

not_before : (next now : ℕ) → now ≤ next → nat_lt next now ≡ false
not_before next now h = false_of_not (nat_lt next now) (λ is. let lt = (Decides-ltb next now).0 is in omega arith)

pub past_moved : (now : ℕ) (folder : Folder) (next : ℕ) → next < now
    → at_moved now folder next ≡ stays now folder
past_moved now folder next past =
    ap (λ (b : Bool). cond b (stays now folder) (moves_on folder next)) ((Decides-ltb next now).1 past)

pub later_moved : (now : ℕ) (folder : Folder) (next : ℕ) → now ≤ next
    → at_moved now folder next ≡ moves_on folder next
later_moved now folder next later =
    ap (λ (b : Bool). cond b (stays now folder) (moves_on folder next)) (not_before next now later)

-- the folder behind a tick
pub folder_ticked : (old new : Store) (next : ℕ) → names_of new ≡ names_of old
    → files_of new ≡ ticked (files_of old) next → staged_in new ≡ staged_in old
    → folder_of new ≡ folder_at (folder_of old) next
folder_ticked old new next names files staged =
    same_all old new (ticked (files_of old) next) (staged_in old) names files staged

-- what a stop within a tick leaves
pub tick_stops : (store : Store) (next : ℕ) (old new : View)
    → StopLeaves store old new (TicksTo store next)
    → StopsAmong store old new (moves_on (folder_of store) next).passes
tick_stops store next old new images =
    step_stops store (TicksTo store next) (Ok (folder_at (folder_of store) next)) old new
    (λ after to. (folder_at (folder_of store) next, refl, to.files)) images

pub tick_images : {D : Type 0} (view : D → View) (store : Store) (now next : ℕ) (old new : D)
    → now ≤ next → StopLeaves store (view old) (view new) (TicksTo store next)
    → StaysOrStops store view old new (at_moved now (folder_of store) next).passes
tick_images view store now next old new later images =
    subst (λ (m : FilesMoved). StaysOrStops store view old new m.passes)
    (sym (later_moved now (folder_of store) next later))
    (inr (tick_stops store next (view old) (view new) images))

-- a tick of a store that has not failed is refused where the disk failed, and only there
pub tick_failed : (store : Store) (next : ℕ) (old new : View) (e : StoreError)
    → has_failed store ≡ false → TickRefuses store next old new e → Rose old.faults new.faults
tick_failed store next old new (store_error.Snap snap_error.DiskFailed) ready h = h.2
tick_failed store next old new (store_error.Snap snap_error.Reopen) ready h =
    absurd (never_both (has_failed store) ready h)
tick_failed store next old new (store_error.Snap (snap_error.Waiting deadline)) ready h = absurd h
tick_failed store next old new (store_error.Snap snap_error.NothingWaits) ready h = absurd h
tick_failed store next old new (store_error.Snap (snap_error.BadSnapshot byte)) ready h = absurd h
tick_failed store next old new (store_error.Snap (snap_error.Limit number)) ready h = absurd h
tick_failed store next old new (store_error.Snap snap_error.Memory) ready h = absurd h
tick_failed store next old new store_error.NoPackage ready h = absurd h
tick_failed store next old new (store_error.Parse why) ready h = absurd h
tick_failed store next old new (store_error.Delta why) ready h = absurd h
tick_failed store next old new (store_error.TooLarge bytes) ready h = absurd h
tick_failed store next old new (store_error.NotHolder holder) ready h = absurd h
tick_failed store next old new store_error.NothingStaged ready h = absurd h
tick_failed store next old new store_error.Memory ready h = absurd h

-- a moment before the last
pub goes_nowhere : {M : Type 0} (next : ℕ) (front : Front) (faults : ℕ) (told : Result Told M)
    → next < front.now → front.net.notices ≡ []
    → IfOk told (λ t. telling_in t ≡ refused error.Moment)
    → ((t : Told) → told ≡ Ok t → GoesTo next front front.now front.store front.net faults faults (Ok t))
    × GoesTo next front front.now front.store front.net faults faults (Err stop.Memory)
goes_nowhere {M} next front faults told past silent tells =
    let moved = past_moved front.now (folder_of front.store) next past in (
      λ t is. record {
        act = refuses error.Moment;
        requests = AtAsks.past past;
        taken = record {
          is = record {
            net = refl;
            telling = subst (λ (r : Result Told M). IfOk r (λ t. telling_in t ≡ refused error.Moment)) is tells;
            silent = silent;
          };
          none = refl;
        };
        moment = sym (ap (λ (m : FilesMoved). m.now) moved);
        files = sym (ap (λ (m : FilesMoved). m.after) moved);
      },
      record { net = inl refl; files = inl (sym (ap (λ (m : FilesMoved). m.after) moved)) },
    )

-- a moment at which nothing is undone
pub goes_on : (next : ℕ) (front : Front) (store : Store) (faults faults_now : ℕ) (told : Told)
    → front.now ≤ next → is_due (files_of front.store).waits next ≡ false
    → folder_of store ≡ folder_at (folder_of front.store) next → front.net.notices ≡ []
    → telling_in told ≡ shown []
    → GoesTo next front next store front.net faults faults_now (Ok told)
goes_on next front store faults faults_now told later rests folder silent tells =
    let moved = later_moved front.now (folder_of front.store) next later in
    record {
      act = nothing;
      requests = AtAsks.rests later rests;
      taken = record { is = record { net = refl; telling = tells; silent = silent }; none = refl };
      moment = sym (ap (λ (m : FilesMoved). m.now) moved);
      files = folder ∙ sym (ap (λ (m : FilesMoved). m.after) moved);
    }

-- a moment at which an apply is undone, and the files are loaded
pub goes_back : {M : Type 0} (next : ℕ) (front : Front) (store : Store) (net : Network)
    (faults faults_now : ℕ) (result : Result Told M) → front.now ≤ next
    → is_due (files_of front.store).waits next ≡ true
    → folder_of store ≡ folder_at (folder_of front.store) next
    → TakesOne (ReloadAsks (folder_of store)) front.net net result
    → ((t : Told) → result ≡ Ok t → GoesTo next front next store net faults faults_now (Ok t))
    × ((lacks : M) → result ≡ Err lacks
    → GoesTo next front next store net faults faults_now (Err stop.Memory))
goes_back {M} next front store net faults faults_now result later due folder takes =
    let moved = later_moved front.now (folder_of front.store) next later in
    let files = folder ∙ sym (ap (λ (m : FilesMoved). m.after) moved) in
    let requests : (act : NetLine) → ReloadAsks (folder_of store) act → AtAsks (ground_at front) next act =
    λ act h. AtAsks.undone later due act (subst (λ (f : Folder). ReloadAsks f act) folder h) in (
      λ t is.
          let one = subst (λ (r : Result Told M). TakesOne (ReloadAsks (folder_of store)) front.net net r) is takes in
          record {
            act = one.0;
            requests = requests one.0 one.1;
            taken = one.2;
            moment = sym (ap (λ (m : FilesMoved). m.now) moved);
            files = files;
          },
      λ lacks is. record {
        net = elim (subst (λ (r : Result Told M). TakesOne (ReloadAsks (folder_of store)) front.net net r) is takes)
            as (λ _. (net ≡ front.net) ⊎ ((act : NetLine) × AtAsks (ground_at front) next act × IsHaltedAlone act front.net net)) [
              | inl same ↦ inl same
              | inr h ↦ inr (h.0, requests h.0 h.1, h.2)
            ];
        files = inl files;
      },
    )
