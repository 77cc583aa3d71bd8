-- What opening a disk finds and leaves.
use Rattle.std.proofs.Common.{false, ◌≡◌, inl, inr, ⊎_elim, ℕ, zero, suc, ◌+◌, ◌-◌, ◌≤◌, ◌<◌, List, [], ◌∷◌, ◌++◌, length, take, drop, get_or, Option, Some, None, Result, Ok, Err, OnOk, refl, sym, ◌∙◌, ap, subst, arith, length-drop}
use Rattle.std.proofs.lemmas.Bool.Decides.{nat_tests}
use Rattle.std.proofs.lemmas.List.{take_more, get_or-drop, get_or_default}
use Rattle.plane_words.specs.Causes.{Rose}
use Rattle.plane_disk.specs.Files.{Files, bytes_of}
use Rattle.plane_disk.specs.View.{View, IsSound, Elapses, AddsNone}
use Rattle.snap_disk.specs.Images.{IsOn, LeavesOnly, SameDisk}
use Rattle.snap_disk.specs.Body.{most_bytes}
use Rattle.snap_disk.specs.Opened.{State, Found, put, IsWithin, OpensAs, opened, durable, settled}
use Rattle.snap_disk.specs.Phase.{Layout, files_of, Phase, IsWaiting, IsRestoring, over, Restores, Undoes}
use Rattle.snap_disk.specs.Open.{IsOpenOn, Shows, WaitsAs, KeepsFiles}
use Rattle.snap_disk.specs.Opening.{Quiet, OpensFrom, FromImage, OpensGiving, SettlesAs, LoadRefuses}
use Rattle.snap_disk.specs.declared.new_file.NewFile.{NewFile}
use Rattle.snap_disk.specs.declared.kept.Kept.{Kept}
use Rattle.snap_disk.specs.declared.snap.Snap.{Snap}
use Rattle.snap_disk.specs.declared.snap_error.SnapError.{SnapError}
use Rattle.snap_disk.specs.declared.snap_error.SnapError.TheVariants.{DiskFailed, Waiting, NothingWaits, BadSnapshot, Reopen, Limit, Memory}
use Rattle.snap_disk.proofs.Moments.{tells_same, tells_join, started, syncs_on, joins, widens, tells, told}
use Rattle.snap_disk.proofs.OpeningLemmas.{waiting_opens, restoring_opens}
use Rattle.snap_disk.proofs.ObjectLemmas.{open_on}

-- ---- calls that only read

pub quiet_join : (old mid new : View) → Quiet old mid → Quiet mid new → Quiet old new
quiet_join old mid new a b = record {
  names = b.names ∙ a.names;
  seen = b.seen ∙ a.seen;
  images = joins old mid new old.is_image mid.is_image old.is_image a.images b.images (λ c left. left) a.crash;
  crash = λ c left. a.crash c (b.crash c left);
  later = omega (arith, a.later, b.later);
}

pub quiet_call : (old new : View) → IsSound old → Elapses old new → AddsNone old new → new.seen ≡ old.seen → old.faults ≤ new.faults → Quiet old new
quiet_call old new sound time crash seen later = record {
  names = time.names;
  seen = seen;
  images = (syncs_on old old new old.is_image (started old old.is_image sound (λ c left. left)) time crash).leaves;
  crash = crash;
  later = later;
}

rose_later : (a b c : ℕ) → a ≤ b → Rose b c → Rose a c
rose_later a b c le rose = omega (arith, le, rose)

pub load_later : (old mid new : View) (error : SnapError) → Quiet old mid → LoadRefuses mid new error → LoadRefuses old new error
load_later old mid new DiskFailed quiet h = rose_later _ _ _ quiet.later h
load_later old mid new (Waiting deadline) quiet h = h
load_later old mid new NothingWaits quiet h = h
load_later old mid new (BadSnapshot place) quiet h = h
load_later old mid new Reopen quiet h = h
load_later old mid new (Limit number) quiet h = λ files seen. h files (quiet.seen ∙ seen)
load_later old mid new Memory quiet h = h

-- ---- the packages

-- one package more
pub package_read : (packages pushed : Files) (bytes : List ℕ) (file : ℕ) (files : Files) → pushed ≡ packages ++ bytes ∷ [] → file ≡ length packages + 2 → file < length files → packages ≡ take (file - 2) (drop 2 files) → bytes
    ≡ bytes_of files file
    → pushed ≡ take (file + 1 - 2) (drop 2 files)
package_read packages pushed bytes file files pushes long within so_far is =
    let i = file - 2 in
    let e : file + 1 - 2 ≡ file - 2 + 1 = omega (arith, long) in
    let back : 2 + (file - 2) ≡ file = omega (arith, long) in
    let dropped = length-drop 2 files in
    let inside : file - 2 < length (drop 2 files) = omega (arith, dropped, within, long) in
    let here : bytes ≡ get_or (drop 2 files) (file - 2) bytes = is ∙ ap (bytes_of files) (sym back) ∙ sym (get_or-drop 2 files (file - 2) []) ∙ sym (get_or_default (drop 2 files) (file - 2) bytes [] inside) in
    pushes ∙ ap (λ (l : Files). l ++ bytes ∷ []) so_far ∙ sym (ap (λ (k : ℕ). take k (drop 2 files)) e ∙ take_more (drop 2 files) (file - 2) bytes inside ∙ ap (λ (b : List ℕ). take (file - 2) (drop 2 files) ++ b ∷ []) (sym here))

pub small_push : (packages pushed : Files) (bytes : List ℕ) → pushed ≡ packages ++ bytes ∷ [] → ((k : ℕ) → length (bytes_of packages k) ≤ most_bytes) → length bytes ≤ most_bytes → (k : ℕ) → length (bytes_of pushed k) ≤ most_bytes
small_push packages pushed bytes pushes small little k = subst (λ (l : Files). length (bytes_of l k) ≤ most_bytes) (sym pushes) (by packages k small)
  where
    by : (l : Files) (j : ℕ) → ((i : ℕ) → length (bytes_of l i) ≤ most_bytes) → length (bytes_of (l ++ bytes ∷ []) j) ≤ most_bytes
    by [] zero h = little
    by [] (suc j) h = omega arith
    by (x ∷ l) zero h = h zero
    by (x ∷ l) (suc j) h = by l j (λ i. h (suc i))

-- what is read is the layout
pub layout_read : (view : View) → IsSound view → 2 ≤ length view.names → (files : Files) → view.seen ≡ Some files → (gate second : ℕ) (body : List ℕ) (packages : Files) → bytes_of files 0 ≡ gate ∷ second ∷ [] → body ≡ bytes_of files 1
    → packages ≡ drop 2 files
    → files ≡ (gate ∷ second ∷ []) ∷ body ∷ packages
layout_read view sound some files seen gate second body packages gates b ps = by files (told (λ f. length f ≡ length view.names) view.seen files sound.counted seen) gates b ps
  where
    by : (f : Files) → length f ≡ length view.names → bytes_of f 0 ≡ gate ∷ second ∷ [] → body ≡ bytes_of f 1 → packages ≡ drop 2 f → f ≡ (gate ∷ second ∷ []) ∷ body ∷ packages
    by [] n g e p = absurd (omega (arith, n, some))
    by (x ∷ []) n g e p = absurd (omega (arith, n, some))
    by (x ∷ y ∷ f) n g e p = λ i. g i ∷ sym e i ∷ sym p i

-- ---- acting on the gates

pub opens_same : (snap : Snap) (view : View) (l : Layout) → length view.names ≡ length snap.packages.items + 2 → IsWithin snap.packages.items → KeepsFiles (length view.names) snap.kept
    → ((files : Files) → view.seen ≡ Some files → IsOn view (files_of l)) → Shows view.names snap l → IsOpenOn snap view
opens_same snap view l count within kept on shows = open_on snap view count within kept (λ ready f seen. (l, on f seen, shows))

pub opens_held : (snap held : Snap) (view : View) → held ≡ snap → IsOpenOn snap view × (snap.failed ≡ false) → IsOpenOn held view × (held.failed ≡ false)
opens_held snap held view same on = subst (λ (s : Snap). IsOpenOn s view × (s.failed ≡ false)) (sym same) on

pub opens_after : {R E : Type 0} (snap : Snap) (old new : View) (l : Layout) (r : R) (may : Layout → Files → Type 0) (done : Layout → Layout) → Phase {T = R} {E = E} old new (Ok r) may done
    → length old.names ≡ length snap.packages.items + 2 → IsWithin snap.packages.items → snap.kept ≡ None → ((files : Files) → old.seen ≡ Some files → IsOn old (files_of l)) → Shows old.names snap (done l) → IsOpenOn snap new
opens_after snap old new l r may done phase count within none on shows =
    open_on snap new (ap length phase.names ∙ count) within (subst (KeepsFiles (length new.names)) (sym none) tt) (λ ready f seen. elim (tells old.seen) [
      | inl silent ↦ absurd (cc (seen, phase.silent silent))
      | inr was ↦ (done l, phase.ends l (on was.0 was.1), subst (λ (n : List (List ℕ)). Shows n snap (done l)) (sym phase.names) shows)
    ])

pub rested_shows : (names : List (List ℕ)) (after : Snap) (files seen : List NewFile) (ps : Files) (m : Layout) → m.gate ≡ 0 → m.packages ≡ put seen ps → seen ≡ files → after.packages.items ≡ put files ps → after.kept ≡ None
    → Shows names after m
rested_shows names after files seen ps m shut puts same is none = record {
  packages = puts ∙ ap (λ (f : List NewFile). put f ps) same ∙ sym is;
  waits = subst (λ (k : Option Kept). WaitsAs names k m) (sym none) (omega (arith, shut));
}

pub from_same : (names : List (List ℕ)) (now : ℕ) (c d : Files) → c ≡ d → OpensFrom names now c d
from_same names now c d same = record { from = λ m le. ap (λ (f : Files). opened names f m) same; within = λ w. subst (λ (f : Files). IsWithin (drop 2 f)) (sym same) w }

-- an image that opens as a state, from a moment on
from_state : (names : List (List ℕ)) (now : ℕ) (s : State) (c other : Files) → ((m : ℕ) → now ≤ m → Ok (durable s m) ≡ opened names other m) → OpensAs names s c → OpensFrom names now c other
from_state names now s c other same opens = record { from = λ m le. opens.at m ∙ same m le; within = λ w. opens.within }

-- behind the deadline an apply that waits opens as one that is rolled back
pub overdue : (names : List (List ℕ)) (now : ℕ) (kept : Kept) (l : Layout) → IsWaiting names kept l → IsWithin l.packages → kept.pending.deadline ≤ now → (m : ℕ) → now ≤ m → opened names (files_of l) m
    ≡ Ok (durable (settled (put kept.files l.packages)) m)
overdue names now kept l is within over_now m le = (waiting_opens names kept l is within).at m ∙ ap (λ (f : Found). Ok f) late
  where
    late : durable (over l.packages kept) m ≡ durable (settled (put kept.files l.packages)) m
    late = grind (arith, nat_tests)

pub restored_images : {T E : Type 0} (now : ℕ) (kept : Kept) (seen : List NewFile) (l : Layout) (old new : View) (r : Result T E) (done : Layout → Layout) → Phase old new r (Restores old.names seen) done → seen ≡ kept.files
    → ((files : Files) → old.seen ≡ Some files → IsOn old (files_of l)) → IsRestoring old.names kept l → IsWithin l.packages → (files : Files) → old.seen ≡ Some files → LeavesOnly old new (λ c. OpensFrom old.names now c (files_of l))
restored_images now kept seen l old new r done phase same on is within f told_seen =
    widens old new (Restores old.names seen l) (λ c. OpensFrom old.names now c (files_of l)) (phase.images l (on f told_seen))
    (λ c restores. from_state old.names now (settled (put seen l.packages)) c (files_of l)
    (λ m le. sym ((restoring_opens old.names kept l is within).at m ∙ ap (λ (n : List NewFile). Ok (durable (settled (put n l.packages)) m)) (sym same))) (restores kept is (sym same) within))

pub undone_images : {T E : Type 0} (now : ℕ) (kept : Kept) (seen : List NewFile) (l : Layout) (old new : View) (r : Result T E) (done : Layout → Layout) → Phase old new r (Undoes old.names seen) done → seen ≡ kept.files
    → ((files : Files) → old.seen ≡ Some files → IsOn old (files_of l)) → IsWaiting old.names kept l → IsWithin l.packages → kept.pending.deadline ≤ now → (files : Files) → old.seen ≡ Some files
    → LeavesOnly old new (λ c. OpensFrom old.names now c (files_of l))
undone_images now kept seen l old new r done phase same on is within over_now f told_seen =
    widens old new (Undoes old.names seen l) (λ c. OpensFrom old.names now c (files_of l)) (phase.images l (on f told_seen)) (λ c undoes. ⊎_elim
    (from_state old.names now (over l.packages kept) c (files_of l) (λ m le. sym ((waiting_opens old.names kept l is within).at m)))
    (from_state old.names now (settled (put seen l.packages)) c (files_of l)
    (λ m le. sym (overdue old.names now kept l is within over_now m le ∙ ap (λ (n : List NewFile). Ok (durable (settled (put n l.packages)) m)) (sym same))))
    (undoes kept is (sym same) within))

-- ---- the whole

-- reading alone leaves what there was
pub quiet_images : (now : ℕ) (old new : View) → Quiet old new → LeavesOnly old new (FromImage now old)
quiet_images now old new quiet = widens old new old.is_image (FromImage now old) quiet.images (λ c left. (c, left, from_same old.names now c c refl))

-- reading, and then acting on what was read
pub opened_images : (now : ℕ) (old behind new : View) (f was : Files) → IsSound old → Quiet old behind → old.seen ≡ Some f → f ≡ was → LeavesOnly behind new (λ c. OpensFrom behind.names now c was) → LeavesOnly old new (FromImage now old)
opened_images now old behind new f was sound quiet seen same acts =
    let image : old.is_image f = told old.is_image old.seen f sound.reads_image seen in
    joins old behind new old.is_image (λ c. OpensFrom behind.names now c was) (FromImage now old) quiet.images acts
    (λ c left. (c, left, from_same old.names now c c refl))
    (λ c opens. (f, image, subst (λ (n : List (List ℕ)). OpensFrom n now c f) quiet.names (subst (λ (d : Files). OpensFrom behind.names now c d) (sym same) opens)))

-- after an opening every image gives what the disk as it read gives
pub opened_after : (now : ℕ) (state : State) (names : List (List ℕ)) (f was image : Files) → f ≡ was → SettlesAs names was now state → OpensAs names state image → OpensFrom names now image f
opened_after now state names f was image same settles opens =
    subst (λ (d : Files). OpensFrom names now image d) (sym same) (from_state names now state image was (λ m le. sym (settles.later m le)) opens)

pub opened_giving : (names : List (List ℕ)) (f was : Files) (now : ℕ) (state : State) → f ≡ was → IsWithin (drop 2 was) → SettlesAs names was now state → OpensGiving names f now state
opened_giving names f was now state same within settles = subst (λ (d : Files). OpensGiving names d now state) (sym same) (record { within = within; gives = settles.gives; later = settles.later })

-- an image now is one of those since a moment
pub image_since : (old new : View) (P : Files → Type 0) → LeavesOnly old new P → IsSound new → (c : Files) → new.is_image c → P c
image_since old new P run sound c left = run.each c (sound.wider old.moment new.moment c run.later (sound.now_counts c left))

pub after_since : (now : ℕ) (names : List (List ℕ)) (behind new : View) (f was : Files) → behind.names ≡ names → f ≡ was → LeavesOnly behind new (λ c. OpensFrom behind.names now c was) → IsSound new → (c : Files) → new.is_image c
    → OpensFrom names now c f
after_since now names behind new f was named same acts sound c left =
    subst (λ (n : List (List ℕ)). OpensFrom n now c f) named (subst (λ (d : Files). OpensFrom behind.names now c d) (sym same) (image_since behind new (λ i. OpensFrom behind.names now i was) acts sound c left))

pub on_ok : {T E : Type 0} (r : Result T E) (X : Type 0) → X → OnOk r X
on_ok (Ok v) X x = x
on_ok (Err e) X x = tt

-- ---- the same disk

pub same_self : (view : View) → SameDisk view view
same_self view = record { names = refl; tells = λ files seen. (files, seen); silent = λ none. none; later = omega arith }

pub same_phase : {T E : Type 0} (old new : View) (r : Result T E) (may : Layout → Files → Type 0) (done : Layout → Layout) → Phase old new r may done → old.faults ≤ new.faults → SameDisk old new
same_phase old new r may done phase later = record { names = phase.names; tells = phase.tells; silent = phase.silent; later = later }

pub same_call : (old new : View) → Elapses old new → new.seen ≡ old.seen → old.faults ≤ new.faults → SameDisk old new
same_call old new time seen later = record { names = time.names; tells = tells_same old.seen new.seen seen; silent = time.silent; later = later }

pub same_quiet : (old new : View) → Quiet old new → SameDisk old new
same_quiet old new quiet = record { names = quiet.names; tells = tells_same old.seen new.seen quiet.seen; silent = λ none. quiet.seen ∙ none; later = quiet.later }

pub same_join : (old mid new : View) → SameDisk old mid → SameDisk mid new → SameDisk old new
same_join old mid new a b = record { names = b.names ∙ a.names; tells = tells_join old.seen mid.seen new.seen a.tells b.tells; silent = λ none. b.silent (a.silent none); later = omega (arith, a.later, b.later) }
