-- What a phase makes of an object and its disk.
use Rattle.std.proofs.Common.{◌≡◌, inl, inr, ℕ, ◌+◌, List, length, false, Option, Some, None, Result, Ok, refl, sym, ◌∙◌, ap, subst, arith}
use Rattle.std.proofs.lemmas.Bool.{cases_eq}
use Rattle.plane_disk.specs.Files.{Files}
use Rattle.plane_disk.specs.View.{View}
use Rattle.snap_disk.specs.Images.{IsOn}
use Rattle.snap_disk.specs.Body.{read_body}
use Rattle.snap_disk.specs.BodyText.{body_text}
use Rattle.snap_disk.specs.Opened.{State, put, IsWithin, OpensAs, OpensAsEither, settled, pending_over}
use Rattle.snap_disk.specs.Phase.{Layout, files_of, Phase, AnyGate, IsWaiting, IsReady, GivesBack, ArePackageFiles, over, Undoes, Applies, Commits}
use Rattle.snap_disk.specs.Open.{IsOpenOn, ImagesSince, Shows, WaitsAs, KeepsFiles, IsStaged, HoldsBody, old_files, state_of, waits_of, begun, before, rolled_back, confirmed}
use Rattle.snap_disk.specs.declared.new_file.NewFile.{NewFile}
use Rattle.snap_disk.specs.declared.new_file.Pending.{Pending}
use Rattle.snap_disk.specs.declared.kept.Kept.{Kept}
use Rattle.snap_disk.specs.declared.snap.Snap.{Snap}
use Rattle.snap_disk.proofs.Moments.{widens, tells}
use Rattle.snap_disk.proofs.PutLemmas.{put_beside, within_beside, length-put}
use Rattle.snap_disk.proofs.OpeningLemmas.{shut_opens, waiting_opens, opens_by}

-- a layout that shows an object opens as its state
shows_opens : (names : List (List ℕ)) (packages : Files) (kept : Option Kept) (l : Layout) → l.packages ≡ packages → WaitsAs names kept l → IsWithin packages
    → OpensAs names (record { packages = packages; waits = waits_of kept packages }) (files_of l)
shows_opens names packages None l same waits within = subst (λ (t : Files). OpensAs names (settled t) (files_of l)) same (shut_opens names l waits (subst IsWithin (sym same) within))
shows_opens names packages (Some kept) l same waits within = subst (λ (t : Files). OpensAs names (over t kept) (files_of l)) same (waiting_opens names kept l waits (subst IsWithin (sym same) within))

pub open_on : (snap : Snap) (view : View) → length view.names ≡ length snap.packages.items + 2 → IsWithin snap.packages.items → KeepsFiles (length view.names) snap.kept
    → (snap.failed ≡ false → (files : Files) → view.seen ≡ Some files → (l : Layout) × IsOn view (files_of l) × Shows view.names snap l) → IsOpenOn snap view
open_on snap view count within kept shows = record {
  count = count;
  within = within;
  kept = kept;
  shows = shows;
  durable = λ ready f seen c left.
      let w = shows ready f seen in
      opens_by view.names (state_of snap) c (files_of w.0) (w.1.only c left) (shows_opens view.names snap.packages.items snap.kept w.0 w.2.packages w.2.waits within);
}

-- after a phase that was done
pub opens_after : {R E : Type 0} (snap after : Snap) (old new : View) (r : R) (may : Layout → Files → Type 0) (done : Layout → Layout) → Phase {T = R} {E = E} old new (Ok r) may done
    → IsOpenOn snap old → snap.failed ≡ false → length after.packages.items ≡ length snap.packages.items → IsWithin after.packages.items → KeepsFiles (length old.names) after.kept
    → ((l : Layout) → Shows old.names snap l → Shows old.names after (done l)) → IsOpenOn after new
opens_after snap after old new r may done phase is_open ready count within kept step =
    let same : length new.names ≡ length old.names = ap length phase.names in
    open_on after new (omega (arith, same, is_open.count, count)) within (subst (λ (n : ℕ). KeepsFiles n after.kept) (sym same) kept) (λ _ f seen. elim (tells old.seen) [
      | inl none ↦ absurd (cc (seen, phase.silent none))
      | inr was ↦ let w = is_open.shows ready was.0 was.1 in (done w.0, phase.ends w.0 w.1, subst (λ (n : List (List ℕ)). Shows n after (done w.0)) (sym phase.names) (step w.0 w.2))
    ])

pub images_of_phase : {T E : Type 0} (snap : Snap) (old new : View) (r : Result T E) (may : Layout → Files → Type 0) (done : Layout → Layout) (P : Files → Type 0) → Phase old new r may done
    → IsOpenOn snap old → ((l : Layout) (c : Files) → Shows old.names snap l → may l c → P c) → ImagesSince snap old new P
images_of_phase snap old new r may done P phase is_open step ready f seen =
    let w = is_open.shows ready f seen in
    widens old new (may w.0) P (phase.images w.0 w.1) (λ c m. step w.0 c w.2 m)

-- a body and files that were read from where they are kept
pub staged_seen : (names : List (List ℕ)) (snap : Snap) (kept : Kept) (text seen_text : List ℕ) (new seen_new : List NewFile) → seen_text ≡ text → seen_new ≡ new → IsStaged names text new snap kept
    → IsStaged names seen_text seen_new snap kept
staged_seen names snap kept text seen_text new seen_new t n staged = subst (λ (x : List ℕ). IsStaged names x seen_new snap kept) (sym t) (subst (λ (x : List NewFile). IsStaged names text x snap kept) (sym n) staged)

is_ready : (names : List (List ℕ)) (snap : Snap) (kept : Kept) (text : List ℕ) (new : List NewFile) → snap.kept ≡ None → IsWithin snap.packages.items → IsStaged names text new snap kept → (l : Layout) → Shows names snap l
    → IsReady names text new kept l
is_ready names snap kept text new none within staged l shows = record {
  gate = subst (λ (k : Option Kept). WaitsAs names k l) none shows.waits;
  reads = staged.reads;
  back = subst (GivesBack kept.files new) (sym shows.packages) staged.back;
  within = subst IsWithin (sym shows.packages) within;
}

-- the images of a begin
pub commit_images : (names : List (List ℕ)) (snap : Snap) (kept : Kept) (text : List ℕ) (new seen : List NewFile) → seen ≡ new → snap.kept ≡ None → IsWithin snap.packages.items → IsStaged names text seen snap kept
    → (l : Layout) (c : Files) → Shows names snap l → Commits names text seen l c → OpensAsEither names (state_of snap) (begun (state_of snap) new None) c
commit_images names snap kept text new seen same none within staged l c shows commits =
    let ps = snap.packages.items in
    let here = subst (λ (t : Files). OpensAsEither names (settled t) (settled (put seen t)) c) shows.packages (commits kept (is_ready names snap kept text seen none within staged l shows)) in
    let there = subst (λ (n : List NewFile). OpensAsEither names (settled ps) (settled (put n ps)) c) same here in
    subst (λ (k : Option Kept). OpensAsEither names (record { packages = ps; waits = waits_of k ps }) (settled (put new ps)) c) (sym none) there

pub apply_images : (names : List (List ℕ)) (snap : Snap) (kept : Kept) (pending : Pending) (text : List ℕ) (new seen : List NewFile) → seen ≡ new → kept.pending ≡ pending → snap.kept ≡ None → IsWithin snap.packages.items
    → IsStaged names text seen snap kept → (l : Layout) (c : Files) → Shows names snap l → Applies names text seen l c → OpensAsEither names (state_of snap) (begun (state_of snap) new (Some pending)) c
apply_images names snap kept pending text new seen same until none within staged l c shows applies =
    let ps = snap.packages.items in
    let here = subst (λ (t : Files). OpensAsEither names (settled t) (pending_over (put seen t) kept.pending t) c) shows.packages (applies kept (is_ready names snap kept text seen none within staged l shows)) in
    let there = subst (λ (n : List NewFile). OpensAsEither names (settled ps) (pending_over (put n ps) kept.pending ps) c) same here in
    let then = subst (λ (p : Pending). OpensAsEither names (settled ps) (pending_over (put new ps) p ps) c) until there in
    subst (λ (k : Option Kept). OpensAsEither names (record { packages = ps; waits = waits_of k ps }) (pending_over (put new ps) pending ps) c) (sym none) then

-- what a begin leaves
pub put_within : (count : ℕ) (new : List NewFile) (ps qs : Files) → ArePackageFiles count new → IsWithin ps → qs ≡ put new ps → IsWithin qs
put_within count new ps qs are within is = subst IsWithin (sym is) (within_beside new ps (put new ps) within (put_beside count new ps are))

pub put_long : (new : List NewFile) (ps qs : Files) → qs ≡ put new ps → length qs ≡ length ps
put_long new ps qs is = ap length is ∙ length-put new ps

pub applied_state : (count : ℕ) (new : List NewFile) (kept : Kept) (pending : Pending) (ps qs : Files) → ArePackageFiles count new → GivesBack kept.files new ps → kept.pending ≡ pending → qs ≡ put new ps
    → record { packages = qs; waits = waits_of (Some kept) qs } ≡ pending_over (put new ps) pending ps
applied_state count new kept pending ps qs are back until is =
    let old : put kept.files qs ≡ ps = ap (put kept.files) is ∙ back (put new ps) (put_beside count new ps are) in
    λ i. record { packages = is i; waits = Some (record { pending = until i; before = old i }) }

pub apply_shows : (names : List (List ℕ)) (snap after : Snap) (kept : Kept) (text : List ℕ) (new seen : List NewFile) → seen ≡ new → after.packages.items ≡ put new snap.packages.items → after.kept ≡ Some kept → read_body names text
    ≡ Ok kept
    → (l : Layout) → Shows names snap l → Shows names after (record { gate = 79; second_gate = 79; body = text; packages = put seen l.packages })
apply_shows names snap after kept text new seen same is some reads l shows = record {
  packages = (λ i. put (same i) (shows.packages i)) ∙ sym is;
  waits = subst (λ (k : Option Kept). WaitsAs names k (record { gate = 79; second_gate = 79; body = text; packages = put seen l.packages })) (sym some) (record { gate = refl; second_gate = refl; body = reads });
}

pub commit_shows : (names : List (List ℕ)) (snap after : Snap) (text : List ℕ) (new seen : List NewFile) → seen ≡ new → after.packages.items ≡ put new snap.packages.items → after.kept ≡ None
    → (l : Layout) → Shows names snap l → Shows names after (record { gate = 0; second_gate = 0; body = text; packages = put seen l.packages })
commit_shows names snap after text new seen same is none l shows = record {
  packages = (λ i. put (same i) (shows.packages i)) ∙ sym is;
  waits = subst (λ (k : Option Kept). WaitsAs names k (record { gate = 0; second_gate = 0; body = text; packages = put seen l.packages })) (sym none) (omega arith);
}

-- a rollback
waiting_shown : (names : List (List ℕ)) (snap : Snap) (kept : Kept) (l : Layout) → snap.kept ≡ Some kept → Shows names snap l → IsWaiting names kept l
waiting_shown names snap kept l some shows = subst (λ (k : Option Kept). WaitsAs names k l) some shows.waits

pub undo_images : (names : List (List ℕ)) (snap : Snap) (kept : Kept) (seen : List NewFile) → snap.kept ≡ Some kept → seen ≡ kept.files → IsWithin snap.packages.items
    → (l : Layout) (c : Files) → Shows names snap l → Undoes names seen l c → OpensAsEither names (state_of snap) (rolled_back (state_of snap)) c
undo_images names snap kept seen some same within l c shows undoes =
    let ps = snap.packages.items in
    let here = subst (λ (t : Files). OpensAsEither names (over t kept) (settled (put seen t)) c) shows.packages (undoes kept (waiting_shown names snap kept l some shows) (sym same) (subst IsWithin (sym shows.packages) within)) in
    let there = subst (λ (n : List NewFile). OpensAsEither names (over ps kept) (settled (put n ps)) c) same here in
    subst (λ (k : Option Kept). OpensAsEither names (record { packages = ps; waits = waits_of k ps }) (settled (before (waits_of k ps) ps)) c) (sym some) there

pub undo_shows : (names : List (List ℕ)) (snap after : Snap) (kept : Kept) (seen : List NewFile) → seen ≡ kept.files → after.packages.items ≡ put kept.files snap.packages.items → after.kept ≡ None
    → (l : Layout) → Shows names snap l → Shows names after (record l { gate = 0; second_gate = 0; packages = put seen l.packages })
undo_shows names snap after kept seen same is none l shows = record {
  packages = (λ i. put (same i) (shows.packages i)) ∙ sym is;
  waits = subst (λ (k : Option Kept). WaitsAs names k (record l { gate = 0; second_gate = 0; packages = put seen l.packages })) (sym none) (omega arith);
}

pub rolled_packages : (snap after : Snap) (kept : Kept) → snap.kept ≡ Some kept → state_of after ≡ rolled_back (state_of snap) → after.packages.items ≡ put kept.files snap.packages.items
rolled_packages snap after kept some is = ap (λ (s : State). s.packages) is ∙ ap (λ (k : Option Kept). before (waits_of k snap.packages.items) snap.packages.items) some

-- a confirm
pub confirm_images : (names : List (List ℕ)) (snap : Snap) (kept : Kept) → snap.kept ≡ Some kept → IsWithin snap.packages.items → (l : Layout) (c : Files) → Shows names snap l → AnyGate l c
    → OpensAsEither names (state_of snap) (confirmed (state_of snap)) c
confirm_images names snap kept some within l c shows any =
    let is = waiting_shown names snap kept l some shows in
    let ps = snap.packages.items in
    let l' : Layout = record l { gate = any.0 } in
    let within' = subst IsWithin (sym shows.packages) within in
    elim (cases_eq any.0 79) [
      | inl open_there ↦
          let here = opens_by names _ c (files_of l') any.1 (waiting_opens names kept l' (record { gate = open_there; second_gate = is.second_gate; body = is.body }) within') in
          let there = subst (λ (t : Files). OpensAs names (over t kept) c) shows.packages here in
          inl (subst (λ (k : Option Kept). OpensAs names (record { packages = ps; waits = waits_of k ps }) c) (sym some) there)
      | inr shut ↦ inr (subst (λ (t : Files). OpensAs names (settled t) c) shows.packages (opens_by names _ c (files_of l') any.1 (shut_opens names l' shut within')))
    ]

pub confirm_shows : (names : List (List ℕ)) (snap after : Snap) → after.packages.items ≡ snap.packages.items → after.kept ≡ None → (l : Layout) → Shows names snap l → Shows names after (record l { gate = 0 })
confirm_shows names snap after is none l shows = record {
  packages = shows.packages ∙ sym is;
  waits = subst (λ (k : Option Kept). WaitsAs names k (record l { gate = 0 })) (sym none) (omega arith);
}

-- the body that a phase leaves
pub holds_body : {R E : Type 0} (snap : Snap) (old new : View) (r : R) (may : Layout → Files → Type 0) (done : Layout → Layout) (text wanted : List ℕ) → Phase {T = R} {E = E} old new (Ok r) may done → IsOpenOn snap old → snap.failed ≡ false
    → ((l : Layout) → (done l).body ≡ text) → text ≡ wanted → HoldsBody old new wanted
holds_body snap old new r may done text wanted phase is_open ready left is f seen =
    let w = is_open.shows ready f seen in
    (files_of (done w.0), (phase.ends w.0 w.1).seen, left w.0 ∙ is)

pub body_same : (names : List (List ℕ)) (kept : Kept) (pending : Pending) (new seen : List NewFile) (ps : Files) → kept.pending ≡ pending → kept.files ≡ old_files seen 2 ps → seen ≡ new
    → body_text names 2 kept ≡ body_text names 2 (record { pending = pending; files = old_files new 2 ps })
body_same names kept pending new seen ps until files same = λ i. body_text names 2 (record { pending = until i; files = (files ∙ (λ j. old_files (same j) 2 ps)) i })
