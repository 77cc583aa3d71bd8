-- How runs of calls go on, and join.
use Rattle.std.proofs.Common.{◌∙◌, Result, Ok, Err, OnOk, OnErr, ◌≡◌, ◌⊎◌, inl, inr, ⊎_elim, Option, Some, None, IfSome, subst, refl, arith}
use Rattle.plane_disk.specs.Files.{Files}
use Rattle.plane_disk.specs.View.{View, IsSound, Elapses, MayStep, AddsNone, SeenSteps, Stays}
use Rattle.snap_disk.specs.Images.{LeavesOnly}

-- every image since old has P, and so has every image now
pub record Run (old new : View) (P : Files → Type 0) : Type 0 where
  pub leaves : LeavesOnly old new P
  pub now : (c : Files) → new.is_image c → P c

-- before the first call
pub started : (old : View) (P : Files → Type 0) → IsSound old → ((c : Files) → old.is_image c → P c) → Run old old P
started old P sound here = record {
  leaves = record { later = omega arith; each = λ c left. here c (sound.now_alone c left); before = λ t c le left. inl left };
  now = here;
}

-- one call more, after which a crash leaves what has P
pub goes_on : (old mid new : View) (P : Files → Type 0) → Run old mid P → Elapses mid new → ((c : Files) → new.is_image c → P c) → Run old new P
goes_on old mid new P run time here = record {
  leaves = record {
    later = omega (arith, run.leaves.later, time.later);
    each = λ c left. ⊎_elim (run.leaves.each c) (here c) (time.adds old.moment c run.leaves.later left);
    before = λ t c le left. ⊎_elim (run.leaves.before t c le) (λ now. inr (here c now)) (time.adds t c (omega (arith, le, run.leaves.later)) left);
  };
  now = here;
}

-- one step more, which P outlives
pub steps_on : (old mid new : View) (P : Files → Type 0) (step : Files → Files → Type 0) → Run old mid P → Elapses mid new → MayStep step mid new
    → ((d c : Files) → P d → step d c → P c) → Run old new P
steps_on old mid new P step run time crash outlives =
    goes_on old mid new P run time (λ c now. ⊎_elim (run.now c) (λ from. outlives from.0 c (run.now from.0 from.1) from.2) (crash c now))

-- one sync more
pub syncs_on : (old mid new : View) (P : Files → Type 0) → Run old mid P → Elapses mid new → AddsNone mid new → Run old new P
syncs_on old mid new P run time crash = goes_on old mid new P run time (λ c now. run.now c (crash c now))

-- two runs, one behind the other
pub joins : (old mid new : View) (P Q R : Files → Type 0) → LeavesOnly old mid P → LeavesOnly mid new Q → ((c : Files) → P c → R c) → ((c : Files) → Q c → R c) → LeavesOnly old new R
joins old mid new P Q R first second p q = record {
  later = omega (arith, first.later, second.later);
  each = λ c left. ⊎_elim (λ was. p c (first.each c was)) (q c) (second.before old.moment c first.later left);
  before = λ t c le left. ⊎_elim (λ was. ⊎_elim (λ l. inl l) (λ h. inr (p c h)) (first.before t c le was)) (λ h. inr (q c h)) (second.before t c (omega (arith, le, first.later)) left);
}

pub widens : (old new : View) (P R : Files → Type 0) → LeavesOnly old new P → ((c : Files) → P c → R c) → LeavesOnly old new R
widens old new P R run p = record { later = run.later; each = λ c left. p c (run.each c left); before = λ t c le left. ⊎_elim (λ l. inl l) (λ h. inr (p c h)) (run.before t c le left) }

-- a call that says only of which images from before its own come
pub calls_on : (old mid new : View) (P : Files → Type 0) (step : Files → Files → Type 0) → Run old mid P → LeavesOnly mid new (λ c. (d : Files) × mid.is_image d × step d c) → IsSound new
    → ((d c : Files) → P d → step d c → P c) → Run old new P
calls_on old mid new P step run call sound outlives =
    let now : (c : Files) → ((d : Files) × mid.is_image d × step d c) → P c = λ c from. outlives from.0 c (run.now from.0 from.1) from.2 in
    record {
      leaves = joins old mid new P (λ c. (d : Files) × mid.is_image d × step d c) P run.leaves call (λ c h. h) now;
      now = λ c left. now c (call.each c (sound.wider mid.moment new.moment c call.later (sound.now_counts c left)));
    }

-- what is told of a disk that tells
pub told : {A : Type 0} (P : A → Type 0) (o : Option A) (x : A) → IfSome o P → o ≡ Some x → P x
told P o x h e = subst (λ (q : Option _). IfSome q P) e h

pub if_told : {A : Type 0} (P : A → Type 0) (o : Option A) → ((x : A) → o ≡ Some x → P x) → IfSome o P
if_told P None h = tt
if_told P (Some x) h = h x refl

pub tells : {A : Type 0} (o : Option A) → (o ≡ None) ⊎ ((x : A) × (o ≡ Some x))
tells None = inl refl
tells (Some x) = inr (x, refl)

-- a disk that told its files still tells them
abbrev pub StillTells : Option Files → Option Files → Type 0
StillTells old new = (files : Files) → old ≡ Some files → (now : Files) × (new ≡ Some now)

pub tells_step : (step : Files → Files → Type 0) (old new : Option Files) → SeenSteps step old new → StillTells old new
tells_step step old new steps files seen = let w : (now : Files) × (new ≡ Some now) × step files now = subst (λ (o : Option Files). SeenSteps step o new) seen steps in (w.0, w.1)

pub tells_join : (old mid new : Option Files) → StillTells old mid → StillTells mid new → StillTells old new
tells_join old mid new a b files seen = let w = a files seen in b w.0 w.1

pub tells_same : (old new : Option Files) → new ≡ old → StillTells old new
tells_same old new same files seen = (files, same ∙ seen)

-- a sync leaves what a read gives
pub tells_sync : {T E : Type 0} (old new : View) (r : Result T E) → OnOk r (new.seen ≡ old.seen) → OnErr r (Stays old new) → StillTells old.seen new.seen
tells_sync old new (Ok v) ok err = tells_same old.seen new.seen ok
tells_sync old new (Err e) ok err = tells_same old.seen new.seen err.seen
