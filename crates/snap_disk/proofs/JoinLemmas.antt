-- How phases join.
use Rattle.std.proofs.Common.{inl, inr, Result, Ok, OnOk, ◌∙◌}
use Rattle.plane_disk.specs.Files.{Files}
use Rattle.plane_disk.specs.View.{View}
use Rattle.snap_disk.specs.Phase.{Phase, Layout, IsLaid}
use Rattle.snap_disk.proofs.Moments.{joins, widens, tells, tells_join}

-- a function that ends with the failure of its first phase
pub stops : {T E S F : Type 0} (old mid : View) (r : Result T E) (result : Result S F) (first may : Layout → Files → Type 0) (done last : Layout → Layout)
    → Phase old mid r first done → ((l : Layout) (c : Files) → first l c → may l c) → ((X : Type 0) → OnOk result X) → Phase old mid result may last
stops old mid r result first may done last phase p failed = record {
  names = phase.names;
  silent = phase.silent;
  tells = phase.tells;
  images = λ l on. widens old mid (first l) (may l) (phase.images l on) (p l);
  ends = λ l on. failed _;
}

-- with the failure of a phase behind one that was done
pub stops_after : {R T E S F : Type 0} (old mid new : View) (r : R) (t : Result T E) (result : Result S F) (first second may : Layout → Files → Type 0) (done next last : Layout → Layout)
    → Phase {T = R} {E = E} old mid (Ok r) first done → Phase mid new t second next
    → ((l : Layout) (c : Files) → first l c → may l c) → ((l : Layout) (c : Files) → second (done l) c → may l c) → ((X : Type 0) → OnOk result X) → Phase old new result may last
stops_after old mid new r t result first second may done next last a b p q failed = record {
  names = b.names ∙ a.names;
  silent = λ none. b.silent (a.silent none);
  tells = tells_join old.seen mid.seen new.seen a.tells b.tells;
  images = λ l on. joins old mid new (first l) (second (done l)) (may l) (a.images l on) (b.images (done l) (a.ends l on)) (p l) (q l);
  ends = λ l on. failed _;
}

-- with both done
pub ends_behind : {R T S E F : Type 0} (old mid new : View) (r : R) (t : T) (s : S) (first second may : Layout → Files → Type 0) (done next : Layout → Layout)
    → Phase {T = R} {E = E} old mid (Ok r) first done → Phase {T = T} {E = E} mid new (Ok t) second next
    → ((l : Layout) (c : Files) → first l c → may l c) → ((l : Layout) (c : Files) → second (done l) c → may l c) → Phase {T = S} {E = F} old new (Ok s) may (λ l. next (done l))
ends_behind old mid new r t s first second may done next a b p q = record {
  names = b.names ∙ a.names;
  silent = λ none. b.silent (a.silent none);
  tells = tells_join old.seen mid.seen new.seen a.tells b.tells;
  images = λ l on. joins old mid new (first l) (second (done l)) (may l) (a.images l on) (b.images (done l) (a.ends l on)) (p l) (q l);
  ends = λ l on. b.ends (done l) (a.ends l on);
}

-- after a phase that was done the disk is laid out again
pub laid_behind : {R E : Type 0} (old mid : View) (r : R) (may : Layout → Files → Type 0) (done : Layout → Layout) → Phase {T = R} {E = E} old mid (Ok r) may done → IsLaid old → IsLaid mid
laid_behind old mid r may done phase laid = λ f seen. elim (tells old.seen) [
  | inl none ↦ absurd (cc (seen, phase.silent none))
  | inr was ↦ let l = laid was.0 was.1 in (done l.0, phase.ends l.0 l.1)
]
