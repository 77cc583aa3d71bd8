-- What a settling comes to whose asks are told behind it.
use Rattle.std.proofs.Common.{arith, ℕ, ◌≡◌, ◌≢◌, ◌≤◌, ◌+◌, List, [], ◌∷◌, ◌++◌, Option, map, refl, ap, sym, subst, ◌∙◌, append_assoc, append-nil}
use Rattle.std.specs.Prelude.{Result, Ok, Err, OnOk, OnErr, IfOk, IfErr}
use Rattle.plane_words.specs.Causes.{Rose}
use Rattle.plane_words.specs.Growth.{Grows, GrowsByFront}
use Rattle.kern_model.specs.declared.object.Call.{Call}
use Rattle.kern_model.specs.declared.kernel.Asked.{Asked}
use Rattle.kern_model.specs.ObjectOrder.{Objects}
use Rattle.kern_model.specs.Kernel.{Devices, Records}
use Rattle.kern_calls.specs.Calls.{calls}
use Rattle.kern_calls.specs.Due.{due_count}
use Rattle.net_settle.specs.Outside.{Outside}
use Rattle.net_settle.specs.Settle.{Made, SettledAlone, StopsAtCall, StopsAtLine, lines_of, done_call, failed_call}
use Rattle.net_plane.specs.declared.net_error.NetError.{NetError}
use Rattle.net_plane.specs.declared.net_error.NetError.TheVariants as error
use Rattle.net_plane.specs.Settled.{Settles}
use Rattle.net_start.specs.declared.start_error.StartError.{StartError}
use Rattle.net_start.specs.declared.start_error.StartError.TheVariants as start
use Rattle.net_start.specs.Settling.{Reached, Finished, StoppedAtCall, IsFailed, CutShort, StoppedAtLine, SettlingEnds}
use Rattle.uci_tree.specs.declared.package.Package.{Package}
use Rattle.net_start.specs.Inputs.{present_of, start_wants, start_calls, start_requests}
use Rattle.net_start.specs.Devices.{AreAdded}
use Rattle.net_start.specs.BringUp.{BringUpEnds}
use Rattle.net_start.proofs.RecordLemmas.{grows_more}

-- the outside with another output
abbrev pub with_out : Outside → Option (List ℕ) → ℕ → Outside
with_out now out faults = record now { out = out; out_faults = faults }

module _ (all left : List Call) (before now : Outside) (same : now.devices ≡ before.devices)
    (later : before.kernel_faults ≤ now.kernel_faults) where
  -- a line of a call was not written
  pub line_cut : (requests : List ℕ) → StopsAtLine all left before now → StoppedAtLine all requests before now
  line_cut requests s = record {
    cut = CutShort.at_line s.earlier s.last left s.front s.back s.line (record {
      parts = s.parts ∙ sym (append_assoc s.earlier (s.last ∷ []) left);
      done = s.done;
      asked = subst (Records before.asked now.asked)
          (sym (append-nil (map done_call (s.earlier ++ s.last ∷ [])))) s.asked;
      faults = omega arith;
      printed = s.printed;
      devices = same;
    });
    cause = s.cause;
  }

  -- all calls were made, and this was shown behind their lines
  pub done_reached : (shown : List ℕ) (out : Option (List ℕ)) (faults : ℕ)
      → SettledAlone all [] before now → Grows now.out out shown
      → Reached all all [] [] (lines_of all ++ shown) before (with_out now out faults)
  done_reached shown out faults s more =
      let every : s.settled.made ≡ all = sym (append-nil s.settled.made) ∙ sym s.settled.parts in
      record {
        parts = sym (append-nil all);
        done = let done = subst (λ m. Made m before now) every s.settled.done in
            record { held = done.held; logged = done.logged };
        asked = subst (Records before.asked now.asked) (sym (append-nil (map done_call all)))
            (subst (λ m. Records before.asked now.asked (map done_call m)) every s.asked);
        faults = omega arith;
        printed = grows_more before.out now.out out (lines_of all) shown
            (subst (λ m. Grows before.out now.out (lines_of m)) every s.settled.printed) more;
        devices = same;
      }

  -- a call failed, and this was shown behind the lines of those before it
  pub stopped_reached : (shown : List ℕ) (out : Option (List ℕ)) (faults : ℕ)
      (s : StopsAtCall all left before now) → Grows now.out out shown
      → Reached all s.settled.made (s.failed ∷ s.others) (failed_call s.failed ∷ [])
      (lines_of s.settled.made ++ shown) before (with_out now out faults)
  stopped_reached shown out faults s more =
      let rose = s.cause in
      record {
        parts = s.settled.parts ∙ ap (λ rest. s.settled.made ++ rest) s.first;
        done = record { held = s.settled.done.held; logged = s.settled.done.logged };
        asked = s.asked;
        faults = omega arith;
        printed = grows_more before.out now.out out (lines_of s.settled.made) shown
            s.settled.printed more;
        devices = same;
      }

  -- the requests were not wholly told
  pub requests_cut : {X : Type 0} (requests : List ℕ) (out : Option (List ℕ)) (faults : ℕ)
      (ended : Result X NetError) → Settles all left before now ended
      → (ended ≡ Err error.WriteFailed → ⊥) → GrowsByFront now.out out requests
      → Rose before.out_faults faults → StoppedAtLine all requests before (with_out now out faults)
  requests_cut requests out faults (Ok x) s whole g rose = record {
    cut = CutShort.at_requests all [] [] g.front g.back g.parts IsFailed.at_none
        (done_reached g.front out faults s.1 g.grows);
    cause = rose;
  }
  requests_cut requests out faults (Err error.KernelFailed) s whole g rose = record {
    cut = CutShort.at_requests s.settled.made (s.failed ∷ s.others) (failed_call s.failed ∷ [])
        g.front g.back g.parts (IsFailed.at_first s.failed s.others)
        (stopped_reached g.front out faults s g.grows);
    cause = rose;
  }
  requests_cut requests out faults (Err error.WriteFailed) s whole g rose = absurd (whole refl)
  requests_cut requests out faults (Err error.NoInterface) s whole g rose = absurd s
  requests_cut requests out faults (Err (error.Stale given current)) s whole g rose = absurd s
  requests_cut requests out faults (Err error.NoDevice) s whole g rose = absurd s
  requests_cut requests out faults (Err error.Known) s whole g rose = absurd s
  requests_cut requests out faults (Err (error.WrongPorts wanted)) s whole g rose = absurd s
  requests_cut requests out faults (Err (error.Limit number)) s whole g rose = absurd s
  requests_cut requests out faults (Err error.NoRadio) s whole g rose = absurd s
  requests_cut requests out faults (Err error.Memory) s whole g rose = absurd s

  -- a call failed, and the requests were told
  pub stopped : {X : Type 0} (requests : List ℕ) (out : Option (List ℕ)) (faults due : ℕ)
      (wanted : Objects) (ended : Result X NetError) (e : NetError) → ended ≡ Err e
      → Settles all left before now ended → (ended ≡ Err error.WriteFailed → ⊥)
      → Grows now.out out requests → left ≡ calls now.devices now.objects wanted
      → due_count now.objects wanted ≡ due
      → StoppedAtCall all requests wanted due before (with_out now out faults)
  stopped requests out faults due wanted (Err error.KernelFailed) e is s whole grows leads count = record {
    made = s.settled.made;
    failed = s.failed;
    others = s.others;
    reached = stopped_reached requests out faults s grows;
    left = sym leads ∙ s.first;
    count = count;
  }
  stopped requests out faults due wanted (Ok x) e is s whole grows leads count = absurd cc
  stopped requests out faults due wanted (Err error.WriteFailed) e is s whole grows leads count = absurd (whole refl)
  stopped requests out faults due wanted (Err error.NoInterface) e is s whole grows leads count = absurd s
  stopped requests out faults due wanted (Err (error.Stale given current)) e is s whole grows leads count = absurd s
  stopped requests out faults due wanted (Err error.NoDevice) e is s whole grows leads count = absurd s
  stopped requests out faults due wanted (Err error.Known) e is s whole grows leads count = absurd s
  stopped requests out faults due wanted (Err (error.WrongPorts ports)) e is s whole grows leads count = absurd s
  stopped requests out faults due wanted (Err (error.Limit number)) e is s whole grows leads count = absurd s
  stopped requests out faults due wanted (Err error.NoRadio) e is s whole grows leads count = absurd s
  stopped requests out faults due wanted (Err error.Memory) e is s whole grows leads count = absurd s

-- how it ends, by how the requests were told
pub told : {X : Type 0} (all : List Call) (requests : List ℕ) (wanted : Objects) (before after : Outside)
    (out : Option (List ℕ)) (faults : ℕ) (r : Result X StartError)
    → OnOk r (Grows out after.out requests) → OnErr r (GrowsByFront out after.out requests)
    → OnErr r (Rose faults after.out_faults) → IfErr r (λ e. e ≡ start.WriteFailed)
    → (Grows out after.out requests → Finished all requests wanted before after)
    → (GrowsByFront out after.out requests → Rose faults after.out_faults
    → StoppedAtLine all requests before after)
    → SettlingEnds all requests wanted before after r
told all requests wanted before after out faults (Ok x) whole part rose is done cut = done whole
told all requests wanted before after out faults (Err start.WriteFailed) whole part rose is done cut = cut part rose
told all requests wanted before after out faults (Err (start.KernelFailed due)) whole part rose is done cut = absurd cc
told all requests wanted before after out faults (Err start.Memory) whole part rose is done cut = absurd cc

pub stopped_writing : {X : Type 0} (all : List Call) (requests : List ℕ) (wanted : Objects)
    (before after : Outside) (r : Result X StartError) (e : StartError) → r ≡ Err e
    → e ≡ start.WriteFailed → StoppedAtLine all requests before after
    → SettlingEnds all requests wanted before after r
stopped_writing all requests wanted before after (Err start.WriteFailed) e is same s = s
stopped_writing all requests wanted before after (Ok x) e is same s = absurd cc
stopped_writing all requests wanted before after (Err (start.KernelFailed due)) e is same s = absurd cc
stopped_writing all requests wanted before after (Err start.Memory) e is same s = absurd cc

pub same_calls : (d e : Devices) (h k v w : Objects) → d ≡ e → h ≡ k → v ≡ w
    → calls d h v ≡ calls e k w
same_calls d e h k v w p q r i = calls (p i) (q i) (r i)

pub same_count : (h k v w : Objects) → h ≡ k → v ≡ w → due_count h v ≡ due_count k w
same_count h k v w q r i = due_count (q i) (r i)

pub ends_as : {X : Type 0} (all every : List Call) (requests lines : List ℕ) (wanted wants : Objects)
    (before after : Outside) (r : Result X StartError) → all ≡ every → requests ≡ lines → wanted ≡ wants
    → SettlingEnds all requests wanted before after r → SettlingEnds every lines wants before after r
ends_as all every requests lines wanted wants before after r p q w ends =
    subst (λ x. SettlingEnds every lines x before after r) w
    (subst (λ x. SettlingEnds every x wanted before after r) q
    (subst (λ x. SettlingEnds x requests wanted before after r) p ends))

-- the devices were added, and then it was settled
pub started : {X : Type 0} (names : List (List ℕ)) (network : Package) (before between after : Outside)
    (r : Result X StartError) → AreAdded names before between
    → SettlingEnds (start_calls network (present_of between.devices names))
    (start_requests network (present_of between.devices names))
    (start_wants network (present_of between.devices names)) between after r
    → BringUpEnds names network before after r
started names network before between after (Ok x) added ends =
    record { between = between; added = added; settled = ends }
started names network before between after (Err (start.KernelFailed due)) added ends =
    record { between = between; added = added; settled = ends }
started names network before between after (Err start.WriteFailed) added ends =
    record { between = between; added = added; settled = ends }
started names network before between after (Err start.Memory) added ends = absurd ends

-- what is told where something is Ok may be told otherwise
pub retold : {V E : Type 0} (r : Result V E) (items : V → List ℕ) (a b : List ℕ) → a ≡ b
    → IfOk r (λ v. items v ≡ a) → IfOk r (λ v. items v ≡ b)
retold (Ok v) items a b same h = h ∙ same
retold (Err e) items a b same h = tt
