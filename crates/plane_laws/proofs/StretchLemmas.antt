-- A stretch of planes, settled at its end, is a stretch of moments with the calls that were left.
use Rattle.std.proofs.Common.{◌≡◌, ℕ, List, [], ◌++◌, Contains, ap, sym, subst, append-nil}
use Rattle.std.proofs.lemmas.List.Elements.{Contains-append_left, Contains-append_right}
use Rattle.kern_model.specs.declared.object.Call.{Call}
use Rattle.kern_model.specs.ObjectOrder.{Objects, set_of}
use Rattle.kern_model.specs.CallOrder.{AreCalls}
use Rattle.kern_calls.proofs.CallsLemmas.{are_the_calls}
use Rattle.net_rules.specs.Moment.{Moment, devices_of, want_of, footprint_named, IsStretch}
use Rattle.net_plane.specs.Network.{Network, moment_of, calls_of}
use Rattle.net_plane.specs.Settled.{HasMade}
use Rattle.net_plane.specs.History.{HasTold}
use Rattle.net_plane.proofs.MomentLemmas.{same_moment, comes}
use Rattle.plane_laws.specs.Stretch.{StaysUntil}

-- made of the planes between, all calls that were left at the end among them
pub record Settles (name : List ℕ) (some : Objects) (now before : Network) : Type 0 where
  pub calls : List Call
  pub stretch : IsStretch name some (moment_of before) calls
  pub last : (call : Call) → Contains (calls_of now) call → Contains calls call

module _ (name : List ℕ) (some : Objects) (now : Network) where
  -- all calls that are left are made
  at_the_end : Settles name some now now
  at_the_end = record {
    calls = calls_of now ++ [];
    stretch = IsStretch.settled (moment_of now) (calls_of now) [] []
        (subst (AreCalls (devices_of now.inputs) (set_of now.held) (want_of now.inputs))
        (sym (append-nil (calls_of now)))
        (are_the_calls (devices_of now.inputs) (set_of now.held) (want_of now.inputs)))
        (IsStretch.ended _);
    last = λ call member. Contains-append_left (calls_of now) [] call member;
  }

  after_settling : (before next : Network) (made : List Call) → HasMade made before next
      → Settles name some now next → Settles name some now before
  after_settling before next made has s = record {
    calls = made ++ s.calls;
    stretch = IsStretch.settled (moment_of before) made (calls_of next) s.calls
        (subst (AreCalls (devices_of before.inputs) (set_of before.held) (want_of before.inputs)) has.parts
        (are_the_calls (devices_of before.inputs) (set_of before.held) (want_of before.inputs)))
        (subst (λ m. IsStretch name some m s.calls) (same_moment has.inputs has.held) s.stretch);
    last = λ call member. Contains-append_right made s.calls call (s.last call member);
  }

  after_telling : (before next : Network) → HasTold before next → Settles name some now next
      → Settles name some now before
  after_telling before next told s = record {
    calls = s.calls;
    stretch = subst (λ m. IsStretch name some m s.calls) (same_moment told.inputs (ap set_of told.held)) s.stretch;
    last = s.last;
  }

  pub settles : (before : Network) → StaysUntil name some now before → Settles name some now before
  settles _ StaysUntil.ended = at_the_end
  settles before (StaysUntil.took _ next event is same leaves stays) =
      let s = settles next stays in
      record {
        calls = s.calls;
        stretch = IsStretch.came (moment_of before) event s.calls (comes (moment_of before) event is.rows is.free)
            (subst (λ (m : Moment). footprint_named m.inputs name ≡ some) is.moment same) leaves
            (subst (λ m. IsStretch name some m s.calls) is.moment s.stretch);
        last = s.last;
      }
  settles before (StaysUntil.settled _ next made has stays) =
      after_settling before next made has (settles next stays)
  settles before (StaysUntil.told _ next told stays) =
      after_telling before next told (settles next stays)
