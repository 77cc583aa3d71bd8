-- What a piece brings.
use Rattle.std.proofs.Common.{ℕ, ◌≡◌, ◌≢◌, List, [], Option, Some, get_or, slice_set, refl, sym, ap, subst, ◌∙◌}
use Rattle.std.specs.Prelude.{Result, Ok, Err, IfOk, position}
use Rattle.ubus_frames.specs.declared.frame.Frame.{Frame}
use Rattle.ubus_frames.specs.declared.frame_error.FrameError.{FrameError}
use Rattle.ubus_frames.specs.declared.frame_error.FrameError.TheVariants.{Memory as FrameMemory}
use Rattle.ubus_frames.specs.Stream.{Stream, Feeds, Refuses}
use Rattle.bus_clients.specs.declared.clients.Fed.{Fed}
use Rattle.bus_clients.specs.Clients.{ScriptClient, has_key}
use Rattle.bus_clients.specs.Fed.{Brings, IsFaultIn, IsTaken, IsFed, HasFed}
use Rattle.bus_clients.proofs.ClientLemmas.{first_at}

brought : {A : Type 0} (piece : List ℕ) (old mid : Stream) (fed : Result A FrameError) (fault : Option FrameError) → IsFaultIn fed fault
    → IfOk fed (λ _. Feeds piece old mid)
    → ((error : FrameError) → fed ≡ Err error → error ≢ FrameMemory → Refuses piece old mid error)
    → Brings piece old mid fault
brought piece old mid (Ok x) fault is ok refused = subst (Brings piece old mid) (sym is) ok
brought piece old mid (Err error) fault is ok refused = subst (Brings piece old mid) (sym is.0) (refused error refl is.1)

parts : (mid : Stream) (frames : List Frame) (rest : List ℕ) → frames ≡ mid.frames → rest ≡ mid.rest → mid ≡ record { frames = frames; rest = rest }
parts mid frames rest p q i = record { frames = sym p i; rest = sym q i }

pub taken : {A : Type 0} (piece : List ℕ) (old mid after : Stream) (fed : Result A FrameError) (frames : List Frame) (fault : Option FrameError) → IsFaultIn fed fault
    → IfOk fed (λ _. Feeds piece old mid)
    → ((error : FrameError) → fed ≡ Err error → error ≢ FrameMemory → Refuses piece old mid error)
    → frames ≡ mid.frames → after.frames ≡ [] → after.rest ≡ mid.rest → IsTaken piece old after frames fault
taken piece old mid after fed frames fault is ok refused all none rest = record {
  brings = subst (λ (m : Stream). Brings piece old m fault) (parts mid frames after.rest all rest) (brought piece old mid fed fault is ok refused);
  none = none;
}

-- the client at a place was fed
pub fed_at : (key : ℕ) (piece : List ℕ) (clients : List ScriptClient) (place : ℕ) (was new : ScriptClient) (fed : Fed) → position (has_key key) clients ≡ Some place
    → was ≡ get_or clients place was → IsFed piece was new fed → HasFed key piece clients (slice_set clients place new) fed
fed_at key piece clients place was new fed at here is =
    let first = first_at key clients place at in
    record {
      client = was;
      is = first.found was ∙ ap Some (sym here);
      stream = new.feeder;
      taken = is.taken;
      number = is.number;
      next = ap (slice_set clients place) (is.same ∙ ap (λ (c : ScriptClient). record c { feeder = new.feeder }) here) ∙ sym (first.changed new.feeder was);
    }
