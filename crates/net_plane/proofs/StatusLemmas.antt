-- What is shown, by what was computed.
use Rattle.std.proofs.Common.{◌≡◌, inl, inr, Option, Some, None, Result, Ok, Err, IfOk, refl, sym, subst}
use Rattle.std.specs.Option.{option_map}
use Rattle.serde_json.specs.Data.{Data}
use Rattle.net_plane.specs.declared.net_error.NetError.{NetError}
use Rattle.net_plane.specs.Status.{Shows, told_shown}

shows_computed : {V M : Type 0} (view : V → Data) (wanted : Option Data) (absent : NetError) (shown : Result (Option V) M) → IfOk shown (λ (s : Option V). option_map view s ≡ wanted) → Shows view wanted absent (told_shown absent shown)
shows_computed view wanted absent (Ok (Some value)) is = is
shows_computed view wanted absent (Ok None) is = inr (refl, sym is)
shows_computed view wanted absent (Err e) is = inl refl

pub shows : {V M : Type 0} (view : V → Data) (wanted : Option Data) (absent : NetError) (shown : Result (Option V) M) (told : Result V NetError) → told ≡ told_shown absent shown → IfOk shown (λ (s : Option V). option_map view s ≡ wanted)
    → Shows view wanted absent told
shows {V} {M} view wanted absent shown told as_told is = subst (λ (t : Result V NetError). Shows view wanted absent t) (sym as_told) (shows_computed view wanted absent shown is)
