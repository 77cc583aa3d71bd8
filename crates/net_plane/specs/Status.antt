-- What is shown of the plane, or why nothing is.
use Rattle.std.specs.Prelude.{◌≡◌, ◌⊎◌, Option, Some, None, Result, Ok, Err}
use Rattle.serde_json.specs.Data.{Data}
use Rattle.net_plane.specs.declared.net_error.NetError.{NetError}
use Rattle.net_plane.specs.declared.net_error.NetError.TheVariants as error

-- exactly that is shown; where there is nothing to show it is absent; either may want memory
abbrev pub Shows : {V : Type 0} → (V → Data) → Option Data → NetError → Result V NetError → Type 0
Shows view shown absent (Ok value) = Some (view value) ≡ shown
Shows view shown absent (Err e) = (e ≡ error.Memory) ⊎ ((e ≡ absent) × (shown ≡ None))

-- what is shown, as it is told
abbrev pub told_shown : {V M : Type 0} → NetError → Result (Option V) M → Result V NetError
told_shown absent (Ok (Some value)) = Ok value
told_shown absent (Ok None) = Err absent
told_shown absent (Err e) = Err error.Memory
