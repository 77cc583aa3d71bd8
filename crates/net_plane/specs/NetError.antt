-- Why a call of the plane is refused.
use Rattle.std.specs.Prelude.{ℕ, Result, Ok, Err}
use Rattle.net_rows.specs.declared.conf_error.ConfError.{ConfError}
use Rattle.net_rows.specs.declared.conf_error.ConfError.TheVariants as fault
use Rattle.net_rules.specs.declared.refusal.Refusal.{Refusal}
use Rattle.net_rules.specs.declared.refusal.Refusal.TheVariants as refused
use Rattle.net_plane.specs.declared.net_error.NetError.{NetError}
use Rattle.net_plane.specs.declared.net_error.NetError.TheVariants as error

-- the refusal of an event, as it is told
abbrev pub error_of : Refusal → NetError
error_of refused.NoInterface = error.NoInterface
error_of refused.NoRadio = error.NoRadio
error_of (refused.Stale given current) = error.Stale given current
error_of refused.NoDevice = error.NoDevice
error_of refused.Known = error.Known
error_of (refused.WrongPorts wanted) = error.WrongPorts wanted
error_of (refused.Limit number) = error.Limit number

-- rows, or why there are none, as it is told
abbrev pub told_rows : {X : Type 0} → Result X ConfError → Result X NetError
told_rows (Ok x) = Ok x
told_rows (Err (fault.Limit number)) = Err (error.Limit number)
told_rows (Err fault.Memory) = Err error.Memory

-- the number of the kind of error
abbrev pub number_of : NetError → ℕ
number_of error.NoInterface = 90
number_of (error.Stale given current) = 91
number_of error.NoDevice = 92
number_of error.KernelFailed = 93
number_of error.Known = 94
number_of (error.WrongPorts wanted) = 95
number_of (error.Limit number) = 96
number_of error.NoRadio = 98
number_of error.WriteFailed = 2
number_of error.Memory = 8
