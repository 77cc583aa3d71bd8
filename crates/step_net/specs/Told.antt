-- What is to be told of a line, and how errors of the plane are told.
use Rattle.std.specs.Prelude.{ℕ, List, [], Option, Some, None}
use Rattle.std.specs.Option.{option_map}
use Rattle.net_plane.specs.declared.net_error.NetError.{NetError}
use Rattle.net_plane.specs.declared.net_error.NetError.TheVariants as net_error
use Rattle.script_lines.specs.declared.line_error.LineError.{LineError}
use Rattle.script_lines.specs.declared.line_error.LineError.TheVariants as error
use Rattle.script_lines.specs.ErrorLine.{error_line}
use Rattle.step_net.specs.Moved.{Telling}

-- this is shown
abbrev pub shown : List ℕ → Telling
shown text = record { shown = text; refusal = None }

-- this is shown, and then the line may be refused
abbrev pub telling : List ℕ → Option LineError → Telling
telling text refusal = record { shown = text; refusal = option_map error_line refusal }

-- the line is refused
abbrev pub refused : LineError → Telling
refused e = record { shown = []; refusal = Some (error_line e) }

-- the error of the plane, as a line tells it; two are told by no line
abbrev pub line_error : NetError → Option LineError
line_error net_error.NoInterface = Some error.NoInterface
line_error (net_error.Stale given current) = Some (error.Stale given current)
line_error net_error.NoDevice = Some error.NoDevice
line_error net_error.KernelFailed = Some error.KernelFailed
line_error net_error.Known = Some error.Known
line_error (net_error.WrongPorts wanted) = Some (error.WrongPorts wanted)
line_error (net_error.Limit number) = Some (error.Limit number)
line_error net_error.NoRadio = Some error.NoRadio
line_error net_error.WriteFailed = None
line_error net_error.Memory = None
