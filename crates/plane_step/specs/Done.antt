-- What the code made of a line before its settling.
use Rattle.std.specs.Prelude.{ℕ, ◌≡◌, List, Bool, Option, Some, Result, Ok, Err, ⊤}
use Rattle.uci_tool.specs.Folder.{Folder}
use Rattle.script_lines.specs.declared.script_line.ScriptLine.{ScriptLine}
use Rattle.script_lines.specs.declared.script_line.ScriptLine.TheVariants as line
use Rattle.rpc_objects.specs.declared.uci_answer.CallStop.{CallStop}
use Rattle.rpc_objects.specs.declared.uci_answer.CallStop.TheVariants as call
use Rattle.rpc_objects.specs.Cut.{Cut, untouched}
use Rattle.bus_lines.specs.declared.caller_line.CallerLine.{CallerLine}
use Rattle.bus_lines.specs.declared.caller_line.CallerLine.TheVariants as caller
use Rattle.bus_lines.specs.Did.{Did}
use Rattle.plane_step.specs.declared.act.Asking.{Asking}
use Rattle.plane_step.specs.declared.act.Asking.TheVariants as asking
use Rattle.plane_step.specs.declared.stop.Stop.{Stop}
use Rattle.plane_step.specs.declared.stop.Stop.TheVariants as stop
use Rattle.bus_lines.specs.declared.handled.Handled.{Handled}
use Rattle.bus_lines.specs.World.{World}
use Rattle.bus_lines.specs.Ended.{Seen, IsDone, IsHalted, HasFailed}
use Rattle.plane_step.specs.Does.{Does, PlainDoes}
use Rattle.plane_step.specs.Passed.{Passes, Cuts, Fails, PlainPasses, PlainCuts}

-- how a line ended that does this, may be cut so for want of memory, and so by a disk, and passes through these folders
abbrev pub EndsSo : (List ℕ → List Bool → Did → Type 0) → (Cut → Type 0) → (Cut → Type 0) → (Folder → Type 0)
    → World → Seen → Result Handled Stop → Type 0
EndsSo Does Cuts Fails Passes now seen (Ok told) = IsDone Does now seen told
EndsSo Does Cuts Fails Passes now seen (Err stop.WriteFailed) = ⊥
EndsSo Does Cuts Fails Passes now seen (Err stop.DiskFailed) = HasFailed Fails now seen
EndsSo Does Cuts Fails Passes now seen (Err stop.Memory) = IsHalted Cuts Passes now seen

-- how a line at this number of the script ended, in this world
abbrev pub Ends : World → ℕ → Option ScriptLine → World → Seen → Result Handled Stop → Type 0
Ends world number read now seen result =
    EndsSo (Does world number read) (Cuts world number read) (Fails world number read)
    (Passes world number read) now seen result

-- the same of a line that is of no caller
abbrev pub PlainEnds : World → ℕ → Option ScriptLine → World → Seen → Result Handled Stop → Type 0
PlainEnds world number read now seen result =
    EndsSo (λ words failures did. PlainDoes world number read failures did) (PlainCuts world number read)
    (λ cut. cut ≡ untouched world.net) (PlainPasses world read) now seen result

-- what stopped a line of a caller stops the script
abbrev pub or_stop : Result Handled CallStop → Result Handled Stop
or_stop (Ok told) = Ok told
or_stop (Err call.DiskFailed) = Err stop.DiskFailed
or_stop (Err call.Memory) = Err stop.Memory

-- a caller's line as it stands in a script
abbrev pub line_for : CallerLine → Option ScriptLine
line_for (caller.Call words) = Some (line.Call words.session words.path words.method words.json)
line_for (caller.Open client user group) = Some (line.OpenClient client user group)
line_for (caller.Bytes client bytes) = Some (line.ClientBytes client bytes)
line_for (caller.Close client) = Some (line.CloseClient client)

-- the line is of no caller, and goes to no moment
abbrev pub IsNobodys : Option ScriptLine → Type 0
IsNobodys (Some (line.At moment)) = ⊥
IsNobodys (Some (line.Call session object method json)) = ⊥
IsNobodys (Some (line.OpenClient client user group)) = ⊥
IsNobodys (Some (line.ClientBytes client bytes)) = ⊥
IsNobodys (Some (line.CloseClient client)) = ⊥
IsNobodys _ = ⊤

-- whose a line is
abbrev pub IsOf : Option ScriptLine → Asking → Type 0
IsOf read (asking.Moment moment) = read ≡ Some (line.At moment)
IsOf read (asking.Caller asked) = read ≡ line_for asked
IsOf read (asking.Nobody line) = (read ≡ line) × IsNobodys line
