-- The folders that a line passes through, and what it had done where it was cut.
use Rattle.std.specs.Prelude.{ℕ, ◌≡◌, Bool, Option, Some, None}
use Rattle.uci_text.specs.declared.line.Line.{Line}
use Rattle.uci_tool.specs.Folder.{Folder}
use Rattle.script_lines.specs.declared.script_line.ScriptLine.{ScriptLine}
use Rattle.script_lines.specs.declared.script_line.ScriptLine.TheVariants as line
use Rattle.script_lines.specs.Lines.{line_of}
use Rattle.step_net.specs.NetLine.{NetLine}
use Rattle.step_net.specs.Acted.{acted}
use Rattle.step_net.specs.Moved.{once_if}
use Rattle.plane_step.specs.FilesMoved.{files_moved, IsOneOf}
use Rattle.plane_step.specs.Means.{Means}
use Rattle.rpc_objects.specs.Cut.{Cut, untouched}
use Rattle.bus_lines.specs.declared.caller_line.CallerLine.TheVariants as caller
use Rattle.bus_lines.specs.World.{World}
use Rattle.bus_lines.specs.Passed.{LinePasses as CallerPasses}
use Rattle.bus_lines.specs.Cut.{LineCuts as CallerCuts}
use Rattle.plane_step.specs.Expiry.{Reached, Expired}
use Rattle.plane_step.specs.Does.{ground_of}

abbrev pub PlainPasses : World → Option ScriptLine → Folder → Type 0
PlainPasses world read folder = IsOneOf folder (files_moved world.now world.files read)

-- at a new moment some of what is staged goes first, with its sessions
pub record AtPasses (world : World) (moment : ℕ) (folder : Folder) : Type 0 where
  pub found : World
  pub reached : Reached world moment found
  pub passes : PlainPasses found (Some (line.At moment)) folder

-- a line at this number of the script
abbrev pub Passes : World → ℕ → Option ScriptLine → Folder → Type 0
Passes world number None folder = PlainPasses world None folder
Passes world number (Some (line.Call session object method json)) folder =
    CallerPasses world number
    (caller.Call (record { session = session; path = object; method = method; json = json })) folder
Passes world number (Some (line.OpenClient client user group)) folder =
    CallerPasses world number (caller.Open client user group) folder
Passes world number (Some (line.ClientBytes client bytes)) folder =
    CallerPasses world number (caller.Bytes client bytes) folder
Passes world number (Some (line.CloseClient client)) folder =
    CallerPasses world number (caller.Close client) folder
Passes world number (Some (line.At moment)) folder = AtPasses world moment folder
Passes world number (Some other) folder = PlainPasses world (Some other) folder

abbrev pub LinePasses : World → Line → Folder → Type 0
LinePasses world line folder = Passes world line.line (line_of line.words) folder

-- a line that is of no caller was stopped in front of what it does to the plane of interfaces, or behind it
pub data PlainCuts (world : World) (number : ℕ) (read : Option ScriptLine) : Cut → Type 0 where
  in_front : PlainCuts world number read (untouched world.net)
  behind : (act : NetLine) → Means (ground_of world) number read act → (failed : Bool)
      → PlainCuts world number read (record {
        held = (acted world.net act failed).net.held;
        asked = (acted world.net act failed).asked;
        failures = once_if failed;
      })

-- at a new moment sessions expire first
pub data AtCuts (world : World) (number moment : ℕ) : Cut → Type 0 where
  in_front : AtCuts world number moment (untouched world.net)
  behind : (found : World) → Expired world moment found → (cut : Cut)
      → PlainCuts found number (Some (line.At moment)) cut → AtCuts world number moment cut

abbrev pub Cuts : World → ℕ → Option ScriptLine → Cut → Type 0
Cuts world number None cut = PlainCuts world number None cut
Cuts world number (Some (line.Call session object method json)) cut =
    CallerCuts world number
    (caller.Call (record { session = session; path = object; method = method; json = json })) cut
Cuts world number (Some (line.OpenClient client user group)) cut =
    CallerCuts world number (caller.Open client user group) cut
Cuts world number (Some (line.ClientBytes client bytes)) cut =
    CallerCuts world number (caller.Bytes client bytes) cut
Cuts world number (Some (line.CloseClient client)) cut =
    CallerCuts world number (caller.Close client) cut
Cuts world number (Some (line.At moment)) cut =
    AtCuts world number moment cut
Cuts world number (Some other) cut = PlainCuts world number (Some other) cut

abbrev pub LineCuts : World → Line → Cut → Type 0
LineCuts world line cut = Cuts world line.line (line_of line.words) cut

-- Where a disk fails in a line that is of no caller, nothing was done to the plane of interfaces.
abbrev pub Fails : World → ℕ → Option ScriptLine → Cut → Type 0
Fails world number (Some (line.Call session object method json)) cut =
    CallerCuts world number
    (caller.Call (record { session = session; path = object; method = method; json = json })) cut
Fails world number (Some (line.OpenClient client user group)) cut =
    CallerCuts world number (caller.Open client user group) cut
Fails world number (Some (line.ClientBytes client bytes)) cut =
    CallerCuts world number (caller.Bytes client bytes) cut
Fails world number (Some (line.CloseClient client)) cut =
    CallerCuts world number (caller.Close client) cut
Fails world number _ cut = cut ≡ untouched world.net

abbrev pub LineFails : World → Line → Cut → Type 0
LineFails world line cut = Fails world line.line (line_of line.words) cut
