-- What a line of a script does before its settling.
use Rattle.std.specs.Prelude.{ℕ, ◌≡◌, List, [], Bool, Option, Some, None}
use Rattle.uci_text.specs.declared.line.Line.{Line}
use Rattle.script_lines.specs.declared.script_line.ScriptLine.{ScriptLine}
use Rattle.script_lines.specs.declared.script_line.ScriptLine.TheVariants as line
use Rattle.script_lines.specs.Lines.{line_of}
use Rattle.step_net.specs.NetLine.{NetLine}
use Rattle.step_net.specs.Acted.{acted}
use Rattle.step_net.specs.Moved.{fails_first}
use Rattle.plane_step.specs.Ground.{Ground}
use Rattle.plane_step.specs.FilesMoved.{files_moved}
use Rattle.plane_step.specs.Means.{Means}
use Rattle.bus_lines.specs.declared.caller_line.CallerLine.TheVariants as caller
use Rattle.bus_lines.specs.World.{World}
use Rattle.bus_lines.specs.Did.{Did}
use Rattle.bus_lines.specs.CallerLine.{LineDoes as CallerDoes}
use Rattle.plane_step.specs.Expiry.{Expired}

-- the part of the world that lines move that are of no caller
abbrev pub ground_of : World → Ground
ground_of world = record { now = world.now; files = world.files; net = world.net }

-- what such a line did that means this for the plane of interfaces, where the kernel fails at its event or not
abbrev pub plain_did : World → Option ScriptLine → NetLine → Bool → Did
plain_did world read act failed =
    let files = files_moved world.now world.files read in
    let done = acted world.net act failed in
    record {
      world = record world { now = files.now; files = files.after; net = done.net };
      asked = done.asked;
      sent = [];
      requests = done.requests;
      reply = done.reply;
      refusal = done.refused;
      words = [];
    }

pub record PlainDoes (world : World) (number : ℕ) (read : Option ScriptLine) (failures : List Bool)
    (did : Did) : Type 0 where
  pub act : NetLine
  pub means : Means (ground_of world) number read act
  pub is : did ≡ plain_did world read act (fails_first failures)

-- at a new moment sessions expire first
pub record AtDoes (world : World) (number moment : ℕ) (failures : List Bool) (did : Did) : Type 0 where
  pub found : World
  pub expired : Expired world moment found
  pub does : PlainDoes found number (Some (line.At moment)) failures did

-- What a line at this number of the script does, with its luck: random words, and whether the kernel fails at its
-- events.
abbrev pub Does : World → ℕ → Option ScriptLine → List ℕ → List Bool → Did → Type 0
Does world number None words failures did = PlainDoes world number None failures did
Does world number (Some (line.Call session object method json)) words failures did =
    CallerDoes world number
    (caller.Call (record { session = session; path = object; method = method; json = json }))
    words failures did
Does world number (Some (line.OpenClient client user group)) words failures did =
    CallerDoes world number (caller.Open client user group) words failures did
Does world number (Some (line.ClientBytes client bytes)) words failures did =
    CallerDoes world number (caller.Bytes client bytes) words failures did
Does world number (Some (line.CloseClient client)) words failures did =
    CallerDoes world number (caller.Close client) words failures did
Does world number (Some (line.At moment)) words failures did =
    AtDoes world number moment failures did
Does world number (Some other) words failures did =
    PlainDoes world number (Some other) failures did

-- the same of a line as it stands in the script
abbrev pub LineDoes : World → Line → List ℕ → List Bool → Did → Type 0
LineDoes world line words failures did =
    Does world line.line (line_of line.words) words failures did
