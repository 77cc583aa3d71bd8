-- What a line of a script means for the plane of interfaces, in the ground in front of it.
use Rattle.std.specs.Prelude.{ℕ, ◌≡◌, ◌<◌, ◌≤◌, List, Option, Some, None, true, false, if◌then◌else◌}
use Rattle.std.specs.Option.{option_map}
use Rattle.std.specs.Str.{is_utf8}
use Rattle.serde_json.specs.Data.{Data}
use Rattle.serde_json.specs.Read.{read}
use Rattle.snap_disk.specs.Open.{is_due}
use Rattle.uci_cli.specs.declared.refusal.Refusal.{Refusal}
use Rattle.uci_cli.specs.declared.refusal.Refusal.TheVariants as why
use Rattle.uci_tool.specs.Line.{Carried}
use Rattle.uci_tool.specs.Alone.{words_carried}
use Rattle.net_rules.specs.declared.answer.Answer.{Answer}
use Rattle.net_rules.specs.declared.event.Event.TheVariants as event
use Rattle.script_lines.specs.declared.script_line.ScriptLine.{ScriptLine}
use Rattle.script_lines.specs.declared.script_line.ScriptLine.TheVariants as line
use Rattle.answer_json.specs.AnswerJson.{IsAnswer}
use Rattle.answer_json.specs.PortsJson.{ArePorts}
use Rattle.script_lines.specs.declared.line_error.LineError.{LineError}
use Rattle.script_lines.specs.declared.line_error.LineError.TheVariants as error
use Rattle.step_net.specs.NetLine.{NetLine, refused, nothing}
use Rattle.plane_step.specs.Ground.{Ground}
use Rattle.plane_step.specs.FilesMoved.{folder_at}
use Rattle.step_net.specs.Reload.{ReloadAsks}

-- it is in no row of the table of lines
abbrev pub bad_line : ℕ → NetLine
bad_line number = refused (error.BadLine number)

-- the JSON value that a text is, if it is one (RFC 8259)
abbrev pub json_of : List ℕ → Option Data
json_of text = if is_utf8 text then read text else None

-- an answer to the request of an interface, or a text that is none
pub data AnswerAsks (number : ℕ) (interface : List ℕ) (request : ℕ) (json : List ℕ) : NetLine → Type 0 where
  answer : (value : Data) (told : Answer) → json_of json ≡ Some value → IsAnswer value told
      → AnswerAsks number interface request json (NetLine.happens (event.Answer interface request told))
  no_json : json_of json ≡ None → AnswerAsks number interface request json (bad_line number)
  no_answer : (value : Data) → json_of json ≡ Some value
      → ((told : Answer) → IsAnswer value told → ⊥)
      → AnswerAsks number interface request json (bad_line number)

-- an answer to the request of a radio, or a text that is none
pub data RadioRequests (number : ℕ) (radio : List ℕ) (request : ℕ) (json : List ℕ) : NetLine → Type 0 where
  answer : (value : Data) (ports : List (Option (List ℕ))) → json_of json ≡ Some value
      → ArePorts value ports
      → RadioRequests number radio request json (NetLine.happens (event.Radio radio request ports))
  no_json : json_of json ≡ None → RadioRequests number radio request json (bad_line number)
  no_answer : (value : Data) → json_of json ≡ Some value
      → ((ports : List (Option (List ℕ))) → ArePorts value ports → ⊥)
      → RadioRequests number radio request json (bad_line number)

-- A moment before the last is refused. Behind another one the files are loaded anew where an apply was
-- undone, and else nothing is asked.
pub data AtAsks (ground : Ground) (moment : ℕ) : NetLine → Type 0 where
  past : moment < ground.now → AtAsks ground moment (refused error.Moment)
  rests : ground.now ≤ moment → is_due ground.files.files.waits moment ≡ false
      → AtAsks ground moment nothing
  undone : ground.now ≤ moment → is_due ground.files.files.waits moment ≡ true
      → (act : NetLine) → ReloadAsks (folder_at ground.files moment) act → AtAsks ground moment act

-- the refusal of a command of `uci`, as a line tells it
abbrev pub line_error : Refusal → LineError
line_error why.NotFound = error.NotFound
line_error why.Invalid = error.Invalid
line_error why.Duplicate = error.Duplicate
line_error why.Waiting = error.Waiting
line_error why.NoPackage = error.NoPackage
line_error (why.Parse fault) = error.Parse
line_error why.TooLarge = error.TooLarge

-- what a command of `uci` prints, and then its refusal; words that request for none are a bad line
abbrev pub uci_requests : ℕ → Option Carried → NetLine
uci_requests number None = bad_line number
uci_requests number (Some done) = NetLine.tells done.output (option_map line_error done.refusal)

-- What the words of a line mean that stands at this number in the script. Lines of calls and of
-- clients are bad lines here: they do more.
abbrev pub Means : Ground → ℕ → Option ScriptLine → NetLine → Type 0
Means ground number None act = act ≡ bad_line number
Means ground number (Some (line.At moment)) act = AtAsks ground moment act
Means ground number (Some (line.Device what)) act = act ≡ NetLine.happens (event.Device what)
Means ground number (Some (line.Answer interface request json)) act =
    AnswerAsks number interface request json act
Means ground number (Some (line.Radio radio request json)) act = RadioRequests number radio request json act
Means ground number (Some (line.Operator interface up)) act =
    act ≡ NetLine.happens (event.Operator interface up)
Means ground number (Some line.Reload) act = ReloadAsks ground.files act
Means ground number (Some (line.Uci words)) act =
    act ≡ uci_requests number (words_carried words ground.files)
Means ground number (Some (line.Call session object method json)) act = act ≡ bad_line number
Means ground number (Some (line.OpenClient client user group)) act = act ≡ bad_line number
Means ground number (Some (line.ClientBytes client bytes)) act = act ≡ bad_line number
Means ground number (Some (line.CloseClient client)) act = act ≡ bad_line number
Means ground number (Some line.Dump) act = act ≡ NetLine.dump
Means ground number (Some (line.InterfaceStatus name)) act = act ≡ NetLine.interface name
Means ground number (Some (line.DeviceStatus name)) act = act ≡ NetLine.device name
Means ground number (Some (line.RadioStatus name)) act = act ≡ NetLine.radio name
