-- What the words of a line ask for.
use Rattle.std.specs.Prelude.{ℕ, List, [], ◌∷◌, codes, Bool, true, false, bytes_eq, Option, Some, None, replicate}
use Rattle.std.specs.Prelude.{if◌then◌else◌}
use Rattle.std.specs.Option.{option_and_then, option_map}
use Rattle.kern_model.specs.declared.object.DevEvent.{DevEvent}
use Rattle.kern_model.specs.declared.object.DevEvent.TheVariants as device
use Rattle.kern_model.specs.declared.object.Mac.{Mac}
use Rattle.net_rows.specs.HardwareAddress.{mac_of}
use Rattle.net_rows.specs.Number.{decimal_of}
use Rattle.script_lines.specs.declared.keyword.Keyword.{Keyword}
use Rattle.script_lines.specs.declared.keyword.Keyword.TheVariants as keyword
use Rattle.script_lines.specs.declared.script_line.ScriptLine.{ScriptLine}
use Rattle.script_lines.specs.declared.script_line.ScriptLine.TheVariants as line
use Rattle.script_lines.specs.declared.arguments.TheConstants.{USUAL_MTU}
use Rattle.script_lines.specs.Arguments.{long_decimal_of, name_of, switch_of, bytes_of, caller_of}

-- the keyword that a word is
abbrev pub keyword_of : List ℕ → Option Keyword
keyword_of word =
    if bytes_eq word (codes "at") then Some keyword.At else
    if bytes_eq word (codes "dev") then Some keyword.Dev else
    if bytes_eq word (codes "carrier") then Some keyword.Carrier else
    if bytes_eq word (codes "answer") then Some keyword.Answer else
    if bytes_eq word (codes "radio") then Some keyword.Radio else
    if bytes_eq word (codes "up") then Some keyword.Up else
    if bytes_eq word (codes "down") then Some keyword.Down else
    if bytes_eq word (codes "reload") then Some keyword.Reload else
    if bytes_eq word (codes "uci") then Some keyword.Uci else
    if bytes_eq word (codes "call") then Some keyword.Call else
    if bytes_eq word (codes "client") then Some keyword.Client else
    if bytes_eq word (codes "status") then Some keyword.Status else None

-- both of two, where both are there
abbrev pub both : {A B C : Type 0} → (A → B → C) → Option A → Option B → Option C
both join None b = None
both join (Some a) None = None
both join (Some a) (Some b) = Some (join a b)

-- `at N`
abbrev pub at_line : List (List ℕ) → Option ScriptLine
at_line (moment ∷ []) = option_map line.At (long_decimal_of moment)
at_line _ = None

-- what a device comes with: its carrier, its MTU and its hardware address
abbrev pub Coming : Type 0
Coming = Bool × ℕ × Mac

abbrev pub zeros : Mac
zeros = record { 0 = replicate 6 0 }

-- a device comes with carrier, the MTU of Ethernet and a hardware address of zeros, where nothing
-- else is said
abbrev pub coming_of : List (List ℕ) → Option Coming
coming_of [] = Some (true, USUAL_MTU, zeros)
coming_of (carrier ∷ []) = option_map (λ on. (on, USUAL_MTU, zeros)) (switch_of carrier)
coming_of (carrier ∷ mtu ∷ mac ∷ []) =
    both (λ on (rest : ℕ × Mac). (on, rest.0, rest.1)) (switch_of carrier)
    (both (λ size address. (size, address)) (decimal_of mtu) (mac_of mac))
coming_of _ = None

abbrev pub added : List ℕ → Coming → ScriptLine
added name coming = line.Device (device.Add name coming.0 coming.1 coming.2)

abbrev pub removed : List ℕ → ScriptLine
removed name = line.Device (device.Remove name)

-- `dev add NAME [CARRIER [MTU MAC]]` and `dev del NAME`
abbrev pub removed_line : List ℕ → List (List ℕ) → Option ScriptLine
removed_line name [] = option_map removed (name_of name)
removed_line name _ = None

abbrev pub device_line : List (List ℕ) → Option ScriptLine
device_line (what ∷ name ∷ rest) =
    if bytes_eq what (codes "add") then both added (name_of name) (coming_of rest) else
    if bytes_eq what (codes "del") then removed_line name rest else None
device_line _ = None

-- `carrier NAME 0|1`
abbrev pub carrier_line : List (List ℕ) → Option ScriptLine
carrier_line (name ∷ on ∷ []) =
    both (λ name on. line.Device (device.Carrier name on)) (name_of name) (switch_of on)
carrier_line _ = None

-- `answer INTERFACE N JSON`
abbrev pub answer_line : List (List ℕ) → Option ScriptLine
answer_line (interface ∷ number ∷ json ∷ []) =
    option_map (λ n. line.Answer interface n json) (long_decimal_of number)
answer_line _ = None

-- `radio RADIO N JSON`
abbrev pub radio_line : List (List ℕ) → Option ScriptLine
radio_line (radio ∷ number ∷ json ∷ []) =
    option_map (λ n. line.Radio radio n json) (long_decimal_of number)
radio_line _ = None

-- `up INTERFACE` and `down INTERFACE`
abbrev pub operator_line : Bool → List (List ℕ) → Option ScriptLine
operator_line up (interface ∷ []) = Some (line.Operator interface up)
operator_line up _ = None

-- `reload`
abbrev pub reload_line : List (List ℕ) → Option ScriptLine
reload_line [] = Some line.Reload
reload_line _ = None

-- `call SESSION OBJECT METHOD JSON`
abbrev pub call_line : List (List ℕ) → Option ScriptLine
call_line (session ∷ object ∷ method ∷ json ∷ []) =
    option_map (λ caller. line.Call caller object method json) (caller_of session)
call_line _ = None

-- `client K open USER GROUP`, `client K bytes HEX` and `client K close`
abbrev pub client_done : ℕ → List (List ℕ) → Option ScriptLine
client_done client (what ∷ []) =
    if bytes_eq what (codes "close") then Some (line.CloseClient client) else None
client_done client (what ∷ hex ∷ []) =
    if bytes_eq what (codes "bytes")
    then option_map (λ bytes. line.ClientBytes client bytes) (bytes_of hex) else None
client_done client (what ∷ user ∷ group ∷ []) =
    if bytes_eq what (codes "open") then Some (line.OpenClient client user group) else None
client_done client _ = None

abbrev pub client_line : List (List ℕ) → Option ScriptLine
client_line (client ∷ rest) = option_and_then (λ k. client_done k rest) (decimal_of client)
client_line _ = None

-- `status` and `status interface|device|radio NAME`
abbrev pub status_of : List ℕ → List ℕ → Option ScriptLine
status_of what name =
    if bytes_eq what (codes "interface") then Some (line.InterfaceStatus name) else
    if bytes_eq what (codes "device") then Some (line.DeviceStatus name) else
    if bytes_eq what (codes "radio") then Some (line.RadioStatus name) else None

abbrev pub status_line : List (List ℕ) → Option ScriptLine
status_line [] = Some line.Dump
status_line (what ∷ name ∷ []) = status_of what name
status_line _ = None

-- what the words behind a keyword ask for
abbrev pub line_behind : Keyword → List (List ℕ) → Option ScriptLine
line_behind keyword.At rest = at_line rest
line_behind keyword.Dev rest = device_line rest
line_behind keyword.Carrier rest = carrier_line rest
line_behind keyword.Answer rest = answer_line rest
line_behind keyword.Radio rest = radio_line rest
line_behind keyword.Up rest = operator_line true rest
line_behind keyword.Down rest = operator_line false rest
line_behind keyword.Reload rest = reload_line rest
line_behind keyword.Uci rest = Some (line.Uci rest)
line_behind keyword.Call rest = call_line rest
line_behind keyword.Client rest = client_line rest
line_behind keyword.Status rest = status_line rest

-- what the words of a line ask for; none where no row of the table has them
abbrev pub line_of : List (List ℕ) → Option ScriptLine
line_of [] = None
line_of (word ∷ rest) = option_and_then (λ k. line_behind k rest) (keyword_of word)
