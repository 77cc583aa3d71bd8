-- What a line of a call or of a client does.
use Rattle.std.specs.Prelude.{ℕ, ◌≡◌, List, Bool}
use Rattle.step_net.specs.Moved.{fails_first}
use Rattle.bus_lines.specs.declared.caller_line.CallerLine.{CallerLine}
use Rattle.bus_lines.specs.declared.caller_line.CallerLine.TheVariants as line
use Rattle.bus_lines.specs.World.{World}
use Rattle.bus_lines.specs.Words.{first_word}
use Rattle.bus_lines.specs.Did.{Did}
use Rattle.bus_lines.specs.CallLine.{CallDoes}
use Rattle.bus_lines.specs.ClientLine.{open_did, close_did, BytesDo}

-- a line at this number of the script, with its luck: the random words at hand, one a call or a frame, and whether the
-- kernel fails at their events
abbrev pub LineDoes : World → ℕ → CallerLine → List ℕ → List Bool → Did → Type 0
LineDoes world number (line.Call words) random failures did =
    CallDoes world number (first_word random) (fails_first failures) words did
LineDoes world number (line.Open client user group) random failures did =
    did ≡ open_did world client user group
LineDoes world number (line.Bytes client bytes) random failures did =
    BytesDo world client bytes random failures did
LineDoes world number (line.Close client) random failures did = did ≡ close_did world client
