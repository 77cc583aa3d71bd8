-- The lines that tell what clients are sent: `send`, the script's number of the client, and the frame in hexadecimal
-- digits.
use Rattle.std.specs.Prelude.{ℕ, List, [], ◌∷◌, ◌++◌, Option, Some, None, codes, decimal, if◌then◌else◌, ◌≡◌, refl}
use Rattle.std.specs.List.{flat_map}
use Rattle.hex.specs.Hex.{encode_lower, encode_with}
use Rattle.ubus_frames.specs.declared.frame.Frame.{Frame}
use Rattle.ubus_frames.specs.Written.{written_frame}
use Rattle.ubus_table.specs.Frames.{hello}
use Rattle.ubus_send.specs.declared.outbox.Outgoing.{Outgoing}
use Rattle.ubus_send.specs.Fits.{fits}
use Rattle.bus_clients.specs.Clients.{ScriptClient, key_of}

abbrev pub send_line : ℕ → Frame → List ℕ
send_line key frame =
    codes "send " ++ (decimal key ++ (32 ∷ (encode_lower (written_frame frame) ++ codes "\n")))

-- of a client that the script does not know, or of a frame that has no spelling, nothing is told
abbrev pub line_to : Option ℕ → Frame → List ℕ
line_to None frame = []
line_to (Some key) frame = if fits frame then send_line key frame else []

abbrev pub line_of : List ScriptClient → Outgoing → List ℕ
line_of clients sent = line_to (key_of clients sent.client) sent.frame

-- what clients are sent, in its order
abbrev pub send_lines : List ScriptClient → List Outgoing → List ℕ
send_lines clients out = flat_map (line_of clients) out

-- what greets the bus's client 1025, in digits
greeting : encode_lower (written_frame (hello 1025)) ≡ codes "000000000000040100000004"
unfolding encode_with written_frame
greeting = refl
