-- Frames as they go out.
use Rattle.std.specs.Prelude.{List, map}
use Rattle.ubus_table.specs.Frames.{Sent}
use Rattle.ubus_send.specs.declared.outbox.Outgoing.{Outgoing}

-- a frame as it goes out
abbrev pub outgoing : Sent → Outgoing
outgoing sent = record { client = sent.to; frame = sent.frame }

-- the frames as they go out
abbrev pub out_of : List Sent → List Outgoing
out_of sent = map outgoing sent
