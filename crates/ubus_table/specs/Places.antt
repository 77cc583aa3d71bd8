-- Places name messages and open calls, and change nothing else.
use Rattle.std.specs.Prelude.{ℕ, ◌≡◌, List, map, Option}
use Rattle.ubus_frames.specs.declared.frame.Frame.{Frame}
use Rattle.ubus_table.specs.Table.{Table, Call}
use Rattle.ubus_table.specs.Frames.{Sent}
use Rattle.ubus_table.specs.Refusal.{Step}

abbrev pub without_place : Call → Call
without_place call = record call { place = 0 }

-- the table without places
abbrev pub placeless : Table → Table
placeless table = record table { place = 0; calls = map without_place table.calls }

-- to whom a frame goes, and the frame
abbrev pub Outgoing : Type 0
Outgoing = ℕ × Frame

abbrev pub outgoing : Sent → Outgoing
outgoing sent = (sent.to, sent.frame)

-- the frames as they are sent
abbrev pub frames_of : List Sent → List Outgoing
frames_of sent = map outgoing sent

-- the steps send the same frames, hand out the same call, and leave the same but for places
pub record IsSameButPlaces (one other : Step) : Type 0 where
  pub table : placeless one.table ≡ placeless other.table
  pub sent : frames_of one.sent ≡ frames_of other.sent
  pub local : one.local ≡ other.local
