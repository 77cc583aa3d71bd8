-- What an event makes of the bus.
use Rattle.std.specs.Prelude.{ℕ, ◌+◌, ◌==◌, List, [], Bool, Option, Some, None, if◌then◌else◌}
use Rattle.blob_codec.specs.declared.blob.Attr.{Attr}
use Rattle.ubus_frames.specs.declared.frame.Frame.{Frame}
use Rattle.ubus_table.specs.Table.{Table, Client, client_of}
use Rattle.ubus_table.specs.Frames.{STATUS, DATA, PING, LOOKUP, INVOKE, ADD_OBJECT, REMOVE_OBJECT, SUBSCRIBE}
use Rattle.ubus_table.specs.Frames.{UNSUBSCRIBE, NOTIFY}
use Rattle.ubus_table.specs.Refusal.{numbered, Step, says, refuses}
use Rattle.ubus_table.specs.Asked.{pinged, looked_up}
use Rattle.ubus_table.specs.Objects.{adds, removes}
use Rattle.ubus_table.specs.Subscriptions.{subscribes, unsubscribes}
use Rattle.ubus_table.specs.Calls.{notifies, passes_data, passes_status}
use Rattle.ubus_table.specs.Invoked.{invokes}
use Rattle.ubus_table.specs.Clients.{connected, left, replied}

-- what happens to the bus
pub data BusEvent : Type 0 where
  -- a client with this user and this group comes
  connect : List ℕ → List ℕ → BusEvent
  -- a client sends a frame
  frame : ℕ → Frame → BusEvent
  -- a client leaves
  leave : ℕ → BusEvent
  -- the call of a client, with this sequence, on this local object is answered, with this status and this payload
  local_reply : ℕ → ℕ → ℕ → ℕ → Option (List Attr) → BusEvent

-- a client sends a message
abbrev pub said : (Frame → Bool) → Table → Client → Frame → Step
said fits table client message =
    if message.kind == STATUS then passes_status table client.number message
    else (if message.kind == DATA then passes_data fits table client.number message
    else (if message.kind == PING then pinged fits table client.number message
    else (if message.kind == LOOKUP then looked_up fits table client.number message
    else (if message.kind == INVOKE then invokes fits table client message
    else (if message.kind == ADD_OBJECT then adds fits table client message
    else (if message.kind == REMOVE_OBJECT then removes fits table client message
    else (if message.kind == SUBSCRIBE then subscribes fits table client message
    else (if message.kind == UNSUBSCRIBE then unsubscribes fits table client message
    else (if message.kind == NOTIFY then notifies fits table client message
    else refuses fits table client.number message (numbered 1))))))))))

abbrev pub said_by : (Frame → Bool) → Table → Option Client → Frame → Step
said_by fits table None message = says table []
said_by fits table (Some client) message = said fits table client message

abbrev pub happened : (Frame → Bool) → Table → BusEvent → Step
happened fits table (connect user group) = connected table user group
happened fits table (frame client message) = said_by fits table (client_of table client) message
happened fits table (leave client) = left fits table client
happened fits table (local_reply caller seq object status payload) = replied fits table caller seq object status payload

-- the event was one more
abbrev pub counted : Step → Step
counted step = record step { table = record step.table { place = step.table.place + 1 } }

abbrev pub served : (Frame → Bool) → Table → BusEvent → Step
served fits table event = counted (happened fits table event)
