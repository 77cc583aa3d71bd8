-- Calls of a broker, one after another.
use Rattle.std.specs.Prelude.{List, [], ◌∷◌, ◌++◌, Option}
use Rattle.ubus_acl.specs.declared.acl.Acl.{Acl}
use Rattle.ubus_table.specs.declared.rows.LocalCall.{LocalCall}
use Rattle.ubus_table.specs.Table.{Table, nobody}
use Rattle.ubus_table.specs.Frames.{Sent}
use Rattle.ubus_table.specs.Served.{BusEvent, served}
use Rattle.ubus_table.specs.Run.{sent_by}
use Rattle.ubus_send.specs.declared.outbox.Outgoing.{Outgoing}
use Rattle.ubus_send.specs.Fits.{fits}
use Rattle.ubus_broker.specs.Did.{Did}

-- The calls for these events were carried out, one after another. From the table before the first they sent these
-- frames in all, and left this table. A call that is refused leaves all as it was, and is no event.
pub data Ran : Table → List BusEvent → List Outgoing → Table → Type 0 where
  ended : (now : Table) → Ran now [] [] now
  did : (before next now : Table) (event : BusEvent) (events : List BusEvent) (sent more : List Outgoing)
      (call : Option LocalCall) → Did (served fits before event) next sent call
      → Ran next events more now → Ran before (event ∷ events) (sent ++ more) now

-- What the definitions send in these events. A STATUS for an INVOKE has the place of that INVOKE: how many events were
-- before it.
abbrev pub marked : Acl → List BusEvent → List Sent
marked acl events = sent_by fits (nobody acl) events
