-- What a step of the code did.
use Rattle.std.specs.Prelude.{◌≡◌, List, Option}
use Rattle.ubus_table.specs.declared.rows.LocalCall.{LocalCall}
use Rattle.ubus_table.specs.Table.{Table}
use Rattle.ubus_table.specs.Refusal.{Step}
use Rattle.ubus_send.specs.declared.outbox.Outgoing.{Outgoing}
use Rattle.ubus_send.specs.Out.{out_of}
use Rattle.ubus_state.specs.State as state
use Rattle.ubus_broker.specs.declared.broker.Broker.{Broker}

-- what a bus knows; the code keeps no places
abbrev pub table_of : Broker → Table
table_of broker = state.table_of broker.bus

-- a step of the code left this table, sent these frames and handed this call out
pub record Did (step : Step) (now : Table) (out : List Outgoing) (call : Option LocalCall) : Type 0 where
  pub table : now ≡ record step.table { place = 0 }
  pub sent : out ≡ out_of step.sent
  pub handed : call ≡ step.local
