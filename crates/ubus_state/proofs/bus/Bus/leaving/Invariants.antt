use Rattle.std.proofs.Common.{◌≡◌, ◌++◌, take, drop}
use Rattle.ubus_table.specs.Clients.{without_client, objects_left}
use Rattle.ubus_send.specs.Fits.{fits}
use Rattle.ubus_state.specs.State.{table_of}
use Rattle.ubus_state.specs.Calls.{calls_of}
use Rattle.ubus_send.specs.Out.{out_of}
use Rattle.ubus_state.specs.Leaving.{partly, all_left}
use Rattle.ubus_state.proofs.bus.Bus.leaving.Given as goal

-- what the objects from here on come to completes what all come to
abbrev pub invariant-loop-place : goal.invariant-loop-place
invariant-loop-place l =
    let now = partly (without_client (table_of l.self) l.client) (take l.place l.numbers.items) l.subscriptions (calls_of l.calls.items) in
    record {
      table : (objects_left fits now (drop l.place l.numbers.items)).table ≡ (all_left (table_of l.self) l.client).table;
      sent : l.out ++ out_of (objects_left fits now (drop l.place l.numbers.items)).sent ≡ out_of (all_left (table_of l.self) l.client).sent;
    }
