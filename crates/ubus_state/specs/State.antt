-- What the bus knows, as the table of the definitions.
use Rattle.ubus_table.specs.Table.{Table}
use Rattle.ubus_state.specs.Calls.{calls_of}
use Rattle.ubus_state.specs.declared.bus.Bus.{Bus}

-- what a bus knows; the code keeps no places
abbrev pub table_of : Bus → Table
table_of bus = record {
  place = 0;
  acl = bus.acl;
  clients = bus.clients.rows.items;
  next_client = bus.clients.next;
  objects = bus.objects.rows.items;
  next_object = bus.objects.next;
  subscriptions = bus.subscriptions;
  registrations = bus.registrations.items;
  calls = calls_of bus.calls.rows.items;
}
