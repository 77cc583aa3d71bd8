-- Objects that leave one after another.
use Rattle.std.specs.Prelude.{ℕ, ◌≡◌, List}
use Rattle.ubus_table.specs.Table.{Table, Call}
use Rattle.ubus_table.specs.declared.rows.Subscription.{Subscription}
use Rattle.ubus_table.specs.Refusal.{Step}
use Rattle.ubus_table.specs.Clients.{without_client, numbers_of, objects_left}
use Rattle.ubus_send.specs.Fits.{fits}
use Rattle.ubus_send.specs.Out.{out_of}
use Rattle.ubus_state.specs.Among.{objects_but, registrations_but, calls_but}
use Rattle.ubus_state.specs.declared.leaving.Leaving.{Leaving}

-- the table where these objects have left, and these subscriptions and calls are there
abbrev pub partly : Table → List ℕ → List Subscription → List Call → Table
partly table gone subscriptions calls = record table {
  objects = objects_but gone table.objects;
  subscriptions = subscriptions;
  registrations = registrations_but gone table.registrations;
  calls = calls;
}

-- what the leaving of a client comes to
abbrev pub all_left : Table → ℕ → Step
all_left table client = objects_left fits (without_client table client) (numbers_of table client)

-- the leaving of a client comes to this
pub record Leaves (before : Table) (client : ℕ) (leaving : Leaving) : Type 0 where
  pub table : partly (without_client before client) leaving.numbers.items leaving.subscriptions
      (calls_but leaving.numbers.items (without_client before client).calls) ≡ (all_left before client).table
  pub sent : leaving.out ≡ out_of (all_left before client).sent
