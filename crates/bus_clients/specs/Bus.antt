-- A message bus with the clients of a script.
use Rattle.std.specs.Prelude.{ℕ, ◌≡◌, List, [], ◌∷◌, ◌++◌, Option, Some, None, Result, Ok, Err, is_some, ⊤}
use Rattle.std.specs.Prelude.{if◌then◌else◌, refl}
use Rattle.ubus_acl.specs.declared.acl.Acl.{Acl}
use Rattle.ubus_table.specs.declared.rows.LocalCall.{LocalCall}
use Rattle.ubus_table.specs.Table.{Table, nobody}
use Rattle.ubus_table.specs.Refusal.{Step}
use Rattle.ubus_table.specs.Clients.{is_full}
use Rattle.ubus_table.specs.Served.{BusEvent, served, connect, leave}
use Rattle.ubus_send.specs.Fits.{fits}
use Rattle.ubus_send.specs.Out.{out_of}
use Rattle.ubus_broker.specs.declared.broker.Served.{Served}
use Rattle.ubus_broker.specs.Did.{table_of}
use Rattle.bus_clients.specs.declared.client_error.ClientError.{ClientError}
use Rattle.bus_clients.specs.declared.client_error.ClientError.TheVariants as error
use Rattle.bus_clients.specs.declared.script_bus.ScriptBus.{ScriptBus}
use Rattle.bus_clients.specs.Clients.{ScriptClient, client_at, without, new_client}
use Rattle.bus_clients.specs.Sends.{send_lines}

-- what the bus knows, without the place of its next event, and the clients of the script
pub record BusPart : Type 0 where
  pub table : Table
  pub clients : List ScriptClient

abbrev pub part_of : ScriptBus → BusPart
part_of bus = record { table = table_of bus.broker; clients = bus.clients.items }

-- before the first line
abbrev pub begun : Acl → BusPart
begun acl = record { table = nobody acl; clients = [] }

-- what comes of an event: the bus behind it, what is told, and the call that is handed out
pub record Came : Type 0 where
  pub part : BusPart
  pub told : List ℕ
  pub call : Option LocalCall

abbrev pub came : List ScriptClient → Step → Came
came clients step = record {
  part = record { table = record step.table { place = 0 }; clients = clients };
  told = send_lines clients (out_of step.sent);
  call = step.local;
}

-- an event at which the clients of the script stay
abbrev pub came_by : BusPart → BusEvent → Came
came_by part event = came part.clients (served fits part.table event)

-- what is told of a step of the code
abbrev pub lines_in : List ScriptClient → Served → List ℕ
lines_in clients done = send_lines clients done.out

-- this came of an event, and its lines were told
pub record IsTold (done : Came) (part : BusPart) (told told_now : List ℕ) : Type 0 where
  pub next : part ≡ done.part
  pub lines : told_now ≡ told ++ done.told

-- the same, and this call was handed out
pub record HasCome (done : Came) (part : BusPart) (told told_now : List ℕ) (call : Option LocalCall) : Type 0 where
  pub is : IsTold done part told told_now
  pub handed : call ≡ done.call

-- ---- clients that open and close

-- one more, which is told its number on the bus
abbrev pub joined : BusPart → ℕ → List ℕ → List ℕ → Came
joined part key user group =
    came (part.clients ++ new_client key part.table.next_client ∷ []) (served fits part.table (connect user group))

-- not where the script has it open, nor where the bus has as many as it may have
abbrev pub opened : BusPart → ℕ → List ℕ → List ℕ → Result Came ClientError
opened part key user group =
    if is_some (client_at part.clients key) then Err error.ClientOpen
    else (if is_full part.table then Err error.Full else Ok (joined part key user group))

-- a client of the script is not opened twice
twice : (table : Table) (user group : List ℕ)
    → opened (record { table = table; clients = new_client 1 1025 ∷ [] }) 1 user group ≡ Err error.ClientOpen
twice table user group = refl

abbrev pub closed_of : BusPart → ℕ → Option ScriptClient → Result Came ClientError
closed_of part key None = Err error.NoClient
closed_of part key (Some client) =
    Ok (came (without key part.clients) (served fits part.table (leave client.number)))

-- one less; nothing is told to it
abbrev pub closed : BusPart → ℕ → Result Came ClientError
closed part key = closed_of part key (client_at part.clients key)

-- nor is one closed that is not open
not_open : (table : Table) → closed (record { table = table; clients = new_client 1 1025 ∷ [] }) 2 ≡ Err error.NoClient
not_open table = refl

-- a refusal leaves the bus as it was, and tells nothing
pub record IsRefused {A : Type 0} (error : ClientError) (before after : BusPart) (told told_now : List ℕ)
    (result : Result A ClientError) : Type 0 where
  pub answer : result ≡ Err error
  pub same : after ≡ before
  pub silent : told_now ≡ told

-- it came so, or was refused so; only where nothing refuses it may there be no memory
abbrev pub Answers : {A : Type 0} → Result Came ClientError → BusPart → BusPart → List ℕ → List ℕ → Result A ClientError
    → Type 0
Answers (Err why) before after told told_now result = IsRefused why before after told told_now result
Answers (Ok done) before after told told_now (Ok ended) = IsTold done after told told_now
Answers (Ok done) before after told told_now (Err error.Memory) = ⊤
Answers (Ok done) before after told told_now (Err error.ClientOpen) = ⊥
Answers (Ok done) before after told told_now (Err error.NoClient) = ⊥
Answers (Ok done) before after told told_now (Err error.Full) = ⊥
