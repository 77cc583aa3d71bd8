-- Clients by the numbers that the script and the bus gave them.
use Rattle.std.specs.Prelude.{ℕ, ◌≡◌, ◌==◌, not, List, [], ◌∷◌, Bool, Option, filter, if◌then◌else◌, refl}
use Rattle.std.specs.List.{find}
use Rattle.std.specs.Option.{option_map}
use Rattle.ubus_frames.specs.Stream.{Stream, empty}
pub use Rattle.bus_clients.specs.declared.clients.ScriptClient.{ScriptClient}

abbrev pub has_key : ℕ → ScriptClient → Bool
has_key key client = client.key == key

abbrev pub has_number : ℕ → ScriptClient → Bool
has_number number client = client.number == number

-- the client to which the script gave this number
abbrev pub client_at : List ScriptClient → ℕ → Option ScriptClient
client_at clients key = find (has_key key) clients

-- the client to which the bus gave it
abbrev pub client_of : List ScriptClient → ℕ → Option ScriptClient
client_of clients number = find (has_number number) clients

-- the script's number of a client of the bus
abbrev pub key_of : List ScriptClient → ℕ → Option ℕ
key_of clients number = option_map (λ (client : ScriptClient). client.key) (client_of clients number)

-- the others
abbrev pub without : ℕ → List ScriptClient → List ScriptClient
without key clients = filter (λ client. not (has_key key client)) clients

-- what the client has sent is this now
abbrev pub with_stream : ℕ → Stream → List ScriptClient → List ScriptClient
with_stream key stream [] = []
with_stream key stream (client ∷ clients) =
    if has_key key client then record client { feeder = stream } ∷ clients
    else client ∷ with_stream key stream clients

-- one that is opened
abbrev pub new_client : ℕ → ℕ → ScriptClient
new_client key number = record { key = key; number = number; feeder = empty }

-- the script's client 7 is the bus's 1025
seven : key_of (new_client 6 1026 ∷ new_client 7 1025 ∷ []) 1025 ≡ Option.Some 7
seven = refl
