-- What the bus knows.
use Rattle.std.specs.Prelude.{ℕ, ◌≡◌, List, [], ◌∷◌, ◌++◌, Bool, false, Option, Some, None, ◌==◌, ◌&&◌, is_some, codes}
use Rattle.std.specs.Prelude.{nat_eq, unwrap_or}
use Rattle.std.specs.List.{find, list_any}
use Rattle.std.specs.Cmp.Lexicographic.{pointwise}
use Rattle.blob_codec.specs.declared.blob.Attr.{Attr}
use Rattle.ubus_acl.specs.declared.acl.Acl.{Acl}
pub use Rattle.ubus_table.specs.declared.rows.Client.{Client}
pub use Rattle.ubus_table.specs.declared.rows.Object.{Object}
pub use Rattle.ubus_table.specs.declared.rows.Subscription.{Subscription}
pub use Rattle.ubus_table.specs.declared.rows.Registration.{Registration}

-- A call that was passed on and is not answered yet. The place is that of its message: how many events were before it.
pub record Call : Type 0 where
  pub place : ℕ
  pub caller : ℕ
  pub seq : ℕ
  pub object : ℕ
  pub no_reply : Bool

pub record Table : Type 0 where
  pub place : ℕ  -- of the next event: how many were before it
  pub acl : Acl
  pub clients : List Client
  pub next_client : ℕ
  pub objects : List Object  -- those of clients, as they were added: by rising number
  pub next_object : ℕ
  pub subscriptions : List Subscription
  pub registrations : List Registration
  pub calls : List Call  -- as they were opened

-- the numbers of clients and of their objects begin here, and end here
abbrev pub first_number : ℕ
first_number = 1025

abbrev pub last_number : ℕ
last_number = 4294967295

abbrev pub most_clients : ℕ
most_clients = 256

abbrev pub most_objects : ℕ
most_objects = 4096

-- before the first event
abbrev pub nobody : Acl → Table
nobody acl = record {
  place = 0;
  acl = acl;
  clients = [];
  next_client = first_number;
  objects = [];
  next_object = first_number;
  subscriptions = [];
  registrations = [];
  calls = [];
}

-- the texts have the same bytes
abbrev pub same_text : List ℕ → List ℕ → Bool
same_text = pointwise nat_eq

-- the owner of objects that are no client's
abbrev pub no_client : ℕ
no_client = 0

-- the event object has no path and no type
abbrev pub event_object : Object
event_object = record { number = 1; owner = no_client; path = None; objtype = 0; signature = [] }

-- a local object has its number as type, and an empty signature
abbrev pub local_object : ℕ → List ℕ → Object
local_object number path = record
    { number = number; owner = no_client; path = Some path; objtype = number; signature = [] }

abbrev pub local_objects : List Object
local_objects =
    local_object 2 (codes "session") ∷ local_object 3 (codes "uci") ∷ local_object 4 (codes "network")
    ∷ local_object 5 (codes "network.device") ∷ local_object 6 (codes "network.interface")
    ∷ local_object 7 (codes "network.wireless") ∷ []

-- the objects that have a type
abbrev pub typed : Table → List Object
typed table = local_objects ++ table.objects

abbrev pub has_number : ℕ → Object → Bool
has_number number object = object.number == number

-- the object of a number
abbrev pub object_of : Table → ℕ → Option Object
object_of table number = find (has_number number) (event_object ∷ typed table)

abbrev pub client_of : Table → ℕ → Option Client
client_of table number = find (λ (client : Client). client.number == number) table.clients

abbrev pub is_connected : Table → ℕ → Bool
is_connected table number = list_any (λ (client : Client). client.number == number) table.clients

abbrev pub is_local : ℕ → Bool
is_local number = list_any (has_number number) local_objects

-- the path of an object, empty where it has none
abbrev pub path_of : Object → List ℕ
path_of object = unwrap_or object.path []

-- the path is that of an object
abbrev pub is_path_of : List ℕ → Option (List ℕ) → Bool
is_path_of path None = false
is_path_of path (Some other) = same_text other path

-- an object has the path
abbrev pub is_taken : Table → List ℕ → Bool
is_taken table path = list_any (λ object. is_path_of path object.path) (typed table)

-- an object with this type
abbrev pub of_type : Table → ℕ → Option Object
of_type table objtype = find (λ (object : Object). object.objtype == objtype) (typed table)

-- the owner of an object
abbrev pub owner_in : Option Object → Option ℕ
owner_in None = None
owner_in (Some object) = Some object.owner

abbrev pub owner_of : Table → ℕ → Option ℕ
owner_of table number = owner_in (object_of table number)

-- the object is the client's
abbrev pub is_owner : ℕ → Option ℕ → Bool
is_owner client None = false
is_owner client (Some owner) = owner == client

abbrev pub is_owned : Table → ℕ → ℕ → Bool
is_owned table number client = is_owner client (owner_of table number)
