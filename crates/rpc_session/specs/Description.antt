-- How a session is told: its grants, its values, its seconds and its id.
use Rattle.std.specs.Prelude.{ℕ, ◌^◌, pos, List, [], ◌∷◌, codes, map, filter, nat_lt, ◌&&◌, if◌then◌else◌}
use Rattle.plane_words.specs.InOrder.{ordered}
use Rattle.blob_codec.specs.declared.blob.Blob.{Blob}
use Rattle.blob_codec.specs.declared.blob.Blob.TheVariants.{Array, Table, Str, I64, I32}
use Rattle.blob_codec.specs.declared.blob.Attr.{Attr}
use Rattle.rpc_session.specs.declared.grant.Grant.{Grant}
use Rattle.rpc_session.specs.declared.session.Session.{Session}
use Rattle.rpc_session.specs.Grant.{same_text}
use Rattle.rpc_session.specs.Session.{seconds_left}
use Rattle.rpc_session.specs.Arguments.{id_text}
use Rattle.rpc_session.specs.Values.{byte_order, in_order}

-- a value by name
abbrev pub named : List ℕ → Blob → Attr
named name value = record { name = name; value = value }

-- a function without a name
abbrev pub function_item : Grant → Attr
function_item grant = named [] (Str grant.function)

-- the functions of an object in a scope, as they were granted
abbrev pub functions : List Grant → List ℕ → List ℕ → List Attr
functions grants scope object =
    map function_item (filter (λ grant. same_text grant.scope scope && same_text grant.object object) grants)

-- the objects of a scope in byte order, each once
abbrev pub objects : List Grant → List ℕ → List (List ℕ)
objects grants scope =
    ordered byte_order (map (λ (grant : Grant). grant.object) (filter (λ grant. same_text grant.scope scope) grants))

-- an object with its functions
abbrev pub object_item : List Grant → List ℕ → List ℕ → Attr
object_item grants scope object = named object (Array (functions grants scope object))

-- the objects of a scope with their functions
abbrev pub object_items : List Grant → List ℕ → List Attr
object_items grants scope = map (object_item grants scope) (objects grants scope)

-- the scopes in byte order, each once
abbrev pub scopes : List Grant → List (List ℕ)
scopes grants = ordered byte_order (map (λ (grant : Grant). grant.scope) grants)

-- a scope with its objects
abbrev pub scope_item : List Grant → List ℕ → Attr
scope_item grants scope = named scope (Table (object_items grants scope))

-- the grants: by scope and object the functions
abbrev pub acls : List Grant → List Attr
acls grants = map (scope_item grants) (scopes grants)

-- a number, of 32 bits where it fits
abbrev pub number : ℕ → Blob
number n = if nat_lt n (2 ^ 31) then I32 (pos n) else I64 (pos n)

-- what `create` and `list` tell of a session: its values in byte order of their names
abbrev pub description : ℕ → Session → List Attr
description now session =
    named (codes "acls") (Table (acls session.grants))
    ∷ named (codes "data") (Table (in_order session.values))
    ∷ named (codes "expires") (number (seconds_left now session))
    ∷ named (codes "timeout") (number session.timeout)
    ∷ named (codes "ubus_rpc_session") (Str (id_text session.id))
    ∷ []
