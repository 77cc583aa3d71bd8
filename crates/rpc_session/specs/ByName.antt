-- Values by their names, as the program keeps them.
use Rattle.std.specs.Prelude.{ℕ, ◌≡◌, List, map}
use Rattle.std.specs.BTreeMap.{BTreeMap, IsOrdered}
use Rattle.blob_codec.specs.declared.blob.Blob.{Blob}
use Rattle.blob_codec.specs.declared.blob.Attr.{Attr}
use Rattle.rpc_session.specs.Values.{byte_order}

-- each value with its name
abbrev pub named_values : List Attr → List (List ℕ × Blob)
named_values attrs = map (λ (attr : Attr). (attr.name, attr.value)) attrs

-- the map has these values, each at its name
pub record IsByName (attrs : List Attr) (by_name : BTreeMap (List ℕ) Blob) : Type 0 where
  pub entries : by_name.entries ≡ named_values attrs
  pub ordered : IsOrdered byte_order by_name
