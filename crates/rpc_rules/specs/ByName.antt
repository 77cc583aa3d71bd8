-- Values in byte order of their names. Those of one name stay in their order.
use Rattle.std.specs.Prelude.{List, [], ◌∷◌, Bool, if◌then◌else◌}
use Rattle.std.specs.Ordering.{is_lt}
use Rattle.blob_codec.specs.declared.blob.Attr.{Attr}
use Rattle.rpc_session.specs.Values.{byte_order}

-- the name of one comes before that of the other
abbrev pub is_before : Attr → Attr → Bool
is_before one other = is_lt (byte_order one.name other.name)

-- a value in its place among values in order, in front of those of its name
abbrev pub put : Attr → List Attr → List Attr
put attr [] = attr ∷ []
put attr (first ∷ others) = if is_before first attr then first ∷ put attr others else attr ∷ first ∷ others

-- the values in order
abbrev pub by_name : List Attr → List Attr
by_name [] = []
by_name (attr ∷ attrs) = put attr (by_name attrs)
