-- The attributes of a JSON value, or its first fault.
use Rattle.std.specs.Prelude.{ℕ, ◌+◌, ◌-◌, ◌^◌, pos, neg_ℤ, int_lt, List, [], ◌∷◌, length, take, position, unwrap_or}
use Rattle.std.specs.Prelude.{nat_eq, nat_lt, Result, Ok, Err, if◌then◌else◌, decimal}
use Rattle.lanes_scan.specs.ByteTest.{is_nul}
use Rattle.serde_json.specs.Data.{Num, unsigned, negative, float, Data, null, boolean, number, string, array, object}
use Rattle.serde_json.specs.Data.{Items, no_items, item, Members, no_members, member}
use Rattle.blob_codec.specs.declared.blob.TheConstants.{MOST_LEVELS}
use Rattle.blob_codec.specs.declared.blob.Blob.{Blob}
use Rattle.blob_codec.specs.declared.blob.Blob.TheVariants.{Unspec, Array, Table, Str, I64, I32, I8}
use Rattle.blob_codec.specs.declared.blob.Attr.{Attr}
use Rattle.blob_json.specs.declared.json_error.JsonError.{JsonError}
use Rattle.blob_json.specs.declared.json_error.JsonError.TheVariants.{Fraction, Wide, Deep, NotTable}
use Rattle.blob_json.specs.JsonError.{escaped, inside}

-- a text without its first zero byte and all behind it
unfoldable pub before_nul : List ℕ → List ℕ
before_nul text = take (unwrap_or (position is_nul text) (length text)) text

-- a whole number, of 32 bits where it fits; `-0` and what is beyond 64 bits is a float
abbrev pub number_value : Num → Result Blob JsonError
number_value (unsigned n) =
    if nat_lt n (2 ^ 31) then Ok (I32 (pos n))
    else (if nat_lt n (2 ^ 63) then Ok (I64 (pos n)) else Err (Wide []))
number_value (negative z) = if int_lt z (neg_ℤ (pos (2 ^ 31))) then Ok (I64 z) else Ok (I32 z)
number_value (float x) = Err (Fraction [])

-- an array or a table of what is inside, if that has no fault
abbrev pub nested : (List Attr → Blob) → Result (List Attr) JsonError → Result Blob JsonError
nested kind (Ok attrs) = Ok (kind attrs)
nested kind (Err error) = Err error

-- A value under its name, in front of others, by its place among the parts: the fault of the first
-- of them that has one.
abbrev pub in_front : List ℕ → List ℕ → Result Blob JsonError → Result (List Attr) JsonError
    → Result (List Attr) JsonError
in_front part title (Err error) others = Err (inside part error)
in_front part title (Ok value) (Err error) = Err error
in_front part title (Ok value) (Ok others) = Ok (record { name = title; value = value } ∷ others)

abbrev mutual
  -- a value, where at most so many arrays and objects may stand within one another
  pub value_of : ℕ → Data → Result Blob JsonError
  value_of levels null = Ok Unspec
  value_of levels (boolean truth) = Ok (I8 (if truth then pos 1 else pos 0))
  value_of levels (number n) = number_value n
  value_of levels (string text) = Ok (Str (before_nul text))
  value_of levels (array items) =
      if nat_eq levels 0 then Err (Deep []) else nested Array (items_from (levels - 1) 0 items)
  value_of levels (object members) =
      if nat_eq levels 0 then Err (Deep []) else nested Table (members_of (levels - 1) members)

  -- items without names, of which the first has this index
  pub items_from : ℕ → ℕ → Items → Result (List Attr) JsonError
  items_from levels index no_items = Ok []
  items_from levels index (item first items) =
      in_front (decimal index) [] (value_of levels first) (items_from levels (index + 1) items)

  -- members by their names, in the order of these
  pub members_of : ℕ → Members → Result (List Attr) JsonError
  members_of levels no_members = Ok []
  members_of levels (member title first members) =
      in_front (escaped title) (before_nul title) (value_of levels first) (members_of levels members)

-- the attributes of an object
abbrev pub attrs_of : Data → Result (List Attr) JsonError
attrs_of null = Err NotTable
attrs_of (boolean truth) = Err NotTable
attrs_of (number n) = Err NotTable
attrs_of (string text) = Err NotTable
attrs_of (array items) = Err NotTable
attrs_of (object members) = members_of MOST_LEVELS members
