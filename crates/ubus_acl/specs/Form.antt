-- Which texts are access lists: JSON arrays of records (RFC 8259).
use Rattle.std.specs.Prelude.{ℕ, ◌+◌, ◌<◌, ◌≡◌, List, [], ◌∷◌, Bool, Option, Some, None, IsSome, Result, Ok, Err, ◌&&◌}
use Rattle.std.specs.Prelude.{is_none, codes, if◌then◌else◌}
use Rattle.std.specs.Option.{option_map, option_and_then}
use Rattle.std.specs.Str.{is_utf8}
use Rattle.serde_json.specs.Data.{Data, null, boolean, number, string, array, object, Items, no_items, item, Members}
use Rattle.serde_json.specs.Data.{no_members, member}
use Rattle.serde_json.specs.Find.{get, get_item, as_str}
use Rattle.serde_json.specs.Read.{read}
use Rattle.ubus_acl.specs.declared.access_error.AclError.{AclError}
use Rattle.ubus_acl.specs.declared.access_error.AclError.TheVariants.{BadJson, BadRecord}
use Rattle.ubus_acl.specs.declared.record.Access.{Access}
use Rattle.ubus_acl.specs.declared.record.Record.{Record}
use Rattle.ubus_acl.specs.declared.acl.Acl.{Acl}

-- the JSON value that the bytes are, if they are one
abbrev pub json_of : List ℕ → Option Data
json_of bytes = if is_utf8 bytes then read bytes else None

-- one more in front, where both are there
abbrev pub in_front : {X : Type 0} → Option X → Option (List X) → Option (List X)
in_front None others = None
in_front (Some first) None = None
in_front (Some first) (Some others) = Some (first ∷ others)

-- texts alone
abbrev pub texts : Items → Option (List (List ℕ))
texts no_items = Some []
texts (item first items) = in_front (as_str first) (texts items)

-- an array of texts
abbrev pub texts_of : Data → Option (List (List ℕ))
texts_of null = None
texts_of (boolean truth) = None
texts_of (number n) = None
texts_of (string text) = None
texts_of (array items) = texts items
texts_of (object parts) = None

-- an array of texts, empty where it is absent
abbrev pub texts_in : Option Data → Option (List (List ℕ))
texts_in None = Some []
texts_in (Some value) = texts_of value

-- a text that may be absent
abbrev pub text_in : Option Data → Option (Option (List ℕ))
text_in None = Some None
text_in (Some value) = option_map Some (as_str value)

-- an object with `methods`, an array of texts
abbrev pub methods_of : Data → Option (List (List ℕ))
methods_of value = option_and_then texts_of (get (codes "methods") value)

-- the methods of the objects of a pattern
abbrev pub access_to : List ℕ → Option (List (List ℕ)) → Option Access
access_to pattern methods = option_map (λ names. record { object = pattern; methods = names }) methods

-- methods by patterns of objects
abbrev pub methods : Members → Option (List Access)
methods no_members = Some []
methods (member pattern value others) = in_front (access_to pattern (methods_of value)) (methods others)

-- methods by patterns of objects, none where it is absent
abbrev pub access_in : Option Data → Option (List Access)
access_in None = Some []
access_in (Some null) = None
access_in (Some (boolean truth)) = None
access_in (Some (number n)) = None
access_in (Some (string text)) = None
access_in (Some (array items)) = None
access_in (Some (object parts)) = methods parts

-- A record is an object with `user` or `group` or both, texts; with `access`, methods by patterns of objects; and with
-- `publish`, `subscribe`, `send` and `listen`, arrays of texts. Those four and `access` may be absent.
abbrev pub record_of : Data → Option Record
record_of value =
    option_and_then (λ user.
    option_and_then (λ group.
    if is_none user && is_none group then None else
    option_and_then (λ access.
    option_and_then (λ publish.
    option_and_then (λ subscribe.
    option_and_then (λ send.
    option_map (λ listen. record {
      user = user;
      group = group;
      access = access;
      publish = publish;
      subscribe = subscribe;
      send = send;
      listen =
          listen;
    })
    (texts_in (get (codes "listen") value)))
    (texts_in (get (codes "send") value)))
    (texts_in (get (codes "subscribe") value)))
    (texts_in (get (codes "publish") value)))
    (access_in (get (codes "access") value)))
    (text_in (get (codes "group") value)))
    (text_in (get (codes "user") value))

-- a record, or the fault of the item with this index, in front of others
abbrev pub record_first : ℕ → Option Record → Result (List Record) AclError → Result (List Record) AclError
record_first index None others = Err (BadRecord index)
record_first index (Some first) (Ok others) = Ok (first ∷ others)
record_first index (Some first) (Err error) = Err error

-- the records that items are, of which the first has this index, or the first that is none
abbrev pub records_from : ℕ → Items → Result (List Record) AclError
records_from index no_items = Ok []
records_from index (item first items) = record_first index (record_of first) (records_from (index + 1) items)

-- the item with this index is there and no record, and each one before it is a record
pub record IsFirstBad (items : Items) (index : ℕ) : Type 0 where
  pub bad : (value : Data) × (get_item index items ≡ Some value) × (record_of value ≡ None)
  pub before : (i : ℕ) → i < index → (value : Data) × (get_item i items ≡ Some value) × IsSome (record_of value)

-- an access list of these records
abbrev pub list_of : Result (List Record) AclError → Result Acl AclError
list_of (Ok records) = Ok (record { records = records })
list_of (Err error) = Err error

-- the access list that a JSON value is
abbrev pub acl_in : Option Data → Result Acl AclError
acl_in None = Err BadJson
acl_in (Some null) = Err BadJson
acl_in (Some (boolean truth)) = Err BadJson
acl_in (Some (number n)) = Err BadJson
acl_in (Some (string text)) = Err BadJson
acl_in (Some (array items)) = list_of (records_from 0 items)
acl_in (Some (object parts)) = Err BadJson

-- the access list that a text is, or why it is none
abbrev pub acl_of : List ℕ → Result Acl AclError
acl_of text = acl_in (json_of text)
