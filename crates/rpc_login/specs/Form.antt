-- Which texts are groups of grants: JSON arrays (RFC 8259) of what access files of OpenWrt's rpcd hold.
use Rattle.std.specs.Prelude.{ℕ, ◌+◌, ◌<◌, ◌≡◌, List, [], ◌∷◌, ◌++◌, Bool, true, false, Option, Some, None, IsSome}
use Rattle.std.specs.Prelude.{Result, Ok, Err, codes, if◌then◌else◌}
use Rattle.std.specs.Option.{option_map}
use Rattle.serde_json.specs.Data.{Data, null, boolean, number, string, array, object, Items, no_items, item, Members}
use Rattle.serde_json.specs.Data.{no_members, member}
use Rattle.serde_json.specs.Find.{get, get_item, as_str}
use Rattle.rpc_session.specs.Grant.{grant_of}
use Rattle.rpc_session.specs.declared.grant.Grant.{Grant}
use Rattle.ubus_acl.specs.Form.{json_of, in_front}
use Rattle.rpc_login.specs.declared.group.Perm.{Perm}
use Rattle.rpc_login.specs.declared.group.Group.{Group}
use Rattle.rpc_login.specs.declared.group.Groups.{Groups}
use Rattle.rpc_login.specs.declared.group_error.GroupError.{GroupError}
use Rattle.rpc_login.specs.declared.group_error.GroupError.TheVariants.{BadJson, BadGroup}

-- the name of a part of a group
abbrev pub part_name : Bool → List ℕ
part_name write = if write then codes "write" else codes "read"

-- The grant of a text in a scope: the text is a function of what it stands under. Where it stands under nothing, it is
-- itself what may be used, and the name of the part the function.
abbrev pub grant_for : Bool → List ℕ → Option (List ℕ) → List ℕ → Grant
grant_for write scope None text = grant_of scope text (part_name write)
grant_for write scope (Some target) text = grant_of scope target text

abbrev pub perm_of : Bool → List ℕ → Option (List ℕ) → List ℕ → Perm
perm_of write scope under text = record { write = write; grant = grant_for write scope under text }

-- the perm of a part that a group has by its name
abbrev pub own_perm : Bool → List ℕ → Perm
own_perm write name = perm_of write (codes "access-group") None name

-- two lists as one, where both are there
abbrev pub joined : {X : Type 0} → Option (List X) → Option (List X) → Option (List X)
joined None others = None
joined (Some first) None = None
joined (Some first) (Some others) = Some (first ++ others)

-- the perms of texts
abbrev pub texts : Bool → List ℕ → Option (List ℕ) → Items → Option (List Perm)
texts write scope under no_items = Some []
texts write scope under (item first items) =
    in_front (option_map (perm_of write scope under) (as_str first)) (texts write scope under items)

-- the perms of an array of texts
abbrev pub array_of_texts : Bool → List ℕ → Option (List ℕ) → Data → Option (List Perm)
array_of_texts write scope under null = None
array_of_texts write scope under (boolean truth) = None
array_of_texts write scope under (number n) = None
array_of_texts write scope under (string text) = None
array_of_texts write scope under (array items) = texts write scope under items
array_of_texts write scope under (object parts) = None

-- the perms of the functions of objects
abbrev pub objects : Bool → List ℕ → Members → Option (List Perm)
objects write scope no_members = Some []
objects write scope (member name value others) =
    joined (array_of_texts write scope (Some name) value) (objects write scope others)

-- the perms of a scope: an array of texts, or an object of such arrays
abbrev pub scope_of : Bool → List ℕ → Data → Option (List Perm)
scope_of write scope null = None
scope_of write scope (boolean truth) = None
scope_of write scope (number n) = None
scope_of write scope (string text) = None
scope_of write scope (array items) = texts write scope None items
scope_of write scope (object parts) = objects write scope parts

-- the perms of scopes
abbrev pub scopes : Bool → Members → Option (List Perm)
scopes write no_members = Some []
scopes write (member scope value others) = joined (scope_of write scope value) (scopes write others)

-- the perms of a part, none where it is absent
abbrev pub part_in : Bool → Option Data → Option (List Perm)
part_in write None = Some []
part_in write (Some null) = None
part_in write (Some (boolean truth)) = None
part_in write (Some (number n)) = None
part_in write (Some (string text)) = None
part_in write (Some (array items)) = None
part_in write (Some (object parts)) = scopes write parts

-- the perms of a part of the group of a name, the one of its name last
abbrev pub part_of : List ℕ → Bool → Option Data → Option (List Perm)
part_of name write value =
    option_map (λ perms. perms ++ own_perm write name ∷ []) (part_in write value)

-- a group of these parts
abbrev pub group_with : List ℕ → Option (List Perm) → Option Group
group_with name perms = option_map (λ all. record { name = name; perms = all }) perms

-- a group is an object, of which only `read` and `write` are looked at
abbrev pub group_of : List ℕ → Data → Option Group
group_of name null = None
group_of name (boolean truth) = None
group_of name (number n) = None
group_of name (string text) = None
group_of name (array items) = None
group_of name (object parts) = group_with name
    (joined (part_of name false (get (codes "read") (object parts)))
    (part_of name true (get (codes "write") (object parts))))

-- groups by their names
abbrev pub named_groups : Members → Option (List Group)
named_groups no_members = Some []
named_groups (member name value others) = in_front (group_of name value) (named_groups others)

-- what an access file holds: an object of groups
abbrev pub file_of : Data → Option (List Group)
file_of null = None
file_of (boolean truth) = None
file_of (number n) = None
file_of (string text) = None
file_of (array items) = None
file_of (object parts) = named_groups parts

-- the groups of an element, or the fault of the element with this index, in front of others
abbrev pub file_first : ℕ → Option (List Group) → Result (List Group) GroupError → Result (List Group) GroupError
file_first index None others = Err (BadGroup index)
file_first index (Some first) (Ok others) = Ok (first ++ others)
file_first index (Some first) (Err error) = Err error

-- the groups of elements, of which the first has this index, or the first of another form
abbrev pub groups_from : ℕ → Items → Result (List Group) GroupError
groups_from index no_items = Ok []
groups_from index (item first items) = file_first index (file_of first) (groups_from (index + 1) items)

-- the element with this index is there and of another form, and each one before it is of the form
pub record IsFirstBad (items : Items) (index : ℕ) : Type 0 where
  pub bad : (value : Data) × (get_item index items ≡ Some value) × (file_of value ≡ None)
  pub before : (i : ℕ) → i < index → (value : Data) × (get_item i items ≡ Some value) × IsSome (file_of value)

abbrev pub list_of : Result (List Group) GroupError → Result Groups GroupError
list_of (Ok groups) = Ok (record { groups = groups })
list_of (Err error) = Err error

-- the groups that a JSON value is
abbrev pub groups_in : Option Data → Result Groups GroupError
groups_in None = Err BadJson
groups_in (Some null) = Err BadJson
groups_in (Some (boolean truth)) = Err BadJson
groups_in (Some (number n)) = Err BadJson
groups_in (Some (string text)) = Err BadJson
groups_in (Some (array items)) = list_of (groups_from 0 items)
groups_in (Some (object parts)) = Err BadJson

-- the groups that a text is, or why it is none
abbrev pub groups_of : List ℕ → Result Groups GroupError
groups_of text = groups_in (json_of text)
