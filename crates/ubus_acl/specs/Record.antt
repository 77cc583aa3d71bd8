-- What a record of an access list allows, and to whom.
use Rattle.std.specs.Prelude.{ℕ, List, Option, Some, None, Bool, false, ◌&&◌, ◌||◌, nat_eq}
use Rattle.std.specs.List.{list_any}
use Rattle.std.specs.Cmp.Lexicographic.{pointwise}
use Rattle.plane_words.specs.Pattern.{fits_front}
use Rattle.ubus_acl.specs.declared.record.Access.{Access}
use Rattle.ubus_acl.specs.declared.record.Record.{Record}

-- the texts have the same bytes
abbrev pub same_text : List ℕ → List ℕ → Bool
same_text = pointwise nat_eq

-- the record has this user, or this group
abbrev pub is_named : List ℕ → Option (List ℕ) → Bool
is_named client None = false
is_named client (Some name) = same_text name client

-- the record has the user of a client, or its group: one of them is enough
abbrev pub is_for : List ℕ → List ℕ → Record → Bool
is_for user group row = is_named user row.user || is_named group row.group

-- one of the patterns fits the text
abbrev pub some_fit : List (List ℕ) → List ℕ → Bool
some_fit patterns text = list_any (λ pattern. fits_front pattern text) patterns

-- the pattern of the objects fits the path, and one of those of the methods fits the method
abbrev pub is_allowed : List ℕ → List ℕ → Access → Bool
is_allowed object method access = fits_front access.object object && some_fit access.methods method

-- the record allows calls of a method of the objects of a path
abbrev pub allows_call : List ℕ → List ℕ → Record → Bool
allows_call object method row = list_any (is_allowed object method) row.access

-- the record allows objects of this path to be added
abbrev pub allows_publish : List ℕ → Record → Bool
allows_publish path row = some_fit row.publish path

-- the record allows subscriptions to objects of this path
abbrev pub allows_subscribe : List ℕ → Record → Bool
allows_subscribe path row = some_fit row.subscribe path

-- the record allows events of this id to be sent
abbrev pub allows_send : List ℕ → Record → Bool
allows_send id row = some_fit row.send id

-- the record allows events to be listened for by this pattern
abbrev pub allows_listen : List ℕ → Record → Bool
allows_listen pattern row = some_fit row.listen pattern

-- the record is for the user or the group, and allows it
abbrev pub lets : (Record → Bool) → List ℕ → List ℕ → Record → Bool
lets allows user group row = is_for user group row && allows row
