-- Rows but those of some objects.
use Rattle.std.specs.Prelude.{ℕ, ◌==◌, List, Bool, not, filter}
use Rattle.std.specs.List.{list_any}
use Rattle.ubus_table.specs.declared.rows.Object.{Object}
use Rattle.ubus_table.specs.declared.rows.Registration.{Registration}
use Rattle.ubus_table.specs.Table.{Call}

abbrev pub is_among : List ℕ → ℕ → Bool
is_among numbers number = list_any (λ (n : ℕ). n == number) numbers

-- the objects but those of these numbers
abbrev pub objects_but : List ℕ → List Object → List Object
objects_but numbers objects = filter (λ (object : Object). not (is_among numbers object.number)) objects

-- the registrations but those of the objects of these numbers
abbrev pub registrations_but : List ℕ → List Registration → List Registration
registrations_but numbers registrations = filter (λ (r : Registration). not (is_among numbers r.object)) registrations

-- the open calls but those on the objects of these numbers
abbrev pub calls_but : List ℕ → List Call → List Call
calls_but numbers calls = filter (λ (call : Call). not (is_among numbers call.object)) calls
