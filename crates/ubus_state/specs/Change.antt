-- What a message changes.
use Rattle.std.specs.Prelude.{◌≡◌, ◌+◌, List, [], ◌∷◌, ◌++◌, remove, ⊤}
use Rattle.ubus_table.specs.Table.{Table, Call}
use Rattle.ubus_table.specs.Subscriptions.{without}
use Rattle.ubus_table.specs.Objects.{without_object}
use Rattle.ubus_state.specs.Calls.{call_of, calls_of}
use Rattle.ubus_state.specs.Paths.{IsFree}
use Rattle.ubus_state.specs.declared.change.Change.{Change}
use Rattle.ubus_state.specs.declared.change.Change.TheVariants.{Nothing, Adds, Removes, Subscribes, Unsubscribes}
use Rattle.ubus_state.specs.declared.change.Change.TheVariants.{Registers, Opens, OpensAll, Closes}

-- the table with more open calls
abbrev pub with_calls : Table → List Call → Table
with_calls table calls = record table { calls = table.calls ++ calls }

-- the table with a change
abbrev pub changed : Table → Change → Table
changed table Nothing = table
changed table (Adds object) = record table { objects = table.objects ++ object ∷ []; next_object = object.number + 1 }
changed table (Removes number) = without_object table number
changed table (Subscribes subscription) = record table { subscriptions = table.subscriptions ++ subscription ∷ [] }
changed table (Unsubscribes subscription) = record table { subscriptions = without table.subscriptions subscription }
changed table (Registers registration) = record table { registrations = table.registrations ++ registration ∷ [] }
changed table (Opens call) = record table { calls = table.calls ++ call_of call ∷ [] }
changed table (OpensAll calls) = with_calls table (calls_of calls.items)
changed table (Closes place) = record table { calls = remove table.calls place }

-- the change can be done: an object that is added has the next number, and a path that is free
abbrev pub IsPossible : Table → Change → Type 0
IsPossible table Nothing = ⊤
IsPossible table (Adds object) = (object.number ≡ table.next_object) × IsFree object.path table.objects
IsPossible table (Removes number) = ⊤
IsPossible table (Subscribes subscription) = ⊤
IsPossible table (Unsubscribes subscription) = ⊤
IsPossible table (Registers registration) = ⊤
IsPossible table (Opens call) = ⊤
IsPossible table (OpensAll calls) = ⊤
IsPossible table (Closes place) = ⊤
