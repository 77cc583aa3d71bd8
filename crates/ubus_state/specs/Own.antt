-- The objects that are no client's.
use Rattle.std.specs.Prelude.{List, ◌∷◌}
use Rattle.ubus_table.specs.Table.{event_object, local_objects}
use Rattle.ubus_table.specs.declared.rows.Object.{Object}

-- the event object, and then the local objects
abbrev pub own_objects : List Object
own_objects = event_object ∷ local_objects
