-- Addresses and routes, which stand above all other objects, and the calls of these.
use Rattle.std.specs.Prelude.{Bool, false, not}
use Rattle.std.specs.FinSet as set
use Rattle.kern_model.specs.declared.object.Object.{Object}
use Rattle.kern_model.specs.declared.object.Call.{Call}
use Rattle.kern_model.specs.declared.object.Call.TheVariants.{Put, Take}
use Rattle.kern_model.specs.ObjectOrder.{Objects}
use Rattle.kern_calls.specs.Lower.{is_lower}

-- an address or a route
abbrev pub is_upper : Object → Bool
is_upper o = not (is_lower o)

-- the addresses and routes of a set
abbrev pub upper_part : Objects → Objects
upper_part objects = set.retain objects is_upper

-- the take of an address or a route
abbrev pub is_upper_take : Call → Bool
is_upper_take (Take o mtu mac) = is_upper o
is_upper_take (Put o) = false

-- the put of an address or a route
abbrev pub is_upper_put : Call → Bool
is_upper_put (Put o) = is_upper o
is_upper_put (Take o mtu mac) = false
