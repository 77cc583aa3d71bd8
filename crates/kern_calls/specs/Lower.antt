-- The objects below addresses and routes.
use Rattle.std.specs.Prelude.{Bool, true, false}
use Rattle.std.specs.FinSet as set
use Rattle.kern_model.specs.declared.object.Object.{Object}
use Rattle.kern_model.specs.declared.object.Object.TheVariants as object
use Rattle.kern_model.specs.declared.object.Call.{Call}
use Rattle.kern_model.specs.ObjectOrder.{Objects}
use Rattle.kern_model.specs.Kernel.{object_of}

-- neither an address nor a route
abbrev pub is_lower : Object → Bool
is_lower (object.Address dev cidr) = false
is_lower (object.Route r) = false
is_lower _ = true

-- the set without addresses and routes
abbrev pub lower_part : Objects → Objects
lower_part objects = set.retain objects is_lower

-- a call of such an object
abbrev pub is_lower_call : Call → Bool
is_lower_call call = is_lower (object_of call)
