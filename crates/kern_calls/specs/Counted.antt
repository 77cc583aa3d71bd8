-- The calls of one object.
use Rattle.std.specs.Prelude.{Bool, false}
use Rattle.std.specs.Ordering.{eq_by_cmp}
use Rattle.kern_model.specs.declared.object.Object.{Object}
use Rattle.kern_model.specs.declared.object.Call.{Call}
use Rattle.kern_model.specs.declared.object.Call.TheVariants.{Put, Take}
use Rattle.kern_model.specs.ObjectOrder.{object_cmp}

-- a call takes the object
abbrev pub takes : Object → Call → Bool
takes o (Take x mtu mac) = eq_by_cmp object_cmp o x
takes o (Put x) = false

-- a call puts the object
abbrev pub puts : Object → Call → Bool
puts o (Put x) = eq_by_cmp object_cmp o x
puts o (Take x mtu mac) = false
