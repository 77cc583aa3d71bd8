-- How a program may order the calls between two sets.
use Rattle.std.specs.Prelude.{ℕ, ◌-◌}
use Rattle.kern_model.specs.declared.object.Call.{Call}
use Rattle.kern_model.specs.declared.object.Call.TheVariants.{Put, Take}
use Rattle.kern_model.specs.ObjectOrder.{Objects}
use Rattle.kern_model.specs.CallOrder.{height_of}

-- the number by which calls of one rank are ordered, where there are no more than `most` objects
abbrev pub height_number : ℕ → Objects → Objects → Call → ℕ
height_number most held wanted (Take o mtu mac) = most - height_of held o
height_number most held wanted (Put o) = height_of wanted o
