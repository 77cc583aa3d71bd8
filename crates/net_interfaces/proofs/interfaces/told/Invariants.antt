use Rattle.std.proofs.Common.{◌≡◌, ◌++◌, drop}
use Rattle.net_interfaces.specs.Interfaces as spec
use Rattle.net_interfaces.proofs.interfaces.told.Given as goal

-- those so far, and then those of the other options
abbrev pub invariant-loop-option : goal.invariant-loop-option
invariant-loop-option l = l.told ++ spec.told (drop l.option-index l.options) ≡ spec.told l.options
