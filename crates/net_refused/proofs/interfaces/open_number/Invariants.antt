use Rattle.std.proofs.Common.{◌≡◌, drop}
use Rattle.net_rules.specs.Inputs.{open_interface}
use Rattle.net_refused.proofs.interfaces.open_number.Given as goal

-- the request is among those that are left
abbrev pub invariant-loop-asked : goal.invariant-loop-asked
invariant-loop-asked l = open_interface (drop l.asked-index l.requests) l.interface ≡ open_interface l.requests l.interface
