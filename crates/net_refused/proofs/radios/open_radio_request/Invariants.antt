use Rattle.std.proofs.Common.{◌≡◌, drop}
use Rattle.net_rules.specs.Inputs.{open_radio}
use Rattle.net_refused.proofs.radios.open_radio_request.Given as goal

-- the request is among those that are left
abbrev pub invariant-loop-asked : goal.invariant-loop-asked
invariant-loop-asked l = open_radio (drop l.asked-index l.requests) l.name ≡ open_radio l.requests l.name
