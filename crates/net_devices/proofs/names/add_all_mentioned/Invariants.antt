use Rattle.std.proofs.Common.{◌≡◌, drop}
use Rattle.std.specs.List.{flat_map}
use Rattle.net_devices.specs.EachOnce.{with_names}
use Rattle.net_devices.specs.Names as spec
use Rattle.net_devices.proofs.names.add_all_mentioned.Given as goal

-- the names so far, with those that the other ports mention
abbrev pub invariant-loop-port : goal.invariant-loop-port
invariant-loop-port l = with_names l.names (flat_map (spec.mentioned l.said) (drop l.port-index l.ports)) ≡ with_names l.initial.names (flat_map (spec.mentioned l.said) l.ports)
