use Rattle.std.proofs.Common.{◌≡◌, ◌++◌, drop}
use Rattle.std.specs.List.{filter_map}
use Rattle.net_view.specs.declared.radio_ports.PortJoin.{PortJoin}
use Rattle.net_view.specs.RadioPorts.{as_joined}
use Rattle.load_parts.specs.Further.{further_port}
use Rattle.load_parts.proofs.names.add_ports.Given as goal

-- the names so far, and those of the others
abbrev pub invariant-loop-join : goal.invariant-loop-join
invariant-loop-join l = l.names.items ++ filter_map (λ (join : PortJoin). further_port l.inputs (as_joined join)) (drop l.join-index l.joined) ≡ l.initial.names.items
    ++ filter_map (λ (join : PortJoin). further_port l.inputs (as_joined join)) l.joined
