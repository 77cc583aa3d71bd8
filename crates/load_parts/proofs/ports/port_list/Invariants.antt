use Rattle.std.proofs.Common.{◌≡◌, ◌++◌, map, drop}
use Rattle.graph_rules.specs.Answers.{port_of}
use Rattle.net_view.specs.RadioPorts.{as_joined}
use Rattle.load_parts.proofs.ports.port_list.Given as goal

-- the ports so far, and those of the others
abbrev pub invariant-loop-join : goal.invariant-loop-join
invariant-loop-join l = map port_of l.list.items ++ map as_joined (drop l.join-index l.joined) ≡ map as_joined l.joined
