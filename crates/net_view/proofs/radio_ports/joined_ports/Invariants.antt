use Rattle.std.proofs.Common.{map, take}
use Rattle.std.specs.List.{filter_map}
use Rattle.net_rules.specs.RadioPorts.{joined}
use Rattle.net_rules.specs.Inputs.{facts_of}
use Rattle.net_view.specs.RadioPorts.{as_answered, AreJoins}
use Rattle.net_view.proofs.radio_ports.joined_ports.Given as goal

-- the ports are those of the answers so far
abbrev pub invariant-loop-answer : goal.invariant-loop-answer
invariant-loop-answer l = AreJoins (filter_map (joined (facts_of l.inputs)) (map as_answered (take l.answer-index l.answered))) l.joins
