use Rattle.std.proofs.Common.{List, ◌++◌, map, take, sym, subst, rules}
use Rattle.std.specs.List.{filter_map}
use Rattle.net_rules.specs.Inputs.{facts_of}
use Rattle.net_rules.specs.RadioPorts.{RadioPort, joined}
use Rattle.net_view.specs.RadioPorts.{as_answered, AreJoins}
use Rattle.net_view.proofs.JoinLemmas.{joined_more}
use Rattle.net_view.proofs.radio_ports.joined_ports.Goals as goal

pub loop-answer-init : goal.loop-answer-init
loop-answer-init c = record { list = search rules; ports = λ q. search rules }

pub loop-answer-preserved : goal.loop-answer-preserved
loop-answer-preserved c =
    let before : List RadioPort = filter_map (joined (facts_of c.args.inputs.now)) (map as_answered (take c.loop-answer.answer-index c.args.answered.now)) in
    subst (λ (z : List RadioPort). AreJoins z c.add_join_of.new.joins)
    (sym (joined_more (joined (facts_of c.args.inputs.now)) as_answered c.args.answered.now c.loop-answer.answer-index c.answer-item.result c.loop-answer-test.true c.answer-item.is))
    (c.in_ok-add_join_of.ensures before c.loop-answer.invariant)
