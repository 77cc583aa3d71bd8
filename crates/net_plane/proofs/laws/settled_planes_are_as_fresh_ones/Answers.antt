use Rattle.std.proofs.Common.{ap, ◌∙◌}
use Rattle.net_rules.specs.Fresh.{fresh_start}
use Rattle.net_rules.specs.Moment.{want_of}
use Rattle.net_plane.proofs.HistoryLemmas.{inputs_follow, settled_holds, as_fresh}
use Rattle.net_plane.proofs.laws.settled_planes_are_as_fresh_ones.Goals as goal

pub returns-clause-inputs : goal.returns-clause-inputs
returns-clause-inputs c = inputs_follow

pub returns-clause-wanted : goal.returns-clause-wanted
returns-clause-wanted c events now became none = settled_holds events now became none ∙ ap want_of (inputs_follow events now became)

pub returns-clause-fresh : goal.returns-clause-fresh
returns-clause-fresh c events now became none =
    settled_holds events now became none ∙ as_fresh events now became ∙ ap (λ i. want_of (fresh_start i)) (inputs_follow events now became)
