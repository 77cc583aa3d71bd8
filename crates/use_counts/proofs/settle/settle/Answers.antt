use Rattle.std.proofs.Common.{length, vec_len}
use Rattle.std.proofs.lemmas.List.Elements.{recursion_from_All}
use Rattle.use_counts.specs.NodeRule.{rank_of}
use Rattle.use_counts.specs.Held.{RunsUp, AllRunUp}
use Rattle.use_counts.proofs.SettleLemmas.{settles}
use Rattle.use_counts.proofs.UseLemmas.{marked_more}
use Rattle.use_counts.proofs.settle.settle.Goals as goal

pub returns-clause-settles : goal.returns-clause-settles
returns-clause-settles g c =
    let topology = c.args.topology.now in
    let edges = topology.edges.items in
    let rank = rank_of topology.ranks.items in
    let stand : AllRunUp rank (vec_len topology.uppers) edges = recursion_from_All (λ e. RunsUp rank (vec_len topology.uppers) e.lower e.upper) edges topology.stand in
    settles rank (vec_len topology.uppers) (length topology.order.items) edges c.args.nodes.now c.pass_up.new.nodes c.pass_down.new.nodes c.args.steps.now c.pass_up.new.steps c.pass_down.new.steps stand c.requires.ranks c.pass_up.ensures.up
    c.pass_down.ensures.down

pub returns-clause-uses : goal.returns-clause-uses
returns-clause-uses g c = marked_more c.args.nodes.now c.pass_up.new.nodes c.pass_down.new.nodes c.args.uses.now c.pass_up.new.uses c.pass_down.new.uses c.pass_up.ensures.uses c.pass_down.ensures.uses
