use Rattle.std.proofs.Common.{arith, ap, sym, length, ◌<◌, ◌∙◌}
use Rattle.std.proofs.lemmas.List.{length-map}
use Rattle.use_counts.specs.declared.node.Node.{Node}
use Rattle.use_counts.specs.Held.{Member, member_of}
use Rattle.use_counts.specs.Network.{Network, member_at}
use Rattle.use_counts.proofs.NetworkLemmas.{at_points}
use Rattle.use_counts.proofs.graph.Graph.present.Goals as goal

pub returns : goal.returns
returns c =
    let nodes = c.self.inside.nodes in
    let within : c.args.id < length nodes = omega (arith, c.requires, ap (λ (n : Network). length n.members) c.self.view_is, length-map nodes member_of) in
    ap (λ (n : Node). n.present) c.node.ensures ∙ sym (ap (λ (p : Member). p.present) (at_points nodes c.args.id within)) ∙ ap (λ (n : Network). (member_at n.members c.args.id).present) c.self.view_is
