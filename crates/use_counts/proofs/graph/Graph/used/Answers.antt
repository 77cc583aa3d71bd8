use Rattle.std.proofs.Common.{arith, ap, length, take, drop, ◌<◌, ◌∙◌}
use Rattle.std.proofs.lemmas.List.{length-map}
use Rattle.use_counts.specs.declared.node.Node.{Node}
use Rattle.use_counts.specs.Held.{member_of}
use Rattle.use_counts.specs.Network.{Network, used}
use Rattle.use_counts.proofs.NetworkLemmas.{kept_used, calm_parts}
use Rattle.use_counts.proofs.graph.Graph.used.Goals as goal

pub returns : goal.returns
returns c =
    let nodes = c.self.inside.nodes in
    let edges = c.self.inside.topology.edges.items in
    let n = c.self.inside.fixed in
    let inv = c.self.invariant in
    let within : c.args.id < length nodes = omega (arith, c.requires, ap (λ (n : Network). length n.members) c.self.view_is, length-map nodes member_of) in
    ap (λ (n : Node). n.used) c.node.ensures ∙ kept_used (take n edges) (drop n edges) nodes inv.levels (calm_parts n edges nodes inv.rest) c.args.id within ∙ ap (λ n. used n c.args.id) c.self.view_is
