use Rattle.std.proofs.Common.{subst, sym, ap, take, map, List, ◌≡◌, ◌∙◌}
use Rattle.use_counts.specs.declared.node.Edge.{Edge}
use Rattle.use_counts.specs.declared.node.Row.{Row}
use Rattle.use_counts.specs.Held.{member_of}
use Rattle.use_counts.specs.Network.{CanJoin, Network, loaded, row_of}
use Rattle.use_counts.specs.Order.{CanLoad}
use Rattle.use_counts.proofs.PortsLemmas.{loads_again, rows_again}
use Rattle.use_counts.proofs.graph.Graph.set_ports.Goals as goal

pub load-requires : goal.load-requires
load-requires c =
    let edges = c.self.inside.topology.edges.items in
    let n = c.self.inside.fixed in
    let ms = map member_of c.self.inside.nodes in
    let ports = c.args.ports.now in
    let join = subst (λ (net : Network). CanJoin net ports) (sym c.self.view_is) c.requires in
    let fixed : c.split_at.result.0.now ≡ take n edges = c.split_at.ensures.front ∙ ap (take n) c.deref.ensures.value in
    let rows : c.deref-2.result.now ≡ map row_of ms = c.deref-2.ensures.value ∙ c.in_ok-rows.ensures in
    subst (λ (rs : List Row). CanLoad rs c.split_at.result.0.now ports) (sym rows)
    (subst (λ (es : List Edge). CanLoad (map row_of ms) es ports) (sym fixed) (loads_again n edges ports ms c.self.invariant.levels join))

pub repeat-requires-clause-rows : goal.repeat-requires-clause-rows
repeat-requires-clause-rows c =
    let ms = map member_of c.self.inside.nodes in
    let rows : c.deref-2.result.now ≡ map row_of ms = c.deref-2.ensures.value ∙ c.in_ok-rows.ensures in
    ap (λ (net : Network). map row_of net.members) c.in_ok-graph.ensures ∙ ap (λ rs. map row_of (map loaded rs)) rows ∙ rows_again ms ∙ ap (λ (net : Network). map row_of net.members) c.self.view_is
