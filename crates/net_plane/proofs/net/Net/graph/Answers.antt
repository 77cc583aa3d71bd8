use Rattle.std.proofs.Common.{sym, subst}
use Rattle.net_rules.proofs.HistoryLemmas.{orderly}
use Rattle.graph_rules.specs.State.{State}
use Rattle.net_rebuild.specs.InStep.{inputs_of}
use Rattle.net_plane.specs.Network.{Network}
use Rattle.net_plane.specs.Lent.{Lends}
use Rattle.net_plane.specs.Seen.{network_of}
use Rattle.net_plane.proofs.LentLemmas.{lends}
use Rattle.net_plane.proofs.net.Net.graph.Goals as goal

pub returns : goal.returns
returns c =
    let f = c.self.inside.follower in
    let kept = c.self.invariant in
    let beside = c.are_beside.ensures in
    subst (λ (network : Network). Lends network c.graph.result.now) c.self.view_is
    (subst (λ (s : State). Lends (network_of f) s) (sym c.graph.ensures)
    (lends (inputs_of f) f.settling f.notices.items (orderly _ kept.history).sound beside.beside beside.gifts kept.ready.lower))
