use Rattle.std.proofs.Common.{ap, sym, ◌∙◌}
use Rattle.kern_model.specs.ObjectOrder.{Objects, set_of}
use Rattle.kern_calls.specs.Due.{due_count}
use Rattle.kern_calls.proofs.CountLemmas.{set_of_items}
use Rattle.net_rebuild.specs.SettlingState.{held_of}
use Rattle.net_rules.specs.Moment.{want_of}
use Rattle.net_rebuild.specs.InStep.{inputs_of}
use Rattle.net_plane.specs.Network.{Network}
use Rattle.net_plane.proofs.SettledLemmas.{wants_seen}
use Rattle.net_plane.proofs.net.Net.due.Goals as goal

pub due-requires : goal.due-requires
due-requires c = c.self.invariant.ready

pub returns : goal.returns
returns c =
    let f = c.self.inside.follower in
    let kept = c.self.invariant in
    let beside = c.are_beside.ensures in
    let wants = wants_seen (inputs_of f) f.settling f.notices.items kept.history beside.beside beside.gifts in
    c.due.ensures
    ∙ ap (due_count (held_of f.settling)) wants
    ∙ ap (λ (h : Objects). due_count h (want_of (inputs_of f))) (sym (set_of_items (held_of f.settling)))
    ∙ ap (λ (network : Network). due_count (set_of network.held) (want_of network.inputs)) c.self.view_is
