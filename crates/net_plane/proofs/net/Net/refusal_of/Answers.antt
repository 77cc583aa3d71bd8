use Rattle.std.proofs.Common.{ap, ◌∙◌}
use Rattle.kern_model.specs.ObjectOrder.{Objects}
use Rattle.net_rules.specs.declared.event.Event.TheVariants as event
use Rattle.net_rules.specs.Refusal.{is_held_link}
use Rattle.net_rebuild.proofs.LowerLemmas.{links_lower}
use Rattle.net_rebuild.specs.SettlingState.{held_of}
use Rattle.net_rebuild.proofs.LentLemmas.{holds_below}
use Rattle.known_inputs.specs.Steps.{name_of}
use Rattle.net_plane.proofs.SeenLemmas.{refusal_is}
use Rattle.net_plane.proofs.net.Net.refusal_of.Goals as goal

pub device_refusal-requires : goal.device_refusal-requires
device_refusal-requires c = c.self.invariant.states.tied.reach

pub returns : goal.returns
returns c =
    let f = c.self.inside.follower in
    let name = name_of c.args.event.now in
    let kept = c.self.invariant in
    let held = holds_below f.settling c.are_beside.ensures.gifts kept.ready.lower in
    let link = c.holds_link-is_link_held.ensures ∙ ap (is_held_link f.settling.graph.held) c.name_of.ensures
    ∙ ap (λ (h : Objects). is_held_link h name) held ∙ links_lower (held_of f.settling) name in
    c.device_refusal.ensures (held_of f.settling) link
    ∙ refusal_is c.args.self.now f c.self.view_is (event.Device c.args.event.now)
