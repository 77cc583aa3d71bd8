use Rattle.std.proofs.Common.{List, ap, sym, subst, ◌∙◌}
use Rattle.plane_words.specs.Growth.{Grows}
use Rattle.kern_model.specs.declared.object.Call.{Call}
use Rattle.net_settle.specs.Outside.{outside_of}
use Rattle.net_rebuild.proofs.SettlingStateLemmas.{beside_then}
use Rattle.net_rebuild.specs.InStep.{inputs_of}
use Rattle.net_rebuild.specs.SettlingState.{held_of}
use Rattle.net_plane.specs.Network.{Network, IsOf, calls_of}
use Rattle.net_plane.specs.Settled.{Settles, HasMade}
use Rattle.net_plane.proofs.MomentLemmas.{fresh_same}
use Rattle.net_plane.proofs.SettledLemmas.{seen, holds_as, is_of, history_now, settles, has_made, wants_seen, on_told, in_step}
use Rattle.net_plane.proofs.net.Net.settle.Goals as goal

pub settle-ended-requires-clause-of : goal.settle-ended-requires-clause-of
settle-ended-requires-clause-of g c =
    let f = c.self.inside.follower in
    holds_as g.K.Kernel c.args.kernel.now (inputs_of f) f.settling f.notices.items c.are_beside.ensures.beside (subst (IsOf g.K.Kernel c.args.kernel.now) (sym c.self.view_is) c.requires)

pub settle-ended-requires-clause-ready : goal.settle-ended-requires-clause-ready
settle-ended-requires-clause-ready g c = c.self.invariant.ready

pub invariant_of-self : goal.invariant_of-self
invariant_of-self g c =
    let f = c.self.inside.follower in
    let ended = c.settle-ended.ensures in
    let beside = c.are_beside.ensures in
    let held = holds_as g.K.Kernel c.args.kernel.now (inputs_of f) f.settling f.notices.items beside.beside (subst (IsOf g.K.Kernel c.args.kernel.now) (sym c.self.view_is) c.requires) in
    in_step f c.settle-ended.new.self c.self.invariant
    (history_now (inputs_of f) f.settling c.settle-ended.new.self f.notices.items c.self.invariant.history beside.beside beside.gifts
    (outside_of g.O.Sink g.K.Kernel c.args.out.now c.args.kernel.now) (outside_of g.O.Sink g.K.Kernel c.settle-ended.new.out c.settle-ended.new.kernel) c.settle-ended.result ended.ends held.objects ended.of.objects)
    ended.stays ended.ready

pub returns-clause-settles : goal.returns-clause-settles
returns-clause-settles g c =
    let f = c.self.inside.follower in
    let ended = c.settle-ended.ensures in
    let beside = c.are_beside.ensures in
    let first = outside_of g.O.Sink g.K.Kernel c.args.out.now c.args.kernel.now in
    let last = outside_of g.O.Sink g.K.Kernel c.settle-ended.new.out c.settle-ended.new.kernel in
    let held = holds_as g.K.Kernel c.args.kernel.now (inputs_of f) f.settling f.notices.items beside.beside (subst (IsOf g.K.Kernel c.args.kernel.now) (sym c.self.view_is) c.requires) in
    let now : Network = seen (inputs_of f) c.settle-ended.new.self f.notices.items in
    subst (λ (n : Network). Settles (calls_of n) (calls_of now) first last c.told.result) c.self.view_is
    (settles (inputs_of f) f.settling c.settle-ended.new.self f.notices.items c.self.invariant.history beside.beside beside.gifts first last c.settle-ended.result ended.ends held.objects ended.of.objects
    (beside_then (inputs_of f) f.settling c.settle-ended.new.self beside.beside ended.stays) c.are_gifts.ensures c.told.result c.told.ensures)

pub returns-clause-made : goal.returns-clause-made
returns-clause-made g c =
    let f = c.self.inside.follower in
    let ended = c.settle-ended.ensures in
    let beside = c.are_beside.ensures in
    let first = outside_of g.O.Sink g.K.Kernel c.args.out.now c.args.kernel.now in
    let last = outside_of g.O.Sink g.K.Kernel c.settle-ended.new.out c.settle-ended.new.kernel in
    let held = holds_as g.K.Kernel c.args.kernel.now (inputs_of f) f.settling f.notices.items beside.beside (subst (IsOf g.K.Kernel c.args.kernel.now) (sym c.self.view_is) c.requires) in
    let now : Network = seen (inputs_of f) c.settle-ended.new.self f.notices.items in
    subst (λ (n : Network). (made : List Call) × HasMade made n now × Grows (g.K.Kernel.calls c.args.kernel.now) (g.K.Kernel.calls c.settle-ended.new.kernel) made) c.self.view_is
    (has_made (inputs_of f) f.settling c.settle-ended.new.self f.notices.items c.self.invariant.history beside.beside beside.gifts first last c.settle-ended.result ended.ends held.objects ended.of.objects
    (beside_then (inputs_of f) f.settling c.settle-ended.new.self beside.beside ended.stays) c.are_gifts.ensures)

pub returns-clause-reached : goal.returns-clause-reached
returns-clause-reached g c =
    let f = c.self.inside.follower in
    let beside = c.are_beside.ensures in
    on_told c.settle-ended.result c.told.result c.told.ensures
    (λ reached. c.settle-ended.ensures.of.objects ∙ reached ∙ wants_seen (inputs_of f) f.settling f.notices.items c.self.invariant.history beside.beside beside.gifts)
    c.settle-ended.ensures.reached

pub returns-clause-fresh : goal.returns-clause-fresh
returns-clause-fresh g c =
    let f = c.self.inside.follower in
    let beside = c.are_beside.ensures in
    on_told c.settle-ended.result c.told.result c.told.ensures
    (λ reached. c.settle-ended.ensures.of.objects ∙ reached ∙ wants_seen (inputs_of f) f.settling f.notices.items c.self.invariant.history beside.beside beside.gifts
    ∙ fresh_same (record { inputs = inputs_of f; held = held_of f.settling }) c.self.invariant.history)
    c.settle-ended.ensures.reached

pub returns-clause-of : goal.returns-clause-of
returns-clause-of g c =
    let f = c.self.inside.follower in
    let ended = c.settle-ended.ensures in
    is_of g.K.Kernel c.settle-ended.new.kernel (inputs_of f) c.settle-ended.new.self f.notices.items (beside_then (inputs_of f) f.settling c.settle-ended.new.self c.are_beside.ensures.beside ended.stays) ended.of

pub returns-clause-loads : goal.returns-clause-loads
returns-clause-loads g c = c.settle-ended.ensures.stays.loads ∙ ap (λ (n : Network). n.loads) c.self.view_is
