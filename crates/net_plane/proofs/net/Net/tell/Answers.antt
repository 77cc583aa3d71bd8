use Rattle.std.proofs.Common.{ap, ◌∙◌}
use Rattle.net_rules.specs.declared.event.Event.TheVariants as event
use Rattle.net_plane.specs.Network.{Network}
use Rattle.net_plane.proofs.SeenLemmas.{free_below, same_seen}
use Rattle.net_plane.proofs.EventLemmas.{after_followed, loads_followed}
use Rattle.net_plane.proofs.DeviceLemmas.{happens_to, of_next}
use Rattle.net_plane.proofs.net.Net.tell.Goals as goal

pub await_event-requires-clause-free : goal.await_event-requires-clause-free
await_event-requires-clause-free g c = free_below c.args.self.now c.self.inside.follower c.self.view_is (event.Device c.args.event.now) c.requires.free

pub environment-requires : goal.environment-requires
environment-requires g c = happens_to c.args.self.now c.args.event.now (g.K.Kernel.devices c.args.kernel.now) (g.K.Kernel.objects c.args.kernel.now) c.requires.of.devices c.requires.of.objects c.requires.free

pub desist-requires-clause-awaiting : goal.desist-requires-clause-awaiting
desist-requires-clause-awaiting g c = c.in-Ok.ensures.ok

pub desist-requires-clause-free : goal.desist-requires-clause-free
desist-requires-clause-free g c =
    let view = same_seen c.args.self.now c.self.inside.follower c.self.view_is c.await_event.new.self c.await_event.ensures.looks in
    free_below c.args.self.now c.await_event.new.self view (event.Device c.args.event.now) c.requires.free

pub happen-requires-clause-awaiting : goal.happen-requires-clause-awaiting
happen-requires-clause-awaiting g c = c.in-Ok.ensures.ok

pub happen-requires-clause-told : goal.happen-requires-clause-told
happen-requires-clause-told g c =
    let view = same_seen c.args.self.now c.self.inside.follower c.self.view_is c.await_event.new.self c.await_event.ensures.looks in
    ap (λ (n : Network). n.notices) view ∙ c.requires.told

pub happen-requires-clause-free : goal.happen-requires-clause-free
happen-requires-clause-free g c =
    let view = same_seen c.args.self.now c.self.inside.follower c.self.view_is c.await_event.new.self c.await_event.ensures.looks in
    free_below c.args.self.now c.await_event.new.self view (event.Device c.args.event.now) c.requires.free

pub returns-clause-ok : goal.returns-clause-ok
returns-clause-ok g c =
    let view = same_seen c.args.self.now c.self.inside.follower c.self.view_is c.await_event.new.self c.await_event.ensures.looks in
    after_followed c.args.self.now (event.Device c.args.event.now) c.await_event.new.self c.happen.new.self view c.happen.ensures.followed c.requires.free tt

pub returns-clause-of : goal.returns-clause-of
returns-clause-of g c =
    let view = same_seen c.args.self.now c.self.inside.follower c.self.view_is c.await_event.new.self c.await_event.ensures.looks in
    let did = c.in-Ok-environment.ensures in
    of_next c.args.self.now _ c.args.event.now
    (after_followed c.args.self.now (event.Device c.args.event.now) c.await_event.new.self c.happen.new.self view c.happen.ensures.followed c.requires.free tt)
    g.K.Kernel c.args.kernel.now c.environment.new.self c.requires.of did.did did.stayed

pub returns-clause-loads : goal.returns-clause-loads
returns-clause-loads g c =
    let view = same_seen c.args.self.now c.self.inside.follower c.self.view_is c.await_event.new.self c.await_event.ensures.looks in
    loads_followed c.args.self.now (event.Device c.args.event.now) c.await_event.new.self c.happen.new.self view c.happen.ensures.followed
