use Rattle.net_rules.specs.declared.event.Event.TheVariants as event
use Rattle.net_plane.proofs.SeenLemmas.{free_below}
use Rattle.net_plane.proofs.EventLemmas.{after_begun, kernel_begun}
use Rattle.net_plane.proofs.LoadLemmas.{few_in_step}
use Rattle.net_plane.proofs.net.Net.take_ports.Goals as goal

pub of-requires-clause-free : goal.of-requires-clause-free
of-requires-clause-free c = free_below c.args.self.now c.self.inside.follower c.self.view_is (event.Radio c.args.radio c.args.number c.args.ports) c.requires.free

pub of-requires-clause-few : goal.of-requires-clause-few
of-requires-clause-few c = few_in_step c.self.inside.follower c.self.invariant

pub join_ports-requires-clause-rebuild : goal.join_ports-requires-clause-rebuild
join_ports-requires-clause-rebuild c = (c.args.radio, c.args.number, c.args.ports, c.in-Ok.ensures)

pub returns-clause-ok : goal.returns-clause-ok
returns-clause-ok c =
    after_begun c.args.self.now (event.Radio c.args.radio c.args.number c.args.ports) c.self.inside.follower c.join_ports.new.follower c.self.view_is 0
    (c.in-Ok-join_ports.ensures.ok c.args.radio c.args.number c.args.ports c.in-Ok.ensures) tt c.requires.free tt

pub returns-clause-kernel : goal.returns-clause-kernel
returns-clause-kernel c =
    kernel_begun c.args.self.now (event.Radio c.args.radio c.args.number c.args.ports) c.self.inside.follower c.join_ports.new.follower c.self.view_is 0
    (c.in-Ok-join_ports.ensures.ok c.args.radio c.args.number c.args.ports c.in-Ok.ensures) tt
