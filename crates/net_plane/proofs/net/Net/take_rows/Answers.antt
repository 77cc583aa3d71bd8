use Rattle.std.proofs.Common.{refl}
use Rattle.net_rules.specs.declared.event.Event.TheVariants as event
use Rattle.net_plane.proofs.EventLemmas.{after_begun, kernel_begun, loads_begun}
use Rattle.net_plane.proofs.LoadLemmas.{are_few_rows, sound_rows, sound_loaded, rebuild_loaded, can_load, begun_loaded}
use Rattle.net_plane.proofs.net.Net.take_rows.Goals as goal

pub of-requires-clause-few : goal.of-requires-clause-few
of-requires-clause-few c = are_few_rows c.args.rows c.requires

pub load-requires-clause-sound : goal.load-requires-clause-sound
load-requires-clause-sound c = sound_loaded c.self.inside.follower c.args.rows c.in-Ok.made c.in-Ok.ensures c.requires

pub load-requires-clause-rebuild : goal.load-requires-clause-rebuild
load-requires-clause-rebuild c = rebuild_loaded c.self.inside.follower c.args.rows c.in-Ok.made c.in-Ok.ensures c.requires

pub load-requires-clause-can : goal.load-requires-clause-can
load-requires-clause-can c = can_load c.self.inside.follower c.args.rows c.in-Ok.made c.in-Ok.ensures c.requires c.conf-rows.ensures.once

pub returns-clause-ok : goal.returns-clause-ok
returns-clause-ok c =
    let f = c.self.inside.follower in
    let begun = begun_loaded f c.args.rows c.in-Ok.made c.in-Ok.ensures c.requires c.load.new.follower c.in-Ok-load.ensures.ok in
    after_begun c.args.self.now (event.Load c.args.rows) f c.load.new.follower c.self.view_is 1 begun tt refl (sound_rows c.args.rows c.requires)

pub returns-clause-kernel : goal.returns-clause-kernel
returns-clause-kernel c =
    let f = c.self.inside.follower in
    let begun = begun_loaded f c.args.rows c.in-Ok.made c.in-Ok.ensures c.requires c.load.new.follower c.in-Ok-load.ensures.ok in
    kernel_begun c.args.self.now (event.Load c.args.rows) f c.load.new.follower c.self.view_is 1 begun tt

pub returns-clause-loads : goal.returns-clause-loads
returns-clause-loads c =
    let f = c.self.inside.follower in
    let begun = begun_loaded f c.args.rows c.in-Ok.made c.in-Ok.ensures c.requires c.load.new.follower c.in-Ok-load.ensures.ok in
    loads_begun c.args.self.now (event.Load c.args.rows) f c.load.new.follower c.self.view_is 1 begun tt
