use Rattle.std.proofs.Common.{subst, refl, arith}
use Rattle.plane_words.specs.Growth.{Grows, GrowsByFront}
use Rattle.net_settle.specs.Outside.{outside_of}
use Rattle.net_plane.specs.Network.{moment_of}
use Rattle.step_net.specs.Taken.{telling_in}
use Rattle.step_net.proofs.SettleLemmas.{answered, cut_at_shown, cut_at_last, cut_in_settling}
use Rattle.step_net.proofs.finishing.finish.Goals as goal

pub returns-in_default-clause-finishes : goal.returns-in_default-clause-finishes
returns-in_default-clause-finishes g c =
    cut_in_settling (moment_of c.args.net.now) (telling_in c.args.told.now)
    (outside_of g.O.Sink g.K.Kernel c.args.out.now c.args.kernel.now)
    (outside_of g.O.Sink g.K.Kernel c.settle.new.out c.settle.new.kernel) c.in_default.ensures.settles

pub returns-in_default-tell-clause-finishes : goal.returns-in_default-tell-clause-finishes
returns-in_default-tell-clause-finishes g c =
    let before = outside_of g.O.Sink g.K.Kernel c.args.out.now c.args.kernel.now in
    let mid = outside_of g.O.Sink g.K.Kernel c.settle.new.out c.settle.new.kernel in
    let after = outside_of g.O.Sink g.K.Kernel c.tell.new.out c.settle.new.kernel in
    let later = c.in-Ok.ensures.settles.later in
    let rose = c.in_default-tell.ensures.cause.failed in
    let later_too = c.tell.ensures.cause.later in
    cut_at_shown (moment_of c.args.net.now) (moment_of c.settle.new.net) (telling_in c.args.told.now)
    before mid after c.in-Ok.stopped c.in-Ok.ensures.settles refl refl refl refl
    (subst (GrowsByFront mid.out after.out) c.as_bytes.ensures c.in_default-tell.ensures.in_part)
    (omega arith) (omega arith)

pub returns-in_default-tell-2-clause-finishes : goal.returns-in_default-tell-2-clause-finishes
returns-in_default-tell-2-clause-finishes g c =
    let before = outside_of g.O.Sink g.K.Kernel c.args.out.now c.args.kernel.now in
    let mid = outside_of g.O.Sink g.K.Kernel c.settle.new.out c.settle.new.kernel in
    let between = g.O.Sink.held c.tell.new.out in
    let after = outside_of g.O.Sink g.K.Kernel c.tell-2.new.out c.settle.new.kernel in
    let later = c.in-Ok.ensures.settles.later in
    let later_too = c.tell.ensures.cause.later in
    let rose = c.in_default-tell-2.ensures.cause.failed in
    let last_later = c.tell-2.ensures.cause.later in
    cut_at_last (moment_of c.args.net.now) (moment_of c.settle.new.net) (telling_in c.args.told.now)
    before mid after c.in-Ok.stopped c.in-Ok.ensures.settles refl refl refl refl between
    (subst (Grows mid.out between) c.as_bytes.ensures c.in-Ok-tell.ensures.written)
    (subst (GrowsByFront between after.out) c.last_line.ensures c.in_default-tell-2.ensures.in_part)
    (omega arith) (omega arith)

pub returns-clause-finishes : goal.returns-clause-finishes
returns-clause-finishes g c =
    let before = outside_of g.O.Sink g.K.Kernel c.args.out.now c.args.kernel.now in
    let mid = outside_of g.O.Sink g.K.Kernel c.settle.new.out c.settle.new.kernel in
    let between = g.O.Sink.held c.tell.new.out in
    let after = outside_of g.O.Sink g.K.Kernel c.tell-2.new.out c.settle.new.kernel in
    let later = c.tell.ensures.cause.later in
    let last_later = c.tell-2.ensures.cause.later in
    answered (moment_of c.args.net.now) (moment_of c.settle.new.net) (telling_in c.args.told.now)
    before mid after c.in-Ok.stopped c.in-Ok.ensures.settles refl refl refl refl between
    (subst (Grows mid.out between) c.as_bytes.ensures c.in-Ok-tell.ensures.written)
    (subst (Grows between after.out) c.last_line.ensures c.in-Ok-tell-2.ensures.written)
    (omega arith) c.is_fine.result c.is_fine.ensures
