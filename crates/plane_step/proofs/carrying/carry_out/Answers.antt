use Rattle.std.proofs.Common.{refl}
use Rattle.net_settle.specs.Outside.{outside_of}
use Rattle.net_plane.specs.Network.{moment_of}
use Rattle.step_net.specs.Taken.{telled_of}
use Rattle.rpc_objects.specs.Kept.{faults_of}
use Rattle.plane_outside.specs.Supply.{supply_of}
use Rattle.bus_lines.specs.Ended.{Seen, world_of}
use Rattle.plane_step.specs.Kept.{faults_of as disks_of}
use Rattle.plane_step.proofs.LineLemmas.{carried_out, cut_short, cut_in_sends, halted}
use Rattle.plane_step.proofs.carrying.carry_out.Goals as goal

pub returns-in-Ok-finish-clause-ends : goal.returns-in-Ok-finish-clause-ends
returns-in-Ok-finish-clause-ends g c =
    let new = c.read_and_act.new in
    let line = c.args.line.now in
    let world = world_of c.args.moment.now c.args.store.now c.args.callers.now c.args.net.now in
    let mid = world_of new.moment new.store new.callers new.net in
    let seen : Seen = record {
      kernel = telled_of g.K.Kernel c.args.kernel.now new.kernel;
      supply = supply_of c.args.callers.now.spare.word (g.R.Random.words c.args.random.now);
      supply_now = supply_of new.callers.spare.word (g.R.Random.words new.random);
      disks = faults_of (g.D.Disk.view c.args.files.now) (g.D.Disk.view new.files)
          (g.T.Disk.view c.args.staged.now) (g.T.Disk.view new.staged);
    } in
    let before = outside_of g.O.Sink g.K.Kernel c.args.out.now c.args.kernel.now in
    let between = outside_of g.O.Sink g.K.Kernel c.args.out.now new.kernel in
    let sent = outside_of g.O.Sink g.K.Kernel c.tell_sends.new.out new.kernel in
    let after = outside_of g.O.Sink g.K.Kernel c.finish.new.out c.finish.new.kernel in
    carried_out line world mid seen c.in-Ok.handled c.in-Ok.ensures.ends before between
    (record { asked = refl; asked_now = refl; faults = refl; faults_now = refl; calls = c.read_and_act.ensures.calls })
    refl refl c.read_and_act.ensures.of.objects sent
    (record { asked = refl; calls = refl; objects = refl; faults = refl })
    c.in-Ok-tell_sends.ensures.written c.tell_sends.ensures.cause.later
    (moment_of c.finish.new.net) after c.in-Ok-finish.is_ok c.in-Ok-finish.ensures.finishes

pub returns-in-Ok-clause-ends : goal.returns-in-Ok-clause-ends
returns-in-Ok-clause-ends g c =
    let new = c.read_and_act.new in
    let line = c.args.line.now in
    let world = world_of c.args.moment.now c.args.store.now c.args.callers.now c.args.net.now in
    let mid = world_of new.moment new.store new.callers new.net in
    let seen : Seen = record {
      kernel = telled_of g.K.Kernel c.args.kernel.now new.kernel;
      supply = supply_of c.args.callers.now.spare.word (g.R.Random.words c.args.random.now);
      supply_now = supply_of new.callers.spare.word (g.R.Random.words new.random);
      disks = faults_of (g.D.Disk.view c.args.files.now) (g.D.Disk.view new.files)
          (g.T.Disk.view c.args.staged.now) (g.T.Disk.view new.staged);
    } in
    let before = outside_of g.O.Sink g.K.Kernel c.args.out.now c.args.kernel.now in
    let between = outside_of g.O.Sink g.K.Kernel c.args.out.now new.kernel in
    let sent = outside_of g.O.Sink g.K.Kernel c.tell_sends.new.out new.kernel in
    let after = outside_of g.O.Sink g.K.Kernel c.finish.new.out c.finish.new.kernel in
    cut_short line world mid seen c.in-Ok.handled c.in-Ok.ensures.ends before between
    (record { asked = refl; asked_now = refl; faults = refl; faults_now = refl; calls = c.read_and_act.ensures.calls })
    refl refl c.read_and_act.ensures.of.objects sent
    (record { asked = refl; calls = refl; objects = refl; faults = refl })
    c.in-Ok-tell_sends.ensures.written c.tell_sends.ensures.cause.later
    (moment_of c.finish.new.net) after c.in-Err-finish.ensures.finishes

pub returns-in_default-clause-ends : goal.returns-in_default-clause-ends
returns-in_default-clause-ends g c =
    let new = c.read_and_act.new in
    let line = c.args.line.now in
    let world = world_of c.args.moment.now c.args.store.now c.args.callers.now c.args.net.now in
    let mid = world_of new.moment new.store new.callers new.net in
    let seen : Seen = record {
      kernel = telled_of g.K.Kernel c.args.kernel.now new.kernel;
      supply = supply_of c.args.callers.now.spare.word (g.R.Random.words c.args.random.now);
      supply_now = supply_of new.callers.spare.word (g.R.Random.words new.random);
      disks = faults_of (g.D.Disk.view c.args.files.now) (g.D.Disk.view new.files)
          (g.T.Disk.view c.args.staged.now) (g.T.Disk.view new.staged);
    } in
    let before = outside_of g.O.Sink g.K.Kernel c.args.out.now c.args.kernel.now in
    let between = outside_of g.O.Sink g.K.Kernel c.args.out.now new.kernel in
    let sent = outside_of g.O.Sink g.K.Kernel c.tell_sends.new.out new.kernel in
    cut_in_sends line world mid seen c.in-Ok.handled c.in-Ok.ensures.ends before between
    (record { asked = refl; asked_now = refl; faults = refl; faults_now = refl; calls = c.read_and_act.ensures.calls })
    refl refl c.read_and_act.ensures.of.objects sent
    (record { asked = refl; calls = refl; objects = refl; faults = refl })
    c.in_default.ensures.some c.in_default.ensures.in_part c.in_default.ensures.cause.failed
    c.in_default.ensures.cause.later

pub returns-clause-ends : goal.returns-clause-ends
returns-clause-ends g c =
    let new = c.read_and_act.new in
    let seen : Seen = record {
      kernel = telled_of g.K.Kernel c.args.kernel.now new.kernel;
      supply = supply_of c.args.callers.now.spare.word (g.R.Random.words c.args.random.now);
      supply_now = supply_of new.callers.spare.word (g.R.Random.words new.random);
      disks = faults_of (g.D.Disk.view c.args.files.now) (g.D.Disk.view new.files)
          (g.T.Disk.view c.args.staged.now) (g.T.Disk.view new.staged);
    } in
    let before = outside_of g.O.Sink g.K.Kernel c.args.out.now c.args.kernel.now in
    let after = outside_of g.O.Sink g.K.Kernel c.tell_halt.new.out new.kernel in
    halted c.args.line.now (world_of c.args.moment.now c.args.store.now c.args.callers.now c.args.net.now)
    (world_of new.moment new.store new.callers new.net) seen
    (disks_of (g.D.Disk.view c.args.files.now) (g.D.Disk.view new.files)
    (g.T.Disk.view c.args.staged.now) (g.T.Disk.view new.staged)) before after c.in-Err.stop
    (record { asked = refl; asked_now = refl; faults = refl; faults_now = refl; calls = c.read_and_act.ensures.calls })
    c.read_and_act.ensures.of.objects (λ rose. rose) c.in-Err.ensures.ends c.tell_halt.ensures
