use Rattle.std.proofs.Common.{inl, refl, Some}
use Rattle.std.specs.Prelude.{Ok, Err}
use Rattle.script_lines.specs.declared.script_line.ScriptLine.TheVariants as line
use Rattle.step_net.specs.Taken.{telled_of}
use Rattle.step_net.proofs.RequestLemmas.{asks_nothing}
use Rattle.plane_step.specs.declared.stop.Stop.TheVariants as stop
use Rattle.plane_step.proofs.StoreLemmas.{stays_both}
use Rattle.rpc_objects.specs.Kept.{faults_of}
use Rattle.bus_lines.specs.Ended.{world_of}
use Rattle.plane_step.specs.Passed.{PlainPasses, AtPasses}
use Rattle.plane_step.proofs.StepLiftLemmas.{at_halts, at_ends, at_passes}
use Rattle.plane_step.proofs.StepStoreLemmas.{expired_stays, expired_open}
use Rattle.plane_step.proofs.StepPassLemmas.{images_from}
use Rattle.plane_step.proofs.act.go_to.Goals as goal

pub returns-in_default-clause-ends : goal.returns-in_default-clause-ends
returns-in_default-clause-ends g c supply =
    let files = g.D.Disk.view c.args.files.now in
    let staged = g.T.Disk.view c.args.staged.now in
    at_halts (world_of c.args.moment.now c.args.store.now c.args.callers.now c.args.net.now)
    (world_of c.args.moment.now c.expire.new.store c.expire.new.callers c.args.net.now) c.args.number c.args.next
    (record {
      kernel = telled_of g.K.Kernel c.args.kernel.now c.args.kernel.now;
      supply = supply;
      supply_now = supply;
      disks = faults_of files files staged staged;
    })
    (c.expire.ensures.reached c.args.net.now) refl
    (asks_nothing (g.K.Kernel.asked c.args.kernel.now) (g.K.Kernel.faults c.args.kernel.now))

pub returns-in_default-clause-disks : goal.returns-in_default-clause-disks
returns-in_default-clause-disks g c =
    expired_stays (Err stop.Memory) c.args.store.now c.expire.new.store (g.D.Disk.view c.args.files.now)
    (g.T.Disk.view c.args.staged.now) c.requires.open c.expire.ensures.stays

pub returns-in_default-clause-images : goal.returns-in_default-clause-images
returns-in_default-clause-images g c = inl refl

pub act_plainly-requires-clause-open : goal.act_plainly-requires-clause-open
act_plainly-requires-clause-open g c =
    expired_open c.args.store.now c.expire.new.store (g.D.Disk.view c.args.files.now)
    (g.T.Disk.view c.args.staged.now) c.requires.open c.expire.ensures.stays

pub returns-clause-ends : goal.returns-clause-ends
returns-clause-ends g c supply =
    let world = world_of c.args.moment.now c.args.store.now c.args.callers.now c.args.net.now in
    let found = world_of c.args.moment.now c.expire.new.store c.expire.new.callers c.args.net.now in
    at_ends world found c.args.number c.args.next
    (world_of c.act_plainly.new.moment c.act_plainly.new.store c.expire.new.callers c.act_plainly.new.net)
    (record {
      kernel = telled_of g.K.Kernel c.args.kernel.now c.act_plainly.new.kernel;
      supply = supply;
      supply_now = supply;
      disks = faults_of (g.D.Disk.view c.args.files.now) (g.D.Disk.view c.act_plainly.new.files)
          (g.T.Disk.view c.args.staged.now) (g.T.Disk.view c.act_plainly.new.staged);
    })
    c.act_plainly.result
    (record { reached = c.expire.ensures.reached c.args.net.now; live = c.in-Ok.ensures.live }) refl
    (c.act_plainly.ensures.ends c.expire.new.callers supply)

pub returns-clause-disks : goal.returns-clause-disks
returns-clause-disks g c =
    let files = g.D.Disk.view c.args.files.now in
    let staged = g.T.Disk.view c.args.staged.now in
    stays_both (tt {0}) c.act_plainly.result c.args.store.now c.expire.new.store c.act_plainly.new.store files files
    (g.D.Disk.view c.act_plainly.new.files) staged staged (g.T.Disk.view c.act_plainly.new.staged)
    (expired_stays (Ok (tt {0})) c.args.store.now c.expire.new.store files staged c.requires.open
    c.expire.ensures.stays)
    c.act_plainly.ensures.disks

pub returns-clause-images : goal.returns-clause-images
returns-clause-images g c =
    let world = world_of c.args.moment.now c.args.store.now c.args.callers.now c.args.net.now in
    let found = world_of c.args.moment.now c.expire.new.store c.expire.new.callers c.args.net.now in
    images_from g.D.Disk.view c.args.store.now c.expire.new.store c.args.files.now c.act_plainly.new.files
    (PlainPasses found (Some (line.At c.args.next))) (AtPasses world c.args.next) c.expire.ensures.stays.snap
    (at_passes world found c.args.next (c.expire.ensures.reached c.args.net.now))
    (c.act_plainly.ensures.images c.expire.new.callers)
