use Rattle.std.proofs.Common.{◌∙◌}
use Rattle.std.specs.Prelude.{Ok}
use Rattle.step_net.specs.Taken.{telled_of}
use Rattle.uci_tool.specs.Folder.{folder_of}
use Rattle.plane_step.specs.LineDone.{Front, Behind}
use Rattle.plane_step.specs.FilesMoved.{files_moved}
use Rattle.plane_step.proofs.StoreLemmas.{stays_as}
use Rattle.bus_lines.specs.Ended.{world_of}
use Rattle.plane_step.specs.Passed.{PlainPasses}
use Rattle.plane_step.proofs.StepLiftLemmas.{plain_told, plain_stops}
use Rattle.plane_step.proofs.StepStoreLemmas.{stays_so}
use Rattle.plane_step.proofs.StepPassLemmas.{images_listed, plain_listed}
use Rattle.plane_step.proofs.act.act_plainly.Goals as goal

pub returns-in-Ok-clause-ends : goal.returns-in-Ok-clause-ends
returns-in-Ok-clause-ends g c callers supply =
    let front : Front = record { now = c.args.moment.now; store = c.args.store.now; net = c.args.net.now } in
    let behind : Behind = record {
      now = c.act_on.new.moment;
      store = c.act_on.new.store;
      net = c.act_on.new.net;
      kernel = telled_of g.K.Kernel c.args.kernel.now c.act_on.new.kernel;
    } in
    plain_told front c.args.number c.args.line behind callers supply (g.D.Disk.view c.args.files.now)
    (g.D.Disk.view c.act_on.new.files) (g.T.Disk.view c.args.staged.now) (g.T.Disk.view c.act_on.new.staged)
    c.in-Ok.told c.from_vec.result (c.from_vec.ensures ∙ c.new.ensures.items) c.in-Ok.ensures.does

pub returns-in-Ok-clause-disks : goal.returns-in-Ok-clause-disks
returns-in-Ok-clause-disks g c =
    stays_as c.in-Ok.told (Ok (record { sent = c.from_vec.result; told = c.in-Ok.told })) c.args.store.now
    c.act_on.new.store (g.D.Disk.view c.args.files.now) (g.D.Disk.view c.act_on.new.files)
    (g.T.Disk.view c.args.staged.now) (g.T.Disk.view c.act_on.new.staged) c.in-Ok.ensures.disks

pub returns-in-Ok-clause-images : goal.returns-in-Ok-clause-images
returns-in-Ok-clause-images g c callers =
    let world = world_of c.args.moment.now c.args.store.now callers c.args.net.now in
    images_listed g.D.Disk.view c.args.store.now c.args.files.now c.act_on.new.files
    (files_moved c.args.moment.now (folder_of c.args.store.now) c.args.line).passes
    (PlainPasses world c.args.line) (plain_listed world c.args.line) c.act_on.ensures.images

pub returns-in-Ok-clause-told : goal.returns-in-Ok-clause-told
returns-in-Ok-clause-told g c = c.in-Ok.ensures.does.taken.is.silent

pub returns-in-Err-clause-ends : goal.returns-in-Err-clause-ends
returns-in-Err-clause-ends g c callers supply =
    let front : Front = record { now = c.args.moment.now; store = c.args.store.now; net = c.args.net.now } in
    let behind : Behind = record {
      now = c.act_on.new.moment;
      store = c.act_on.new.store;
      net = c.act_on.new.net;
      kernel = telled_of g.K.Kernel c.args.kernel.now c.act_on.new.kernel;
    } in
    plain_stops front c.args.number c.args.line behind callers supply (g.D.Disk.view c.args.files.now)
    (g.D.Disk.view c.act_on.new.files) (g.T.Disk.view c.args.staged.now) (g.T.Disk.view c.act_on.new.staged)
    c.in-Err.stop c.in-Err.ensures.does

pub returns-in-Err-clause-disks : goal.returns-in-Err-clause-disks
returns-in-Err-clause-disks g c =
    stays_so c.in-Err.stop c.args.store.now c.act_on.new.store (g.D.Disk.view c.args.files.now)
    (g.D.Disk.view c.act_on.new.files) (g.T.Disk.view c.args.staged.now) (g.T.Disk.view c.act_on.new.staged)
    c.in-Err.ensures.disks

pub returns-in-Err-clause-images : goal.returns-in-Err-clause-images
returns-in-Err-clause-images g c callers =
    let world = world_of c.args.moment.now c.args.store.now callers c.args.net.now in
    images_listed g.D.Disk.view c.args.store.now c.args.files.now c.act_on.new.files
    (files_moved c.args.moment.now (folder_of c.args.store.now) c.args.line).passes
    (PlainPasses world c.args.line) (plain_listed world c.args.line) c.act_on.ensures.images
