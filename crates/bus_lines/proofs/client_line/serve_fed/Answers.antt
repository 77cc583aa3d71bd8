use Rattle.std.specs.Prelude.{Err}
use Rattle.step_net.specs.Taken.{telled_of}
use Rattle.bus_clients.specs.Bus.{part_of}
use Rattle.rpc_objects.specs.Kept.{faults_of}
use Rattle.bus_lines.specs.Ended.{world_of}
use Rattle.bus_lines.specs.Calling.{seen_by}
use Rattle.bus_lines.proofs.KeptLemmas.{stays_as, stays_stopped}
use Rattle.bus_lines.proofs.FramesLemmas.{ends_as}
use Rattle.bus_lines.proofs.ClientLemmas.{fed_ends, fed_stopped}
use Rattle.bus_lines.proofs.client_line.serve_fed.Goals as goal

pub returns-in-Ok-clause-ends : goal.returns-in-Ok-clause-ends
returns-in-Ok-clause-ends g c =
    let world = world_of c.args.now c.args.store.now c.args.callers.now c.args.net.now in
    let mid = world_of c.args.now c.serve_frames.new.store c.serve_frames.new.callers c.serve_frames.new.net in
    let seen = seen_by (telled_of g.K.Kernel c.args.kernel.now c.serve_frames.new.kernel) c.args.callers.now
    c.serve_frames.new.callers (g.R.Random.words c.args.random.now) (g.R.Random.words c.serve_frames.new.random)
    (faults_of (g.D.Disk.view c.args.files.now) (g.D.Disk.view c.serve_frames.new.files)
    (g.T.Disk.view c.args.staged.now) (g.T.Disk.view c.serve_frames.new.staged)) in
    fed_ends world c.args.client c.args.fed mid (part_of c.end_bytes.new.bus) seen c.in-Ok.gathered
    c.end_bytes.result c.or_memory.result c.or_memory.ensures
    (rw c.as_slice-frames.ensures at c.in-Ok.ensures.ends) c.end_bytes.ensures

pub returns-in-Ok-clause-disks : goal.returns-in-Ok-clause-disks
returns-in-Ok-clause-disks g c =
    stays_as c.in-Ok.gathered _ c.args.store.now c.serve_frames.new.store
    (g.D.Disk.view c.args.files.now) (g.D.Disk.view c.serve_frames.new.files)
    (g.T.Disk.view c.args.staged.now) (g.T.Disk.view c.serve_frames.new.staged) c.in-Ok.ensures.disks

pub returns-in-Ok-clause-images : goal.returns-in-Ok-clause-images
returns-in-Ok-clause-images g c = rw c.as_slice-frames.ensures at c.in-Ok.ensures.images

pub returns-clause-ends : goal.returns-clause-ends
returns-clause-ends g c =
    let world = world_of c.args.now c.args.store.now c.args.callers.now c.args.net.now in
    let now = world_of c.args.now c.serve_frames.new.store c.serve_frames.new.callers c.serve_frames.new.net in
    let seen = seen_by (telled_of g.K.Kernel c.args.kernel.now c.serve_frames.new.kernel) c.args.callers.now
    c.serve_frames.new.callers (g.R.Random.words c.args.random.now) (g.R.Random.words c.serve_frames.new.random)
    (faults_of (g.D.Disk.view c.args.files.now) (g.D.Disk.view c.serve_frames.new.files)
    (g.T.Disk.view c.args.staged.now) (g.T.Disk.view c.serve_frames.new.staged)) in
    fed_stopped world c.args.client c.args.fed now seen c.in-Err.stop
    (ends_as world c.args.fed.number c.as_slice-frames.result.now c.args.fed.frames now seen (Err c.in-Err.stop)
    c.as_slice-frames.ensures c.in-Err.ensures.ends)

pub returns-clause-disks : goal.returns-clause-disks
returns-clause-disks g c =
    stays_stopped c.in-Err.stop c.args.store.now c.serve_frames.new.store
    (g.D.Disk.view c.args.files.now) (g.D.Disk.view c.serve_frames.new.files)
    (g.T.Disk.view c.args.staged.now) (g.T.Disk.view c.serve_frames.new.staged) c.in-Err.ensures.disks

pub returns-clause-images : goal.returns-clause-images
returns-clause-images g c = rw c.as_slice-frames.ensures at c.in-Err.ensures.images
