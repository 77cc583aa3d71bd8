use Rattle.std.proofs.Common.{ap}
use Rattle.ubus_broker.specs.declared.broker.Broker.{Broker}
use Rattle.ubus_broker.specs.Did.{table_of}
use Rattle.step_net.specs.Taken.{telled_of}
use Rattle.bus_clients.specs.Bus.{part_of}
use Rattle.rpc_objects.specs.Kept.{faults_of}
use Rattle.bus_lines.specs.declared.callers.Callers.{Callers}
use Rattle.plane_outside.specs.Supply.{supply_of}
use Rattle.bus_lines.specs.Passed.{FramesPass, BytesPass}
use Rattle.bus_lines.specs.Ended.{world_of}
use Rattle.bus_lines.specs.Calling.{seen_by}
use Rattle.bus_lines.proofs.WordLemmas.{uses_none}
use Rattle.bus_lines.proofs.KeptLemmas.{stays_itself, images_more}
use Rattle.bus_lines.proofs.KernelLemmas.{nothing_asked, cut_nothing}
use Rattle.bus_lines.proofs.ClientLemmas.{ends_at, passes_at, unknown_ends}
use Rattle.bus_lines.proofs.client_line.client_bytes.Goals as goal

pub returns-in-Ok-clause-ends : goal.returns-in-Ok-clause-ends
returns-in-Ok-clause-ends g c =
    let callers : Callers = record {
      sessions = c.args.callers.now.sessions;
      bus = c.feed.new.self;
      spare = c.args.callers.now.spare;
    } in
    let world = world_of c.args.now c.args.store.now c.args.callers.now c.args.net.now in
    let at = world_of c.args.now c.args.store.now callers c.args.net.now in
    let now = world_of c.args.now c.serve_fed.new.store c.serve_fed.new.callers c.serve_fed.new.net in
    let seen = seen_by (telled_of g.K.Kernel c.args.kernel.now c.serve_fed.new.kernel) c.args.callers.now
    c.serve_fed.new.callers (g.R.Random.words c.args.random.now) (g.R.Random.words c.serve_fed.new.random)
    (faults_of (g.D.Disk.view c.args.files.now) (g.D.Disk.view c.serve_fed.new.files)
    (g.T.Disk.view c.args.staged.now) (g.T.Disk.view c.serve_fed.new.staged)) in
    let clients = c.feed.new.self.clients.items in
    ends_at world c.args.client c.args.bytes.now c.in-Ok.fed clients
    (rw c.as_bytes.ensures at c.in-Ok.ensures.fed) at
    (ap (λ (b : Broker). record world { bus = record { table = table_of b; clients = clients } }) c.feed.ensures.bus)
    now seen c.serve_fed.result c.serve_fed.ensures.ends

pub returns-in-Ok-clause-images : goal.returns-in-Ok-clause-images
returns-in-Ok-clause-images g c =
    let callers : Callers = record {
      sessions = c.args.callers.now.sessions;
      bus = c.feed.new.self;
      spare = c.args.callers.now.spare;
    } in
    let world = world_of c.args.now c.args.store.now c.args.callers.now c.args.net.now in
    let at = world_of c.args.now c.args.store.now callers c.args.net.now in
    let clients = c.feed.new.self.clients.items in
    images_more g.D.Disk.view c.args.store.now c.args.files.now c.serve_fed.new.files
    (FramesPass at c.in-Ok.fed.number c.in-Ok.fed.frames) (BytesPass world c.args.client c.args.bytes.now)
    (passes_at world c.args.client c.args.bytes.now c.in-Ok.fed clients
    (rw c.as_bytes.ensures at c.in-Ok.ensures.fed) at
    (ap (λ (b : Broker). record world { bus = record { table = table_of b; clients = clients } }) c.feed.ensures.bus))
    c.serve_fed.ensures.images

pub returns-in-Err-clause-ends : goal.returns-in-Err-clause-ends
returns-in-Err-clause-ends g c =
    let world = world_of c.args.now c.args.store.now c.args.callers.now c.args.net.now in
    let files = g.D.Disk.view c.args.files.now in
    let staged = g.T.Disk.view c.args.staged.now in
    let words = g.R.Random.words c.args.random.now in
    let asked = g.K.Kernel.asked c.args.kernel.now in
    let faults = g.K.Kernel.faults c.args.kernel.now in
    let seen = seen_by (telled_of g.K.Kernel c.args.kernel.now c.args.kernel.now) c.args.callers.now
    c.args.callers.now words words (faults_of files files staged staged) in
    unknown_ends world c.args.client c.args.bytes.now seen (nothing_asked asked faults)
    (uses_none (supply_of c.args.callers.now.spare.word words)) (part_of c.feed.new.self) c.feed.result
    c.in-Err.error c.refuse_client.result c.or_memory.result c.in-Err.is c.feed.ensures.unknown.0
    (λ e i. record { table = table_of (c.feed.ensures.bus i); clients = c.feed.ensures.stays e i })
    c.feed.ensures.others c.or_memory.ensures (cut_nothing world.net asked faults) c.refuse_client.ensures

pub returns-in-Err-clause-disks : goal.returns-in-Err-clause-disks
returns-in-Err-clause-disks g c =
    stays_itself _ c.args.store.now (g.D.Disk.view c.args.files.now) (g.T.Disk.view c.args.staged.now) c.requires.open
