use Rattle.std.proofs.Common.{subst, sym}
use Rattle.step_net.specs.Taken.{telled_of}
use Rattle.bus_clients.specs.Bus.{part_of, opened, closed}
use Rattle.rpc_objects.specs.Kept.{faults_of}
use Rattle.rpc_objects.specs.Passed.{StaysOrStopsIn}
use Rattle.bus_lines.specs.declared.caller_line.CallerLine.{CallerLine}
use Rattle.bus_lines.specs.declared.callers.Callers.{Callers}
use Rattle.plane_outside.specs.Supply.{supply_of}
use Rattle.bus_lines.specs.CallerLine.{LineDoes}
use Rattle.bus_lines.specs.Passed.{LinePasses}
use Rattle.bus_lines.specs.Cut.{LineCuts}
use Rattle.bus_lines.specs.Ended.{Ends, world_of}
use Rattle.bus_lines.specs.Calling.{seen_by}
use Rattle.bus_lines.proofs.WordLemmas.{uses_none}
use Rattle.bus_lines.proofs.KeptLemmas.{stays_itself}
use Rattle.bus_lines.proofs.KernelLemmas.{nothing_asked, cut_nothing}
use Rattle.bus_lines.proofs.ClientLemmas.{came_ends}
use Rattle.bus_lines.proofs.carrying.carry_caller_line.Goals as goal

pub returns-in-Call-clause-ends : goal.returns-in-Call-clause-ends
returns-in-Call-clause-ends g c =
    let world = world_of c.args.now c.args.store.now c.args.callers.now c.args.net.now in
    let now = world_of c.args.now c.call_method.new.store c.call_method.new.callers c.call_method.new.net in
    let seen = seen_by (telled_of g.K.Kernel c.args.kernel.now c.call_method.new.kernel) c.args.callers.now
    c.call_method.new.callers (g.R.Random.words c.args.random.now) (g.R.Random.words c.call_method.new.random)
    (faults_of (g.D.Disk.view c.args.files.now) (g.D.Disk.view c.call_method.new.files)
    (g.T.Disk.view c.args.staged.now) (g.T.Disk.view c.call_method.new.staged)) in
    subst (λ (l : CallerLine). Ends (LineDoes world c.args.number l) (LineCuts world c.args.number l)
    (LinePasses world c.args.number l) now seen c.call_method.result) (sym c.in-Call.is) c.call_method.ensures.ends

pub returns-in-Call-clause-images : goal.returns-in-Call-clause-images
returns-in-Call-clause-images g c =
    let world = world_of c.args.now c.args.store.now c.args.callers.now c.args.net.now in
    subst (λ (l : CallerLine). StaysOrStopsIn c.args.store.now g.D.Disk.view c.args.files.now
    c.call_method.new.files (LinePasses world c.args.number l)) (sym c.in-Call.is) c.call_method.ensures.images

pub returns-in-Open-clause-ends : goal.returns-in-Open-clause-ends
returns-in-Open-clause-ends g c =
    let callers : Callers = record {
      sessions = c.args.callers.now.sessions;
      bus = c.open_client.new.bus;
      spare = c.args.callers.now.spare;
    } in
    let world = world_of c.args.now c.args.store.now c.args.callers.now c.args.net.now in
    let now = world_of c.args.now c.args.store.now callers c.args.net.now in
    let files = g.D.Disk.view c.args.files.now in
    let staged = g.T.Disk.view c.args.staged.now in
    let words = g.R.Random.words c.args.random.now in
    let asked = g.K.Kernel.asked c.args.kernel.now in
    let faults = g.K.Kernel.faults c.args.kernel.now in
    let seen = seen_by (telled_of g.K.Kernel c.args.kernel.now c.args.kernel.now) c.args.callers.now
    callers words words (faults_of files files staged staged) in
    subst (λ (l : CallerLine). Ends (LineDoes world c.args.number l) (LineCuts world c.args.number l)
    (LinePasses world c.args.number l) now seen c.or_memory.result) (sym c.in-Open.is)
    (came_ends world (part_of c.open_client.new.bus) seen (opened world.bus c.in-Open.client c.in-Open.user c.in-Open.group) c.open_client.result
    c.or_memory.result c.or_memory.ensures (nothing_asked asked faults)
    (uses_none (supply_of c.args.callers.now.spare.word words)) (cut_nothing world.net asked faults)
    c.open_client.ensures)

pub returns-in-Open-clause-disks : goal.returns-in-Open-clause-disks
returns-in-Open-clause-disks g c =
    stays_itself _ c.args.store.now (g.D.Disk.view c.args.files.now) (g.T.Disk.view c.args.staged.now) c.requires.open

pub returns-in-Bytes-clause-ends : goal.returns-in-Bytes-clause-ends
returns-in-Bytes-clause-ends g c =
    let world = world_of c.args.now c.args.store.now c.args.callers.now c.args.net.now in
    let now = world_of c.args.now c.client_bytes.new.store c.client_bytes.new.callers c.client_bytes.new.net in
    let seen = seen_by (telled_of g.K.Kernel c.args.kernel.now c.client_bytes.new.kernel) c.args.callers.now
    c.client_bytes.new.callers (g.R.Random.words c.args.random.now) (g.R.Random.words c.client_bytes.new.random)
    (faults_of (g.D.Disk.view c.args.files.now) (g.D.Disk.view c.client_bytes.new.files)
    (g.T.Disk.view c.args.staged.now) (g.T.Disk.view c.client_bytes.new.staged)) in
    subst (λ (l : CallerLine). Ends (LineDoes world c.args.number l) (LineCuts world c.args.number l)
    (LinePasses world c.args.number l) now seen c.client_bytes.result) (sym c.in-Bytes.is) c.client_bytes.ensures.ends

pub returns-in-Bytes-clause-images : goal.returns-in-Bytes-clause-images
returns-in-Bytes-clause-images g c =
    let world = world_of c.args.now c.args.store.now c.args.callers.now c.args.net.now in
    subst (λ (l : CallerLine). StaysOrStopsIn c.args.store.now g.D.Disk.view c.args.files.now
    c.client_bytes.new.files (LinePasses world c.args.number l)) (sym c.in-Bytes.is) c.client_bytes.ensures.images

pub returns-in-Close-clause-ends : goal.returns-in-Close-clause-ends
returns-in-Close-clause-ends g c =
    let callers : Callers = record {
      sessions = c.args.callers.now.sessions;
      bus = c.close_client.new.bus;
      spare = c.args.callers.now.spare;
    } in
    let world = world_of c.args.now c.args.store.now c.args.callers.now c.args.net.now in
    let now = world_of c.args.now c.args.store.now callers c.args.net.now in
    let files = g.D.Disk.view c.args.files.now in
    let staged = g.T.Disk.view c.args.staged.now in
    let words = g.R.Random.words c.args.random.now in
    let asked = g.K.Kernel.asked c.args.kernel.now in
    let faults = g.K.Kernel.faults c.args.kernel.now in
    let seen = seen_by (telled_of g.K.Kernel c.args.kernel.now c.args.kernel.now) c.args.callers.now
    callers words words (faults_of files files staged staged) in
    subst (λ (l : CallerLine). Ends (LineDoes world c.args.number l) (LineCuts world c.args.number l)
    (LinePasses world c.args.number l) now seen c.or_memory-in-Close.result) (sym c.in-Close.is)
    (came_ends world (part_of c.close_client.new.bus) seen (closed world.bus c.in-Close.client) c.close_client.result
    c.or_memory-in-Close.result c.or_memory-in-Close.ensures (nothing_asked asked faults)
    (uses_none (supply_of c.args.callers.now.spare.word words)) (cut_nothing world.net asked faults)
    c.close_client.ensures)

pub returns-in-Close-clause-disks : goal.returns-in-Close-clause-disks
returns-in-Close-clause-disks g c =
    stays_itself _ c.args.store.now (g.D.Disk.view c.args.files.now) (g.T.Disk.view c.args.staged.now) c.requires.open
