use Rattle.std.proofs.Common.{refl}
use Rattle.step_net.specs.Taken.{telled_of}
use Rattle.rpc_objects.specs.Kept.{faults_of}
use Rattle.plane_outside.specs.Supply.{supply_of}
use Rattle.bus_lines.specs.CallLine.{CallLineDoes, ForDoes}
use Rattle.bus_lines.specs.Cut.{CallLineCuts}
use Rattle.bus_lines.specs.Passed.{CallLinePasses}
use Rattle.bus_lines.specs.Ended.{world_of}
use Rattle.bus_lines.specs.Calling.{seen_by}
use Rattle.bus_lines.proofs.WordLemmas.{uses_none}
use Rattle.bus_lines.proofs.KeptLemmas.{stays_itself, stays_as, stays_stopped}
use Rattle.bus_lines.proofs.KernelLemmas.{nothing_asked, cut_nothing}
use Rattle.bus_lines.proofs.CallingLemmas.{halts_in_front}
use Rattle.bus_lines.proofs.CallLineLemmas.{told_ends, unread_ends, stopped_as}
use Rattle.bus_lines.proofs.call_line.call_method.Goals as goal

pub returns-in-Ok-call_for-clause-ends : goal.returns-in-Ok-call_for-clause-ends
returns-in-Ok-call_for-clause-ends g c =
    let world = world_of c.args.now c.args.store.now c.args.callers.now c.args.net.now in
    let now = world_of c.args.now c.call_for.new.store c.call_for.new.callers c.call_for.new.net in
    let seen = seen_by (telled_of g.K.Kernel c.args.kernel.now c.call_for.new.kernel) c.args.callers.now
    c.call_for.new.callers (g.R.Random.words c.args.random.now) (g.R.Random.words c.call_for.new.random)
    (faults_of (g.D.Disk.view c.args.files.now) (g.D.Disk.view c.call_for.new.files)
    (g.T.Disk.view c.args.staged.now) (g.T.Disk.view c.call_for.new.staged)) in
    told_ends world c.args.number c.args.words.now c.in-Ok.args c.in-Ok.ensures.found now seen
    c.in-Ok-call_for.outcome c.tell_outcome.result c.or_memory.result c.or_memory.ensures
    c.in-Ok-call_for.ensures.ends c.tell_outcome.ensures

pub returns-in-Ok-call_for-clause-disks : goal.returns-in-Ok-call_for-clause-disks
returns-in-Ok-call_for-clause-disks g c =
    stays_as c.in-Ok-call_for.outcome _ c.args.store.now c.call_for.new.store
    (g.D.Disk.view c.args.files.now) (g.D.Disk.view c.call_for.new.files)
    (g.T.Disk.view c.args.staged.now) (g.T.Disk.view c.call_for.new.staged) c.in-Ok-call_for.ensures.disks

pub returns-in-Err-call_for-clause-ends : goal.returns-in-Err-call_for-clause-ends
returns-in-Err-call_for-clause-ends g c =
    let world = world_of c.args.now c.args.store.now c.args.callers.now c.args.net.now in
    let now = world_of c.args.now c.call_for.new.store c.call_for.new.callers c.call_for.new.net in
    let seen = seen_by (telled_of g.K.Kernel c.args.kernel.now c.call_for.new.kernel) c.args.callers.now
    c.call_for.new.callers (g.R.Random.words c.args.random.now) (g.R.Random.words c.call_for.new.random)
    (faults_of (g.D.Disk.view c.args.files.now) (g.D.Disk.view c.call_for.new.files)
    (g.T.Disk.view c.args.staged.now) (g.T.Disk.view c.call_for.new.staged)) in
    stopped_as (ForDoes world c.args.words.now c.in-Ok.args) (CallLineDoes world c.args.number c.args.words.now)
    (CallLineCuts world c.args.number c.args.words.now) (CallLinePasses world c.args.number c.args.words.now)
    world now seen c.in-Err-call_for.stop c.in-Err-call_for.ensures.ends

pub returns-in-Err-call_for-clause-disks : goal.returns-in-Err-call_for-clause-disks
returns-in-Err-call_for-clause-disks g c =
    stays_stopped c.in-Err-call_for.stop c.args.store.now c.call_for.new.store
    (g.D.Disk.view c.args.files.now) (g.D.Disk.view c.call_for.new.files)
    (g.T.Disk.view c.args.staged.now) (g.T.Disk.view c.call_for.new.staged) c.in-Err-call_for.ensures.disks

pub returns-in-Memory-clause-ends : goal.returns-in-Memory-clause-ends
returns-in-Memory-clause-ends g c =
    let world = world_of c.args.now c.args.store.now c.args.callers.now c.args.net.now in
    let files = g.D.Disk.view c.args.files.now in
    let staged = g.T.Disk.view c.args.staged.now in
    let words = g.R.Random.words c.args.random.now in
    let seen = seen_by (telled_of g.K.Kernel c.args.kernel.now c.args.kernel.now) c.args.callers.now
    c.args.callers.now words words (faults_of files files staged staged) in
    halts_in_front (CallLineCuts world c.args.number c.args.words.now)
    (CallLinePasses world c.args.number c.args.words.now) world seen CallLineCuts.in_front CallLinePasses.front
    (cut_nothing world.net (g.K.Kernel.asked c.args.kernel.now) (g.K.Kernel.faults c.args.kernel.now))

pub returns-in-Memory-clause-disks : goal.returns-in-Memory-clause-disks
returns-in-Memory-clause-disks g c =
    stays_itself _ c.args.store.now (g.D.Disk.view c.args.files.now) (g.T.Disk.view c.args.staged.now) c.requires.open

pub returns-in_default-clause-ends : goal.returns-in_default-clause-ends
returns-in_default-clause-ends g c =
    let world = world_of c.args.now c.args.store.now c.args.callers.now c.args.net.now in
    let files = g.D.Disk.view c.args.files.now in
    let staged = g.T.Disk.view c.args.staged.now in
    let words = g.R.Random.words c.args.random.now in
    let asked = g.K.Kernel.asked c.args.kernel.now in
    let faults = g.K.Kernel.faults c.args.kernel.now in
    let seen = seen_by (telled_of g.K.Kernel c.args.kernel.now c.args.kernel.now) c.args.callers.now
    c.args.callers.now words words (faults_of files files staged staged) in
    unread_ends world c.args.number c.args.words.now c.in-Err.error
    (c.in-Err.ensures.refused c.in-Err.error refl c.in_default.not-Memory)
    seen c.refuse_line.result c.or_memory-in_default.result c.or_memory-in_default.ensures (nothing_asked asked faults)
    (uses_none (supply_of c.args.callers.now.spare.word words)) (cut_nothing world.net asked faults)
    c.refuse_line.ensures

pub returns-in_default-clause-disks : goal.returns-in_default-clause-disks
returns-in_default-clause-disks g c =
    stays_itself _ c.args.store.now (g.D.Disk.view c.args.files.now) (g.T.Disk.view c.args.staged.now) c.requires.open
