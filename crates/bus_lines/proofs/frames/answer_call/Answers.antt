use Rattle.std.proofs.Common.{sym}
use Rattle.std.specs.Prelude.{Err}
use Rattle.step_net.specs.Taken.{telled_of}
use Rattle.rpc_objects.specs.Kept.{faults_of}
use Rattle.bus_clients.specs.Bus.{part_of}
use Rattle.bus_lines.specs.declared.callers.Callers.{Callers}
use Rattle.plane_outside.specs.Supply.{supply_of}
use Rattle.bus_lines.specs.Ended.{world_of}
use Rattle.bus_lines.specs.Calling.{seen_by}
use Rattle.bus_lines.specs.Passed.{HandedPasses}
use Rattle.bus_lines.proofs.WordLemmas.{uses_none}
use Rattle.bus_lines.proofs.KeptLemmas.{stays_itself, stays_as, stays_stopped, images_more}
use Rattle.bus_lines.proofs.KernelLemmas.{asks_none}
use Rattle.bus_lines.proofs.CallingLemmas.{ends_as}
use Rattle.bus_lines.proofs.FrameLemmas.{not_ours, handed_passes, handed_stopped, handed_answered, handed_behind, Passes}
use Rattle.bus_lines.proofs.frames.answer_call.Goals as goal

pub returns-in_default-clause-ends : goal.returns-in_default-clause-ends
returns-in_default-clause-ends g c =
    let world = world_of c.args.now c.args.store.now c.args.callers.now c.args.net.now in
    let files = g.D.Disk.view c.args.files.now in
    let staged = g.T.Disk.view c.args.staged.now in
    let words = g.R.Random.words c.args.random.now in
    let seen = seen_by (telled_of g.K.Kernel c.args.kernel.now c.args.kernel.now) c.args.callers.now
    c.args.callers.now words words (faults_of files files staged staged) in
    not_ours world c.args.call.now seen c.args.gathered.now (sym c.in_default.ensures)
    (asks_none (g.K.Kernel.asked c.args.kernel.now) (g.K.Kernel.faults c.args.kernel.now))
    (uses_none (supply_of c.args.callers.now.spare.word words))

pub returns-in_default-clause-disks : goal.returns-in_default-clause-disks
returns-in_default-clause-disks g c =
    stays_itself _ c.args.store.now (g.D.Disk.view c.args.files.now) (g.T.Disk.view c.args.staged.now) c.requires.open

pub returns-in-Ok-reply-clause-ends : goal.returns-in-Ok-reply-clause-ends
returns-in-Ok-reply-clause-ends g c =
    let callers : Callers = c.call_with_word.new.callers in
    let world = world_of c.args.now c.args.store.now c.args.callers.now c.args.net.now in
    let mid = world_of c.args.now c.call_with_word.new.store callers c.call_with_word.new.net in
    let seen = seen_by (telled_of g.K.Kernel c.args.kernel.now c.call_with_word.new.kernel) c.args.callers.now
    callers (g.R.Random.words c.args.random.now) (g.R.Random.words c.call_with_word.new.random)
    (faults_of (g.D.Disk.view c.args.files.now) (g.D.Disk.view c.call_with_word.new.files)
    (g.T.Disk.view c.args.staged.now) (g.T.Disk.view c.call_with_word.new.staged)) in
    handed_answered world c.args.call.now c.in-Some.object (sym c.in-Some.ensures) mid
    (part_of c.reply.new.bus) seen c.args.gathered.now c.reply.new.self c.in-Ok.outcome
    (rw (c.as_bytes-method.ensures, c.as_slice-args.ensures) at c.in-Ok.ensures.ends) c.in-Ok-reply.ensures

pub returns-in-Ok-reply-clause-disks : goal.returns-in-Ok-reply-clause-disks
returns-in-Ok-reply-clause-disks g c =
    stays_as c.in-Ok.outcome _ c.args.store.now c.call_with_word.new.store
    (g.D.Disk.view c.args.files.now) (g.D.Disk.view c.call_with_word.new.files)
    (g.T.Disk.view c.args.staged.now) (g.T.Disk.view c.call_with_word.new.staged) c.in-Ok.ensures.disks

pub returns-in-Ok-reply-clause-images : goal.returns-in-Ok-reply-clause-images
returns-in-Ok-reply-clause-images g c =
    let world = world_of c.args.now c.args.store.now c.args.callers.now c.args.net.now in
    images_more g.D.Disk.view c.args.store.now c.args.files.now c.call_with_word.new.files
    (Passes world c.args.call.now c.in-Some.object (sym c.in-Some.ensures)) (HandedPasses world c.args.call.now)
    (handed_passes world c.args.call.now c.in-Some.object (sym c.in-Some.ensures))
    (rw (c.as_bytes-method.ensures, c.as_slice-args.ensures) at c.in-Ok.ensures.images)

pub returns-in-Err-reply-clause-ends : goal.returns-in-Err-reply-clause-ends
returns-in-Err-reply-clause-ends g c =
    let callers : Callers = c.call_with_word.new.callers in
    let world = world_of c.args.now c.args.store.now c.args.callers.now c.args.net.now in
    let mid = world_of c.args.now c.call_with_word.new.store callers c.call_with_word.new.net in
    let seen = seen_by (telled_of g.K.Kernel c.args.kernel.now c.call_with_word.new.kernel) c.args.callers.now
    callers (g.R.Random.words c.args.random.now) (g.R.Random.words c.call_with_word.new.random)
    (faults_of (g.D.Disk.view c.args.files.now) (g.D.Disk.view c.call_with_word.new.files)
    (g.T.Disk.view c.args.staged.now) (g.T.Disk.view c.call_with_word.new.staged)) in
    handed_behind world c.args.call.now c.in-Some.object (sym c.in-Some.ensures) mid
    (part_of c.reply.new.bus) seen c.in-Ok.outcome
    (rw (c.as_bytes-method.ensures, c.as_slice-args.ensures) at c.in-Ok.ensures.ends)

pub returns-in-Err-reply-clause-disks : goal.returns-in-Err-reply-clause-disks
returns-in-Err-reply-clause-disks g c =
    stays_as c.in-Ok.outcome _ c.args.store.now c.call_with_word.new.store
    (g.D.Disk.view c.args.files.now) (g.D.Disk.view c.call_with_word.new.files)
    (g.T.Disk.view c.args.staged.now) (g.T.Disk.view c.call_with_word.new.staged) c.in-Ok.ensures.disks

pub returns-in-Err-reply-clause-images : goal.returns-in-Err-reply-clause-images
returns-in-Err-reply-clause-images g c =
    let world = world_of c.args.now c.args.store.now c.args.callers.now c.args.net.now in
    images_more g.D.Disk.view c.args.store.now c.args.files.now c.call_with_word.new.files
    (Passes world c.args.call.now c.in-Some.object (sym c.in-Some.ensures)) (HandedPasses world c.args.call.now)
    (handed_passes world c.args.call.now c.in-Some.object (sym c.in-Some.ensures))
    (rw (c.as_bytes-method.ensures, c.as_slice-args.ensures) at c.in-Ok.ensures.images)

pub returns-in-Err-clause-ends : goal.returns-in-Err-clause-ends
returns-in-Err-clause-ends g c =
    let world = world_of c.args.now c.args.store.now c.args.callers.now c.args.net.now in
    let now = world_of c.args.now c.call_with_word.new.store c.call_with_word.new.callers c.call_with_word.new.net in
    let seen = seen_by (telled_of g.K.Kernel c.args.kernel.now c.call_with_word.new.kernel) c.args.callers.now
    c.call_with_word.new.callers (g.R.Random.words c.args.random.now) (g.R.Random.words c.call_with_word.new.random)
    (faults_of (g.D.Disk.view c.args.files.now) (g.D.Disk.view c.call_with_word.new.files)
    (g.T.Disk.view c.args.staged.now) (g.T.Disk.view c.call_with_word.new.staged)) in
    handed_stopped world c.args.call.now c.in-Some.object (sym c.in-Some.ensures) (Unit {0}) now seen c.args.gathered.now
    c.args.gathered.now c.in-Err.stop
    (ends_as world c.in-Some.object c.as_bytes-method.result.now c.args.call.now.method c.as_slice-args.result.now
    c.args.call.now.args now seen (Err c.in-Err.stop) c.as_bytes-method.ensures c.as_slice-args.ensures c.in-Err.ensures.ends)

pub returns-in-Err-clause-disks : goal.returns-in-Err-clause-disks
returns-in-Err-clause-disks g c =
    stays_stopped c.in-Err.stop c.args.store.now c.call_with_word.new.store
    (g.D.Disk.view c.args.files.now) (g.D.Disk.view c.call_with_word.new.files)
    (g.T.Disk.view c.args.staged.now) (g.T.Disk.view c.call_with_word.new.staged) c.in-Err.ensures.disks

pub returns-in-Err-clause-images : goal.returns-in-Err-clause-images
returns-in-Err-clause-images g c =
    let world = world_of c.args.now c.args.store.now c.args.callers.now c.args.net.now in
    images_more g.D.Disk.view c.args.store.now c.args.files.now c.call_with_word.new.files
    (Passes world c.args.call.now c.in-Some.object (sym c.in-Some.ensures)) (HandedPasses world c.args.call.now)
    (handed_passes world c.args.call.now c.in-Some.object (sym c.in-Some.ensures))
    (rw (c.as_bytes-method.ensures, c.as_slice-args.ensures) at c.in-Err.ensures.images)
