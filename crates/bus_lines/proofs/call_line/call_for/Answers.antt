use Rattle.std.proofs.Common.{ap, sym, ◌∙◌}
use Rattle.step_net.specs.Taken.{telled_of}
use Rattle.rpc_objects.specs.Kept.{faults_of}
use Rattle.rpc_objects.specs.Object.{of_path}
use Rattle.bus_lines.specs.declared.callers.Callers.{Callers}
use Rattle.plane_outside.specs.Supply.{supply_of}
use Rattle.bus_lines.specs.Cut.{CallLineCuts}
use Rattle.bus_lines.specs.Passed.{CallLinePasses}
use Rattle.bus_lines.specs.Ended.{world_of}
use Rattle.bus_lines.specs.Calling.{seen_by, ObjectPasses}
use Rattle.bus_lines.proofs.WordLemmas.{uses_none}
use Rattle.bus_lines.proofs.KeptLemmas.{stays_itself, images_more}
use Rattle.bus_lines.proofs.KernelLemmas.{asks_none, cut_nothing}
use Rattle.bus_lines.proofs.CallingLemmas.{halts_in_front, ends_as}
use Rattle.bus_lines.proofs.CallLineLemmas.{object_called, object_passes, no_object, not_admitted}
use Rattle.bus_lines.proofs.call_line.call_for.Goals as goal

pub returns-in_default-clause-ends : goal.returns-in_default-clause-ends
returns-in_default-clause-ends g c =
    let callers : Callers = record {
      sessions = c.admit.new.sessions;
      bus = c.args.callers.now.bus;
      spare = c.args.callers.now.spare;
    } in
    let world = world_of c.args.now c.args.store.now c.args.callers.now c.args.net.now in
    let files = g.D.Disk.view c.args.files.now in
    let staged = g.T.Disk.view c.args.staged.now in
    let words = g.R.Random.words c.args.random.now in
    let seen = seen_by (telled_of g.K.Kernel c.args.kernel.now c.args.kernel.now) c.args.callers.now
    callers words words (faults_of files files staged staged) in
    no_object world c.args.number c.args.words.now c.args.args c.requires.read c.admit.new.sessions c.in-Ok-Ok.args
    (rw c.in-Ok-Ok.field-0-is at c.in-Ok-Ok.ensures) seen c.quiet.result (sym (ap of_path c.as_bytes.ensures) ∙ sym c.in_default.ensures)
    (asks_none (g.K.Kernel.asked c.args.kernel.now) (g.K.Kernel.faults c.args.kernel.now))
    (uses_none (supply_of c.args.callers.now.spare.word words)) (rw c.refused.ensures at c.quiet.ensures)

pub returns-in_default-clause-disks : goal.returns-in_default-clause-disks
returns-in_default-clause-disks g c =
    stays_itself _ c.args.store.now (g.D.Disk.view c.args.files.now) (g.T.Disk.view c.args.staged.now) c.requires.open

pub returns-in-Some-clause-ends : goal.returns-in-Some-clause-ends
returns-in-Some-clause-ends g c =
    let callers : Callers = record {
      sessions = c.admit.new.sessions;
      bus = c.args.callers.now.bus;
      spare = c.args.callers.now.spare;
    } in
    let at = world_of c.args.now c.args.store.now callers c.args.net.now in
    let world = world_of c.args.now c.args.store.now c.args.callers.now c.args.net.now in
    let now = world_of c.args.now c.call_with_word.new.store c.call_with_word.new.callers c.call_with_word.new.net in
    let seen = seen_by (telled_of g.K.Kernel c.args.kernel.now c.call_with_word.new.kernel) c.args.callers.now
    c.call_with_word.new.callers (g.R.Random.words c.args.random.now) (g.R.Random.words c.call_with_word.new.random)
    (faults_of (g.D.Disk.view c.args.files.now) (g.D.Disk.view c.call_with_word.new.files)
    (g.T.Disk.view c.args.staged.now) (g.T.Disk.view c.call_with_word.new.staged)) in
    object_called world c.args.number c.args.words.now c.args.args c.requires.read c.admit.new.sessions c.in-Ok-Ok.args
    (rw c.in-Ok-Ok.field-0-is at c.in-Ok-Ok.ensures) c.in-Some.object (sym (ap of_path c.as_bytes.ensures) ∙ sym c.in-Some.ensures) now seen
    c.call_with_word.result
    (ends_as at c.in-Some.object c.as_bytes-method.result.now c.args.words.now.method c.as_slice-args.result.now c.in-Ok-Ok.args
    now seen c.call_with_word.result c.as_bytes-method.ensures c.as_slice-args.ensures c.call_with_word.ensures.ends)

pub returns-in-Some-clause-images : goal.returns-in-Some-clause-images
returns-in-Some-clause-images g c =
    let callers : Callers = record {
      sessions = c.admit.new.sessions;
      bus = c.args.callers.now.bus;
      spare = c.args.callers.now.spare;
    } in
    let world = world_of c.args.now c.args.store.now c.args.callers.now c.args.net.now in
    let at = world_of c.args.now c.args.store.now callers c.args.net.now in
    images_more g.D.Disk.view c.args.store.now c.args.files.now c.call_with_word.new.files
    (ObjectPasses at c.in-Some.object c.args.words.now.method c.in-Ok-Ok.args)
    (CallLinePasses world c.args.number c.args.words.now)
    (object_passes world c.args.number c.args.words.now c.args.args c.requires.read c.admit.new.sessions c.in-Ok-Ok.args
    (rw c.in-Ok-Ok.field-0-is at c.in-Ok-Ok.ensures) c.in-Some.object (sym (ap of_path c.as_bytes.ensures) ∙ sym c.in-Some.ensures))
    (rw (c.as_bytes-method.ensures, c.as_slice-args.ensures) at c.call_with_word.ensures.images)

pub returns-in-Ok-Err-clause-ends : goal.returns-in-Ok-Err-clause-ends
returns-in-Ok-Err-clause-ends g c =
    let callers : Callers = record {
      sessions = c.admit.new.sessions;
      bus = c.args.callers.now.bus;
      spare = c.args.callers.now.spare;
    } in
    let world = world_of c.args.now c.args.store.now c.args.callers.now c.args.net.now in
    let files = g.D.Disk.view c.args.files.now in
    let staged = g.T.Disk.view c.args.staged.now in
    let words = g.R.Random.words c.args.random.now in
    let seen = seen_by (telled_of g.K.Kernel c.args.kernel.now c.args.kernel.now) c.args.callers.now
    callers words words (faults_of files files staged staged) in
    not_admitted world c.args.number c.args.words.now c.args.args c.requires.read c.admit.new.sessions c.in-Ok-Err.answer
    (rw c.in-Ok-Err.field-0-is at c.in-Ok-Err.ensures) seen c.quiet-in-Ok-Err.result
    (asks_none (g.K.Kernel.asked c.args.kernel.now) (g.K.Kernel.faults c.args.kernel.now))
    (uses_none (supply_of c.args.callers.now.spare.word words)) c.quiet-in-Ok-Err.ensures

pub returns-in-Ok-Err-clause-disks : goal.returns-in-Ok-Err-clause-disks
returns-in-Ok-Err-clause-disks g c =
    stays_itself _ c.args.store.now (g.D.Disk.view c.args.files.now) (g.T.Disk.view c.args.staged.now) c.requires.open

pub returns-in-Err-clause-ends : goal.returns-in-Err-clause-ends
returns-in-Err-clause-ends g c =
    let callers : Callers = record {
      sessions = c.admit.new.sessions;
      bus = c.args.callers.now.bus;
      spare = c.args.callers.now.spare;
    } in
    let world = world_of c.args.now c.args.store.now c.args.callers.now c.args.net.now in
    let now = world_of c.args.now c.args.store.now callers c.args.net.now in
    let files = g.D.Disk.view c.args.files.now in
    let staged = g.T.Disk.view c.args.staged.now in
    let words = g.R.Random.words c.args.random.now in
    let seen = seen_by (telled_of g.K.Kernel c.args.kernel.now c.args.kernel.now) c.args.callers.now
    callers words words (faults_of files files staged staged) in
    halts_in_front (CallLineCuts world c.args.number c.args.words.now)
    (CallLinePasses world c.args.number c.args.words.now) now seen CallLineCuts.in_front CallLinePasses.front
    (cut_nothing world.net (g.K.Kernel.asked c.args.kernel.now) (g.K.Kernel.faults c.args.kernel.now))

pub returns-in-Err-clause-disks : goal.returns-in-Err-clause-disks
returns-in-Err-clause-disks g c =
    stays_itself _ c.args.store.now (g.D.Disk.view c.args.files.now) (g.T.Disk.view c.args.staged.now) c.requires.open
