use Rattle.std.proofs.Common.{refl}
use Rattle.step_net.specs.Taken.{telled_of}
use Rattle.rpc_objects.specs.Passed.{CallPasses}
use Rattle.rpc_objects.specs.Cut.{CallCuts}
use Rattle.rpc_objects.specs.Kept.{faults_of}
use Rattle.bus_lines.specs.declared.callers.Callers.{Callers}
use Rattle.plane_outside.specs.Supply.{supply_of}
use Rattle.bus_lines.specs.Ended.{world_of}
use Rattle.bus_lines.specs.Calling.{seen_by, ObjectCuts, ObjectPasses}
use Rattle.bus_lines.proofs.WordLemmas.{used_up}
use Rattle.bus_lines.proofs.KeptLemmas.{stays_itself}
use Rattle.bus_lines.proofs.KernelLemmas.{cut_nothing}
use Rattle.bus_lines.proofs.CallingLemmas.{halts_in_front, called_out, called_stopped}
use Rattle.bus_lines.proofs.calling.call_with_word.Goals as goal

pub returns-then-next_number-ge-END_OF_NUMBERS-clause-ends : goal.returns-then-next_number-ge-END_OF_NUMBERS-clause-ends
returns-then-next_number-ge-END_OF_NUMBERS-clause-ends g c =
    let world = world_of c.args.now c.args.store.now c.args.callers.now c.args.net.now in
    let files = g.D.Disk.view c.args.files.now in
    let staged = g.T.Disk.view c.args.staged.now in
    let words = g.R.Random.words c.args.random.now in
    let seen = seen_by (telled_of g.K.Kernel c.args.kernel.now c.args.kernel.now) c.args.callers.now
    c.args.callers.now words words (faults_of files files staged staged) in
    halts_in_front (ObjectCuts world c.args.object c.args.method.now c.args.args.now)
    (ObjectPasses world c.args.object c.args.method.now c.args.args.now) world seen
    (record { word = 0; is = CallCuts.in_front }) (CallPasses.front c.args.object)
    (cut_nothing world.net (g.K.Kernel.asked c.args.kernel.now) (g.K.Kernel.faults c.args.kernel.now))

pub returns-then-next_number-ge-END_OF_NUMBERS-clause-disks : goal.returns-then-next_number-ge-END_OF_NUMBERS-clause-disks
returns-then-next_number-ge-END_OF_NUMBERS-clause-disks g c =
    stays_itself _ c.args.store.now (g.D.Disk.view c.args.files.now) (g.T.Disk.view c.args.staged.now) c.requires.open

pub returns-in-Ok-clause-ends : goal.returns-in-Ok-clause-ends
returns-in-Ok-clause-ends g c =
    let callers : Callers = record {
      sessions = c.call_object-called.new.sessions;
      bus = c.args.callers.now.bus;
      spare = c.use_up.new.self;
    } in
    let world = world_of c.args.now c.args.store.now c.args.callers.now c.args.net.now in
    let now = world_of c.args.now c.call_object-called.new.store callers c.call_object-called.new.net in
    let seen = seen_by (telled_of g.K.Kernel c.args.kernel.now c.call_object-called.new.kernel) c.args.callers.now
    callers (g.R.Random.words c.args.random.now) (g.R.Random.words c.first-word.new.random)
    (faults_of (g.D.Disk.view c.args.files.now) (g.D.Disk.view c.call_object-called.new.files)
    (g.T.Disk.view c.args.staged.now) (g.T.Disk.view c.call_object-called.new.staged)) in
    called_out world now c.args.object c.args.method.now c.args.args.now c.first-word.result seen c.in-Ok.outcome
    c.in-Ok.ensures.ends refl
    (used_up (supply_of c.args.callers.now.spare.word (g.R.Random.words c.args.random.now))
    (g.R.Random.words c.first-word.new.random) c.first-word.result c.in-Ok.outcome.has_created
    c.first-word.new.self.word c.use_up.new.self.word c.first-word.ensures.kept c.use_up.ensures c.first-word.ensures.first
    c.first-word.ensures.stays)

pub returns-in-Err-clause-ends : goal.returns-in-Err-clause-ends
returns-in-Err-clause-ends g c =
    let callers : Callers = record {
      sessions = c.call_object-called.new.sessions;
      bus = c.args.callers.now.bus;
      spare = c.first-word.new.self;
    } in
    let world = world_of c.args.now c.args.store.now c.args.callers.now c.args.net.now in
    let now = world_of c.args.now c.call_object-called.new.store callers c.call_object-called.new.net in
    let seen = seen_by (telled_of g.K.Kernel c.args.kernel.now c.call_object-called.new.kernel) c.args.callers.now
    callers (g.R.Random.words c.args.random.now) (g.R.Random.words c.first-word.new.random)
    (faults_of (g.D.Disk.view c.args.files.now) (g.D.Disk.view c.call_object-called.new.files)
    (g.T.Disk.view c.args.staged.now) (g.T.Disk.view c.call_object-called.new.staged)) in
    called_stopped world now c.args.object c.args.method.now c.args.args.now c.first-word.result seen c.in-Err.stop
    c.in-Err.ensures.ends
