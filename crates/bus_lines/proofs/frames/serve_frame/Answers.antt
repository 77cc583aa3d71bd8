use Rattle.std.proofs.Common.{refl, ap, sym, ◌∙◌}
use Rattle.step_net.specs.Taken.{telled_of}
use Rattle.bus_clients.specs.Bus.{BusPart}
use Rattle.rpc_objects.specs.Kept.{faults_of}
use Rattle.bus_lines.specs.declared.callers.Callers.{Callers}
use Rattle.bus_lines.specs.declared.gathered.Gathered.{Gathered}
use Rattle.plane_outside.specs.Supply.{supply_of}
use Rattle.bus_lines.specs.Cut.{FrameCuts}
use Rattle.bus_lines.specs.Passed.{HandedPasses, FramePasses}
use Rattle.bus_lines.specs.Ended.{world_of}
use Rattle.bus_lines.specs.Calling.{seen_by}
use Rattle.bus_lines.specs.Frames.{OneCuts}
use Rattle.bus_lines.proofs.WordLemmas.{uses_none}
use Rattle.bus_lines.proofs.KeptLemmas.{stays_itself, images_more}
use Rattle.bus_lines.proofs.KernelLemmas.{asks_none, cut_nothing}
use Rattle.bus_lines.proofs.CallingLemmas.{halts_in_front}
use Rattle.bus_lines.proofs.FrameLemmas.{no_call, ends_at, passes_at}
use Rattle.bus_lines.proofs.frames.serve_frame.Goals as goal

pub returns-in-Ok-Some-clause-ends : goal.returns-in-Ok-Some-clause-ends
returns-in-Ok-Some-clause-ends g c =
    let callers : Callers = record {
      sessions = c.args.callers.now.sessions;
      bus = c.serve.new.self;
      spare = c.args.callers.now.spare;
    } in
    let gathered : Gathered = record {
      sent = c.serve.new.told;
      requests = c.args.gathered.now.requests;
      refusal = c.args.gathered.now.refusal;
    } in
    let world = world_of c.args.now c.args.store.now c.args.callers.now c.args.net.now in
    let at = world_of c.args.now c.args.store.now callers c.args.net.now in
    let next = world_of c.args.now c.answer_call.new.store c.answer_call.new.callers c.answer_call.new.net in
    let seen = seen_by (telled_of g.K.Kernel c.args.kernel.now c.answer_call.new.kernel) c.args.callers.now
    c.answer_call.new.callers (g.R.Random.words c.args.random.now) (g.R.Random.words c.answer_call.new.random)
    (faults_of (g.D.Disk.view c.args.files.now) (g.D.Disk.view c.answer_call.new.files)
    (g.T.Disk.view c.args.staged.now) (g.T.Disk.view c.answer_call.new.staged)) in
    let came = c.in-Ok-Some.ensures in
    ends_at world c.args.number c.args.frame.now c.in-Ok-Some.call
    (sym came.handed ∙ c.in-Ok-Some.field-0-is) at
    (ap (λ (p : BusPart). record world { bus = p }) came.is.next) next seen c.args.gathered.now gathered
    c.answer_call.new.gathered came.is.lines refl refl c.answer_call.result c.answer_call.ensures.ends

pub returns-in-Ok-Some-clause-images : goal.returns-in-Ok-Some-clause-images
returns-in-Ok-Some-clause-images g c =
    let callers : Callers = record {
      sessions = c.args.callers.now.sessions;
      bus = c.serve.new.self;
      spare = c.args.callers.now.spare;
    } in
    let world = world_of c.args.now c.args.store.now c.args.callers.now c.args.net.now in
    let at = world_of c.args.now c.args.store.now callers c.args.net.now in
    let came = c.in-Ok-Some.ensures in
    images_more g.D.Disk.view c.args.store.now c.args.files.now c.answer_call.new.files
    (HandedPasses at c.in-Ok-Some.call) (FramePasses world c.args.number c.args.frame.now)
    (passes_at world c.args.number c.args.frame.now c.in-Ok-Some.call
    (sym came.handed ∙ c.in-Ok-Some.field-0-is) at
    (ap (λ (p : BusPart). record world { bus = p }) came.is.next))
    c.answer_call.ensures.images

pub returns-in-Ok-None-clause-ends : goal.returns-in-Ok-None-clause-ends
returns-in-Ok-None-clause-ends g c =
    let callers : Callers = record {
      sessions = c.args.callers.now.sessions;
      bus = c.serve.new.self;
      spare = c.args.callers.now.spare;
    } in
    let gathered : Gathered = record {
      sent = c.serve.new.told;
      requests = c.args.gathered.now.requests;
      refusal = c.args.gathered.now.refusal;
    } in
    let world = world_of c.args.now c.args.store.now c.args.callers.now c.args.net.now in
    let next = world_of c.args.now c.args.store.now callers c.args.net.now in
    let files = g.D.Disk.view c.args.files.now in
    let staged = g.T.Disk.view c.args.staged.now in
    let words = g.R.Random.words c.args.random.now in
    let seen = seen_by (telled_of g.K.Kernel c.args.kernel.now c.args.kernel.now) c.args.callers.now
    callers words words (faults_of files files staged staged) in
    let came = c.in-Ok-None.ensures in
    no_call world c.args.number c.args.frame.now next seen c.args.gathered.now gathered
    (ap (λ (p : BusPart). record world { bus = p }) came.is.next) (sym came.handed ∙ c.in-Ok-None.field-0-is)
    came.is.lines refl refl
    (asks_none (g.K.Kernel.asked c.args.kernel.now) (g.K.Kernel.faults c.args.kernel.now))
    (uses_none (supply_of c.args.callers.now.spare.word words))

pub returns-in-Ok-None-clause-disks : goal.returns-in-Ok-None-clause-disks
returns-in-Ok-None-clause-disks g c =
    stays_itself _ c.args.store.now (g.D.Disk.view c.args.files.now) (g.T.Disk.view c.args.staged.now) c.requires.open

pub returns-in-Err-clause-ends : goal.returns-in-Err-clause-ends
returns-in-Err-clause-ends g c =
    let callers : Callers = record {
      sessions = c.args.callers.now.sessions;
      bus = c.serve.new.self;
      spare = c.args.callers.now.spare;
    } in
    let world = world_of c.args.now c.args.store.now c.args.callers.now c.args.net.now in
    let next = world_of c.args.now c.args.store.now callers c.args.net.now in
    let files = g.D.Disk.view c.args.files.now in
    let staged = g.T.Disk.view c.args.staged.now in
    let words = g.R.Random.words c.args.random.now in
    let seen = seen_by (telled_of g.K.Kernel c.args.kernel.now c.args.kernel.now) c.args.callers.now
    callers words words (faults_of files files staged staged) in
    halts_in_front (OneCuts world c.args.number c.args.frame.now) (FramePasses world c.args.number c.args.frame.now)
    next seen (record { word = 0; is = FrameCuts.in_front }) FramePasses.front
    (cut_nothing world.net (g.K.Kernel.asked c.args.kernel.now) (g.K.Kernel.faults c.args.kernel.now))

pub returns-in-Err-clause-disks : goal.returns-in-Err-clause-disks
returns-in-Err-clause-disks g c =
    stays_itself _ c.args.store.now (g.D.Disk.view c.args.files.now) (g.T.Disk.view c.args.staged.now) c.requires.open
