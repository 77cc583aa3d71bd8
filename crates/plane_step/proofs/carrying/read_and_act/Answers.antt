use Rattle.std.proofs.Common.{Option, ap, sym, subst, ◌∙◌}
use Rattle.script_lines.specs.declared.script_line.ScriptLine.{ScriptLine}
use Rattle.script_lines.specs.Lines.{line_of}
use Rattle.step_net.proofs.RequestLemmas.{asks_nothing}
use Rattle.rpc_objects.specs.Kept.{faults_of}
use Rattle.rpc_objects.specs.Passed.{StaysOrStopsIn}
use Rattle.step_net.specs.Taken.{telled_of}
use Rattle.plane_outside.specs.Supply.{supply_of}
use Rattle.bus_lines.specs.Ended.{Seen, world_of}
use Rattle.plane_step.specs.Plain.{IsPlain}
use Rattle.plane_step.specs.Passed.{Passes}
use Rattle.plane_step.specs.Done.{Ends}
use Rattle.plane_step.proofs.StepLiftLemmas.{nothing_ends}
use Rattle.plane_step.proofs.carrying.read_and_act.Goals as goal

pub returns-in_default-clause-ends : goal.returns-in_default-clause-ends
returns-in_default-clause-ends g c =
    let files = g.D.Disk.view c.args.files.now in
    let staged = g.T.Disk.view c.args.staged.now in
    nothing_ends (world_of c.args.moment.now c.args.store.now c.args.callers.now c.args.net.now)
    c.args.line.now.line (line_of c.args.line.now.words)
    (record {
      kernel = telled_of g.K.Kernel c.args.kernel.now c.args.kernel.now;
      supply = supply_of c.args.callers.now.spare.word (g.R.Random.words c.args.random.now);
      supply_now = supply_of c.args.callers.now.spare.word (g.R.Random.words c.args.random.now);
      disks = faults_of files files staged staged;
    })
    (asks_nothing (g.K.Kernel.asked c.args.kernel.now) (g.K.Kernel.faults c.args.kernel.now))

pub returns-clause-images : goal.returns-clause-images
returns-clause-images g c =
    subst (λ read. StaysOrStopsIn c.args.store.now g.D.Disk.view c.args.files.now c.act.new.files
    (Passes (world_of c.args.moment.now c.args.store.now c.args.callers.now c.args.net.now) c.args.line.now.line read))
    (c.in-Ok.ensures ∙ ap line_of c.as_slice.ensures) c.act.ensures.images

pub returns-clause-ends : goal.returns-clause-ends
returns-clause-ends g c =
    let new = c.act.new in
    let seen : Seen = record {
      kernel = telled_of g.K.Kernel c.args.kernel.now new.kernel;
      supply = supply_of c.args.callers.now.spare.word (g.R.Random.words c.args.random.now);
      supply_now = supply_of new.callers.spare.word (g.R.Random.words new.random);
      disks = faults_of (g.D.Disk.view c.args.files.now) (g.D.Disk.view new.files)
          (g.T.Disk.view c.args.staged.now) (g.T.Disk.view new.staged);
    } in
    subst (λ (read : Option ScriptLine).
    Ends (world_of c.args.moment.now c.args.store.now c.args.callers.now c.args.net.now) c.args.line.now.line read
    (world_of new.moment new.store new.callers new.net) seen c.act.result)
    (c.in-Ok.ensures ∙ ap line_of c.as_slice.ensures) c.act.ensures.ends

pub returns-clause-random : goal.returns-clause-random
returns-clause-random g c = λ plain.
    c.act.ensures.random (subst IsPlain (sym (c.in-Ok.ensures ∙ ap line_of c.as_slice.ensures)) plain)
