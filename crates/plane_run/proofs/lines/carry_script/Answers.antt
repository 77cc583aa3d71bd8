use Rattle.std.proofs.Common.{inl, inr, false, refl, sym, subst}
use Rattle.kern_model.specs.ObjectOrder.{set_of}
use Rattle.uci_tool.specs.Ends.{source_of}
use Rattle.uci_tool.proofs.FolderRunLemmas.{held}
use Rattle.net_rules.specs.Moment.{want_of}
use Rattle.net_settle.specs.Outside.{outside_of}
use Rattle.rpc_objects.specs.Passed.{StaysOrStopsIn}
use Rattle.bus_lines.specs.Ended.{world_of}
use Rattle.plane_outside.specs.Supply.{supply_of}
use Rattle.plane_step.specs.Kept.{faults_of}
use Rattle.plane_step.specs.ScriptPasses.{ScriptPasses}
use Rattle.plane_run.specs.declared.script.Script.TheVariants.{Lines}
use Rattle.plane_run.specs.Script.{HasRead}
use Rattle.plane_run.specs.Run.{Stage, GoesOn, IsKernelFailed}
use Rattle.plane_run.proofs.LinesLemmas.{lines_go_on, unread_goes_on, bad_ended, bad_goes_on, due_ended}
use Rattle.plane_run.proofs.lines.carry_script.Goals as goal

pub returns-in-Ok-Lines-clause-goes : goal.returns-in-Ok-Lines-clause-goes
returns-in-Ok-Lines-clause-goes g c =
    let start = world_of c.args.now c.args.store.now c.args.callers.now c.args.net.now in
    let words = supply_of c.args.callers.now.spare.word (g.R.Random.words c.args.random.now) in
    let input = source_of g.S.Source c.args.input.now c.read_script.new.input in
    let files = g.D.Disk.view c.carry_lines.new.files in
    let staged = g.T.Disk.view c.carry_lines.new.staged in
    let stage : Stage = record {
      words = words;
      input = input;
      disks = faults_of (g.D.Disk.view c.args.files.now) files (g.T.Disk.view c.args.staged.now) staged;
      files_now = files;
      staged_now = staged;
      images = λ lines. StaysOrStopsIn c.args.store.now g.D.Disk.view c.args.files.now
          c.carry_lines.new.files (ScriptPasses start words lines);
      between = outside_of g.O.Sink g.K.Kernel c.args.out.now c.args.kernel.now;
      after = outside_of g.O.Sink g.K.Kernel c.carry_lines.new.out c.carry_lines.new.kernel;
    } in
    lines_go_on start stage c.as_slice.result.now c.carry_lines.result
    (subst (λ lines. HasRead input (Lines lines)) (sym c.as_slice.ensures)
    (subst (HasRead input) c.in-Ok-Lines.field-0-is c.in-Ok-Lines.ensures.read))
    (c.carry_lines.ensures.ends input)

pub returns-in-Ok-Lines-clause-random : goal.returns-in-Ok-Lines-clause-random
returns-in-Ok-Lines-clause-random g c =
    let input = source_of g.S.Source c.args.input.now c.read_script.new.input in inr (
      c.as_slice.result.now,
      subst (λ lines. HasRead input (Lines lines)) (sym c.as_slice.ensures)
          (subst (HasRead input) c.in-Ok-Lines.field-0-is c.in-Ok-Lines.ensures.read),
      c.carry_lines.ensures.random,
    )

pub returns-in-Ok-clause-goes : goal.returns-in-Ok-clause-goes
returns-in-Ok-clause-goes g c =
    let start = world_of c.args.now c.args.store.now c.args.callers.now c.args.net.now in
    let words = supply_of c.args.callers.now.spare.word (g.R.Random.words c.args.random.now) in
    let files = g.D.Disk.view c.args.files.now in
    let staged = g.T.Disk.view c.args.staged.now in
    let stage : Stage = record {
      words = words;
      input = source_of g.S.Source c.args.input.now c.read_script.new.input;
      disks = faults_of files files staged staged;
      files_now = files;
      staged_now = staged;
      images = λ lines. StaysOrStopsIn c.args.store.now g.D.Disk.view c.args.files.now c.args.files.now
          (ScriptPasses start words lines);
      between = outside_of g.O.Sink g.K.Kernel c.args.out.now c.args.kernel.now;
      after = outside_of g.O.Sink g.K.Kernel c.answer_bad.new.out c.args.kernel.now;
    } in
    let opening = c.requires.open in
    subst (GoesOn start stage) (sym c.end_of.ensures)
    (bad_ended start stage c.in-Ok-Bad.line
    (subst (HasRead stage.input) c.in-Ok-Bad.field-0-is c.in-Ok-Bad.ensures.read)
    (held files staged c.args.store.now opening.files opening.staged opening.ready) c.requires.of.objects
    c.requires.of.devices refl refl refl refl refl
    c.in-Ok.ensures.1 c.due.result c.in-Ok.ensures.0 c.due.ensures)

pub returns-in-Ok-clause-due : goal.returns-in-Ok-clause-due
returns-in-Ok-clause-due g c = λ holds failed.
    let faults = g.K.Kernel.faults c.args.kernel.now in
    due_ended false c.due.result (set_of c.args.net.now.held) (want_of c.args.net.now.inputs)
    (g.K.Kernel.objects c.args.kernel.now) faults faults c.due.ensures c.requires.of.objects (inl holds)
    (subst IsKernelFailed c.end_of.ensures failed)

pub returns-in-Err-answer_bad-clause-goes : goal.returns-in-Err-answer_bad-clause-goes
returns-in-Err-answer_bad-clause-goes g c =
    let start = world_of c.args.now c.args.store.now c.args.callers.now c.args.net.now in
    let words = supply_of c.args.callers.now.spare.word (g.R.Random.words c.args.random.now) in
    let files = g.D.Disk.view c.args.files.now in
    let staged = g.T.Disk.view c.args.staged.now in
    let before = outside_of g.O.Sink g.K.Kernel c.args.out.now c.args.kernel.now in
    let stage : Stage = record {
      words = words;
      input = source_of g.S.Source c.args.input.now c.read_script.new.input;
      disks = faults_of files files staged staged;
      files_now = files;
      staged_now = staged;
      images = λ lines. StaysOrStopsIn c.args.store.now g.D.Disk.view c.args.files.now c.args.files.now
          (ScriptPasses start words lines);
      between = before;
      after = outside_of g.O.Sink g.K.Kernel c.answer_bad.new.out c.args.kernel.now;
    } in
    let opening = c.requires.open in
    bad_goes_on (Unit {0}) start stage c.in-Ok-Bad.line c.in-Err-answer_bad.end
    (subst (HasRead stage.input) c.in-Ok-Bad.field-0-is c.in-Ok-Bad.ensures.read)
    (held files staged c.args.store.now opening.files opening.staged opening.ready) c.requires.of.objects
    c.requires.of.devices refl refl refl refl refl
    (λ out faults i. record {
      out = out i;
      asked = before.asked;
      calls = before.calls;
      devices = before.devices;
      objects = before.objects;
      kernel_faults = before.kernel_faults;
      out_faults = faults i;
    })
    c.in-Err-answer_bad.ensures

pub returns-in-Err-clause-goes : goal.returns-in-Err-clause-goes
returns-in-Err-clause-goes g c =
    let start = world_of c.args.now c.args.store.now c.args.callers.now c.args.net.now in
    let words = supply_of c.args.callers.now.spare.word (g.R.Random.words c.args.random.now) in
    let files = g.D.Disk.view c.args.files.now in
    let staged = g.T.Disk.view c.args.staged.now in
    let stage : Stage = record {
      words = words;
      input = source_of g.S.Source c.args.input.now c.read_script.new.input;
      disks = faults_of files files staged staged;
      files_now = files;
      staged_now = staged;
      images = λ lines. StaysOrStopsIn c.args.store.now g.D.Disk.view c.args.files.now c.args.files.now
          (ScriptPasses start words lines);
      between = outside_of g.O.Sink g.K.Kernel c.args.out.now c.args.kernel.now;
      after = outside_of g.O.Sink g.K.Kernel c.args.out.now c.args.kernel.now;
    } in
    let opening = c.requires.open in
    unread_goes_on start stage c.in-Err.end c.in-Err.ensures.refused refl
    (held files staged c.args.store.now opening.files opening.staged opening.ready)

pub returns-in-Ok-clause-random : goal.returns-in-Ok-clause-random
returns-in-Ok-clause-random g c = inl refl

pub returns-in-Err-answer_bad-clause-random : goal.returns-in-Err-answer_bad-clause-random
returns-in-Err-answer_bad-clause-random g c = inl refl

pub returns-in-Err-clause-random : goal.returns-in-Err-clause-random
returns-in-Err-clause-random g c = inl refl
