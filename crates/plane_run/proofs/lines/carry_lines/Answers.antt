use Rattle.std.proofs.Common.{sym, subst}
use Rattle.kern_model.specs.ObjectOrder.{set_of}
use Rattle.net_rules.specs.Moment.{want_of}
use Rattle.net_settle.specs.Outside.{outside_of}
use Rattle.uci_tool.specs.Ends.{Stream}
use Rattle.uci_tool.proofs.FolderRunLemmas.{held}
use Rattle.rpc_objects.specs.Passed.{StaysOrStopsIn}
use Rattle.bus_lines.specs.Ended.{world_of}
use Rattle.plane_outside.specs.Supply.{supply_of}
use Rattle.plane_step.specs.Kept.{faults_of}
use Rattle.plane_step.specs.ScriptPasses.{ScriptPasses}
use Rattle.plane_run.specs.Run.{Stage, IsKernelFailed}
use Rattle.plane_run.specs.Parts.{LinesEnd}
use Rattle.plane_run.proofs.LinesLemmas.{lines_ended, lines_stopped, due_ended}
use Rattle.plane_run.proofs.lines.carry_lines.Goals as goal

pub returns-in-Ok-clause-ends : goal.returns-in-Ok-clause-ends
returns-in-Ok-clause-ends g c = λ (input : Stream).
    let start = world_of c.args.now c.args.store.now c.args.callers.now c.args.net.now in
    let words = supply_of c.args.callers.now.spare.word (g.R.Random.words c.args.random.now) in
    let files = g.D.Disk.view c.run_lines.new.files in
    let staged = g.T.Disk.view c.run_lines.new.staged in
    let stage : Stage = record {
      words = words;
      input = input;
      disks = faults_of (g.D.Disk.view c.args.files.now) files (g.T.Disk.view c.args.staged.now) staged;
      files_now = files;
      staged_now = staged;
      images = λ front. StaysOrStopsIn c.args.store.now g.D.Disk.view c.args.files.now
          c.run_lines.new.files (ScriptPasses start words front);
      between = outside_of g.O.Sink g.K.Kernel c.args.out.now c.args.kernel.now;
      after = outside_of g.O.Sink g.K.Kernel c.run_lines.new.out c.run_lines.new.kernel;
    } in
    let stays = c.in-Ok.ensures.disks in
    subst (LinesEnd start c.args.lines.now stage) (sym c.end_of.ensures)
    (lines_ended start c.args.lines.now stage
    (supply_of c.run_lines.new.callers.spare.word (g.R.Random.words c.run_lines.new.random))
    (world_of c.run_lines.new.moment c.run_lines.new.store c.run_lines.new.callers c.run_lines.new.net)
    c.in-Ok.is_ok c.due.result c.in-Ok.ensures.ends.0 c.run_lines.ensures.of.objects
    c.run_lines.ensures.of.devices
    (held files staged c.run_lines.new.store stays.files stays.staged (stays.ready (λ e. cc e)))
    c.due.ensures)

pub returns-in-Ok-clause-due : goal.returns-in-Ok-clause-due
returns-in-Ok-clause-due g c = λ holds failed.
    due_ended c.in-Ok.is_ok c.due.result (set_of c.run_lines.new.net.held) (want_of c.run_lines.new.net.inputs)
    (g.K.Kernel.objects c.run_lines.new.kernel) (g.K.Kernel.faults c.args.kernel.now)
    (g.K.Kernel.faults c.run_lines.new.kernel) c.due.ensures c.run_lines.ensures.of.objects
    (c.in-Ok.ensures.due holds) (subst IsKernelFailed c.end_of.ensures failed)

pub returns-in-Err-clause-ends : goal.returns-in-Err-clause-ends
returns-in-Err-clause-ends g c = λ (input : Stream).
    let start = world_of c.args.now c.args.store.now c.args.callers.now c.args.net.now in
    let words = supply_of c.args.callers.now.spare.word (g.R.Random.words c.args.random.now) in
    let files = g.D.Disk.view c.run_lines.new.files in
    let staged = g.T.Disk.view c.run_lines.new.staged in
    let stage : Stage = record {
      words = words;
      input = input;
      disks = faults_of (g.D.Disk.view c.args.files.now) files (g.T.Disk.view c.args.staged.now) staged;
      files_now = files;
      staged_now = staged;
      images = λ front. StaysOrStopsIn c.args.store.now g.D.Disk.view c.args.files.now
          c.run_lines.new.files (ScriptPasses start words front);
      between = outside_of g.O.Sink g.K.Kernel c.args.out.now c.args.kernel.now;
      after = outside_of g.O.Sink g.K.Kernel c.run_lines.new.out c.run_lines.new.kernel;
    } in
    let stays = c.in-Err.ensures.disks in
    subst (LinesEnd start c.args.lines.now stage) (sym c.end_of_stop.ensures)
    (lines_stopped start c.args.lines.now stage
    (supply_of c.run_lines.new.callers.spare.word (g.R.Random.words c.run_lines.new.random))
    (world_of c.run_lines.new.moment c.run_lines.new.store c.run_lines.new.callers c.run_lines.new.net)
    c.in-Err.stop c.in-Err.ensures.ends
    (λ other. held files staged c.run_lines.new.store stays.files stays.staged
    (stays.ready (λ e. other (cc e)))))
