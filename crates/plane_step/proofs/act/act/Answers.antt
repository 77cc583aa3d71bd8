use Rattle.std.proofs.Common.{◌≡◌, [], Option, Some, sym, subst}
use Rattle.std.specs.Prelude.{Result}
use Rattle.script_lines.specs.declared.script_line.ScriptLine.{ScriptLine}
use Rattle.script_lines.specs.declared.script_line.ScriptLine.TheVariants as line
use Rattle.step_net.specs.Taken.{telled_of}
use Rattle.plane_step.specs.declared.stop.Stop.{Stop}
use Rattle.plane_step.specs.StoreKept.{StaysOn}
use Rattle.rpc_objects.specs.Kept.{faults_of}
use Rattle.rpc_objects.specs.Passed.{StaysOrStopsIn}
use Rattle.bus_lines.specs.declared.callers.SpareWord.{SpareWord}
use Rattle.bus_lines.specs.declared.handled.Handled.{Handled}
use Rattle.plane_outside.specs.Supply.{supply_of}
use Rattle.bus_lines.specs.Passed.{LinePasses as CallerPasses}
use Rattle.bus_lines.specs.Ended.{Seen, world_of}
use Rattle.plane_step.specs.Passed.{Passes, PlainPasses}
use Rattle.plane_step.specs.Done.{Ends, line_for}
use Rattle.plane_step.specs.Plain.{IsPlain}
use Rattle.plane_step.proofs.StepLiftLemmas.{read_ends, caller_is_not_plain, caller_ends, caller_passes, call_tells, nobodys_ends, nobodys_passes}
use Rattle.plane_step.proofs.StepStoreLemmas.{call_stays}
use Rattle.plane_step.proofs.StepPassLemmas.{images_more}
use Rattle.plane_step.proofs.act.act.Goals as goal

pub returns-in-Moment-clause-ends : goal.returns-in-Moment-clause-ends
returns-in-Moment-clause-ends g c =
    let world = world_of c.args.moment.now c.args.store.now c.args.callers.now c.args.net.now in
    let now = world_of c.go_to.new.moment c.go_to.new.store c.go_to.new.callers c.go_to.new.net in
    let kernel = telled_of g.K.Kernel c.args.kernel.now c.go_to.new.kernel in
    let words = g.R.Random.words c.args.random.now in
    let supply = supply_of c.args.callers.now.spare.word words in
    let disks = faults_of (g.D.Disk.view c.args.files.now) (g.D.Disk.view c.go_to.new.files)
    (g.T.Disk.view c.args.staged.now) (g.T.Disk.view c.go_to.new.staged) in
    subst (λ (spare : SpareWord). Ends world c.args.number c.args.line now
    (record { kernel = kernel; supply = supply; supply_now = supply_of spare.word words; disks = disks })
    c.go_to.result) (sym c.go_to.ensures.spare)
    (read_ends world c.args.number c.args.line (Some (line.At c.in-Moment.next)) now
    (record { kernel = kernel; supply = supply; supply_now = supply; disks = disks }) c.go_to.result
    c.in-Moment.ensures (c.go_to.ensures.ends supply))

pub returns-in-Moment-clause-images : goal.returns-in-Moment-clause-images
returns-in-Moment-clause-images g c =
    let world = world_of c.args.moment.now c.args.store.now c.args.callers.now c.args.net.now in
    subst (λ (read : Option ScriptLine). StaysOrStopsIn c.args.store.now g.D.Disk.view c.args.files.now c.go_to.new.files
    (Passes world c.args.number read)) (sym c.in-Moment.ensures) c.go_to.ensures.images

pub returns-in-Caller-clause-ends : goal.returns-in-Caller-clause-ends
returns-in-Caller-clause-ends g c =
    let world = world_of c.args.moment.now c.args.store.now c.args.callers.now c.args.net.now in
    let new = c.carry_caller_line.new in
    let now = world_of c.args.moment.now new.store new.callers new.net in
    let seen : Seen = record {
      kernel = telled_of g.K.Kernel c.args.kernel.now new.kernel;
      supply = supply_of c.args.callers.now.spare.word (g.R.Random.words c.args.random.now);
      supply_now = supply_of new.callers.spare.word (g.R.Random.words new.random);
      disks = faults_of (g.D.Disk.view c.args.files.now) (g.D.Disk.view new.files)
          (g.T.Disk.view c.args.staged.now) (g.T.Disk.view new.staged);
    } in
    read_ends world c.args.number c.args.line (line_for c.in-Caller.asked) now seen c.or_stop.result
    c.in-Caller.ensures
    (subst (λ (r : Result Handled Stop). Ends world c.args.number (line_for c.in-Caller.asked) now seen r)
    (sym c.or_stop.ensures)
    (caller_ends world c.args.number c.in-Caller.asked now seen c.carry_caller_line.result
    c.carry_caller_line.ensures.ends))

pub returns-in-Caller-clause-disks : goal.returns-in-Caller-clause-disks
returns-in-Caller-clause-disks g c =
    let new = c.carry_caller_line.new in
    subst (λ (r : Result Handled Stop). StaysOn r c.args.store.now new.store (g.D.Disk.view c.args.files.now)
    (g.D.Disk.view new.files) (g.T.Disk.view c.args.staged.now) (g.T.Disk.view new.staged)) (sym c.or_stop.ensures)
    (call_stays c.carry_caller_line.result c.args.store.now new.store (g.D.Disk.view c.args.files.now)
    (g.D.Disk.view new.files) (g.T.Disk.view c.args.staged.now) (g.T.Disk.view new.staged)
    c.carry_caller_line.ensures.disks)

pub returns-in-Caller-clause-images : goal.returns-in-Caller-clause-images
returns-in-Caller-clause-images g c =
    let world = world_of c.args.moment.now c.args.store.now c.args.callers.now c.args.net.now in
    subst (λ (read : Option ScriptLine). StaysOrStopsIn c.args.store.now g.D.Disk.view c.args.files.now
    c.carry_caller_line.new.files (Passes world c.args.number read)) (sym c.in-Caller.ensures)
    (images_more g.D.Disk.view c.args.store.now c.args.files.now c.carry_caller_line.new.files
    (CallerPasses world c.args.number c.in-Caller.asked) (Passes world c.args.number (line_for c.in-Caller.asked))
    (caller_passes world c.args.number c.in-Caller.asked) c.carry_caller_line.ensures.images)

pub returns-in-Caller-clause-told : goal.returns-in-Caller-clause-told
returns-in-Caller-clause-told g c =
    call_tells (c.carry_caller_line.new.net.notices ≡ []) c.carry_caller_line.result c.or_stop.result c.or_stop.ensures c.carry_caller_line.ensures.told

pub returns-in-Caller-clause-random : goal.returns-in-Caller-clause-random
returns-in-Caller-clause-random g c = λ plain.
    absurd (caller_is_not_plain c.in-Caller.asked (subst IsPlain c.in-Caller.ensures plain))

pub returns-in-Nobody-clause-ends : goal.returns-in-Nobody-clause-ends
returns-in-Nobody-clause-ends g c =
    let world = world_of c.args.moment.now c.args.store.now c.args.callers.now c.args.net.now in
    let new = c.act_plainly.new in
    let now = world_of new.moment new.store c.args.callers.now new.net in
    let supply = supply_of c.args.callers.now.spare.word (g.R.Random.words c.args.random.now) in
    let seen : Seen = record {
      kernel = telled_of g.K.Kernel c.args.kernel.now new.kernel;
      supply = supply;
      supply_now = supply;
      disks = faults_of (g.D.Disk.view c.args.files.now) (g.D.Disk.view new.files)
          (g.T.Disk.view c.args.staged.now) (g.T.Disk.view new.staged);
    } in
    read_ends world c.args.number c.args.line c.in-Nobody.line now seen c.act_plainly.result
    c.in-Nobody.ensures.0
    (nobodys_ends world c.args.number c.in-Nobody.line now seen c.act_plainly.result c.in-Nobody.ensures.1
    (c.act_plainly.ensures.ends c.args.callers.now supply))

pub returns-in-Nobody-clause-images : goal.returns-in-Nobody-clause-images
returns-in-Nobody-clause-images g c =
    let world = world_of c.args.moment.now c.args.store.now c.args.callers.now c.args.net.now in
    subst (λ (read : Option ScriptLine). StaysOrStopsIn c.args.store.now g.D.Disk.view c.args.files.now
    c.act_plainly.new.files (Passes world c.args.number read)) (sym c.in-Nobody.ensures.0)
    (images_more g.D.Disk.view c.args.store.now c.args.files.now c.act_plainly.new.files
    (PlainPasses world c.in-Nobody.line) (Passes world c.args.number c.in-Nobody.line)
    (λ folder. nobodys_passes world c.args.number c.in-Nobody.line folder c.in-Nobody.ensures.1)
    (c.act_plainly.ensures.images c.args.callers.now))
