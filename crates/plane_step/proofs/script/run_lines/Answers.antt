use Rattle.std.proofs.Common.{◌≡◌, inl, [], ◌∷◌, ◌++◌, refl, ap, sym, subst, ◌∙◌, append_assoc}
use Rattle.std.specs.Prelude.{Ok, Err}
use Rattle.net_settle.specs.Outside.{outside_of}
use Rattle.plane_step.proofs.StoreLemmas.{stays_itself, stays_both, stays_as}
use Rattle.rpc_objects.specs.Passed.{StaysOrStopsIn}
use Rattle.plane_outside.specs.Supply.{supply_of}
use Rattle.bus_lines.specs.Ended.{world_of}
use Rattle.plane_step.specs.Passed.{LinePasses}
use Rattle.plane_step.specs.Plain.{ArePlain}
use Rattle.plane_step.specs.ScriptPasses.{ScriptPasses}
use Rattle.plane_step.specs.Ran.{Ran}
use Rattle.plane_step.proofs.StepPassLemmas.{images_join, front_passes, line_passes}
use Rattle.plane_step.proofs.ScriptLemmas.{none_ran, ran_more, stops_in, all_done, due_more}
use Rattle.plane_step.proofs.script.run_lines.Goals as goal

pub loop-line-init : goal.loop-line-init
loop-line-init g c = record {
  ran = (
    [],
    refl,
    none_ran (world_of c.args.moment.now c.args.store.now c.args.callers.now c.args.net.now)
        (supply_of c.args.callers.now.spare.word (g.R.Random.words c.args.random.now))
        (outside_of g.O.Sink g.K.Kernel c.args.out.now c.args.kernel.now),
    inl refl,
  );
  told = c.requires.told;
  of = c.requires.of;
  stays = stays_itself (Ok (tt {0})) c.args.store.now (g.D.Disk.view c.args.files.now) (g.T.Disk.view c.args.staged.now) c.requires.open;
  due = λ holds. inl holds;
  random = λ plain. (refl, plain);
}

pub loop-line-preserved : goal.loop-line-preserved
loop-line-preserved g c =
    let so_far = c.loop-line.invariant.ran in
    let line = c.in-Some.line.now in
    let others = c.in-Some.others.now in
    let start = world_of c.args.moment.now c.args.store.now c.args.callers.now c.args.net.now in
    let world = world_of c.loop-line.moment c.loop-line.store c.loop-line.callers c.loop-line.net in
    let supply = supply_of c.args.callers.now.spare.word (g.R.Random.words c.args.random.now) in
    let mid = supply_of c.loop-line.callers.spare.word (g.R.Random.words c.loop-line.random) in
    let before = outside_of g.O.Sink g.K.Kernel c.args.out.now c.args.kernel.now in
    let between = outside_of g.O.Sink g.K.Kernel c.loop-line.out c.loop-line.kernel in
    let parts : c.args.lines.now ≡ so_far.0 ++ line ∷ others =
    so_far.1 ∙ ap (λ rest. so_far.0 ++ rest) c.in-Some.ensures.cases.0 in
    let stays = c.loop-line.invariant.stays in
    record {
      ran = (
        so_far.0 ++ line ∷ [],
        parts ∙ sym (append_assoc so_far.0 (line ∷ []) others),
        ran_more start so_far.0 line world
            (world_of c.carry_out.new.moment c.carry_out.new.store c.carry_out.new.callers c.carry_out.new.net)
            supply mid (supply_of c.carry_out.new.callers.spare.word (g.R.Random.words c.carry_out.new.random))
            before between (outside_of g.O.Sink g.K.Kernel c.carry_out.new.out c.carry_out.new.kernel)
            c.loop-line.is_ok c.in-Ok.fine so_far.2 c.in-Ok.ensures.ends,
        images_join g.D.Disk.view c.args.store.now c.loop-line.store c.args.files.now c.loop-line.files
            c.carry_out.new.files (ScriptPasses start supply so_far.0) (LinePasses world line)
            (ScriptPasses start supply (so_far.0 ++ line ∷ []))
            stays.same (stays.files.ready (stays.ready (λ e. cc e)))
            (front_passes start supply so_far.0 (line ∷ []) (so_far.0 ++ line ∷ []) refl)
            (line_passes start world so_far.0 before between c.loop-line.is_ok supply mid so_far.2 line)
            so_far.3 c.in-Ok.ensures.images,
      );
      told = c.in-Ok.ensures.told;
      of = c.carry_out.ensures.of;
      stays = stays_both (tt {0}) (Ok (tt {0})) c.args.store.now c.loop-line.store c.carry_out.new.store
          (g.D.Disk.view c.args.files.now) (g.D.Disk.view c.loop-line.files) (g.D.Disk.view c.carry_out.new.files)
          (g.T.Disk.view c.args.staged.now) (g.T.Disk.view c.loop-line.staged) (g.T.Disk.view c.carry_out.new.staged)
          stays
          (stays_as c.in-Ok.fine (Ok (tt {0})) c.loop-line.store c.carry_out.new.store
          (g.D.Disk.view c.loop-line.files) (g.D.Disk.view c.carry_out.new.files)
          (g.T.Disk.view c.loop-line.staged) (g.T.Disk.view c.carry_out.new.staged) c.in-Ok.ensures.disks);
      due = λ holds. due_more _ (g.K.Kernel.faults c.args.kernel.now) (g.K.Kernel.faults c.loop-line.kernel)
          (g.K.Kernel.faults c.carry_out.new.kernel) _ _ so_far.2.left.cause c.in-Ok.ensures.due;
      random = λ plain.
          let so = c.loop-line.invariant.random plain in
          let here = subst ArePlain c.in-Some.ensures.cases.0 so.1 in
          (c.carry_out.ensures.random here.0 ∙ so.0, here.1);
    }

pub returns-in-Err-clause-ends : goal.returns-in-Err-clause-ends
returns-in-Err-clause-ends g c =
    let so_far = c.loop-line.invariant.ran in
    let line = c.in-Some.line.now in
    let start = world_of c.args.moment.now c.args.store.now c.args.callers.now c.args.net.now in
    let world = world_of c.loop-line.moment c.loop-line.store c.loop-line.callers c.loop-line.net in
    let supply = supply_of c.args.callers.now.spare.word (g.R.Random.words c.args.random.now) in
    let mid = supply_of c.loop-line.callers.spare.word (g.R.Random.words c.loop-line.random) in
    let before = outside_of g.O.Sink g.K.Kernel c.args.out.now c.args.kernel.now in
    let between = outside_of g.O.Sink g.K.Kernel c.loop-line.out c.loop-line.kernel in
    let parts : c.args.lines.now ≡ so_far.0 ++ line ∷ c.in-Some.others.now =
    so_far.1 ∙ ap (λ rest. so_far.0 ++ rest) c.in-Some.ensures.cases.0 in
    let stays = c.loop-line.invariant.stays in
    stops_in start c.args.lines.now so_far.0 line c.in-Some.others.now parts world
    (world_of c.carry_out.new.moment c.carry_out.new.store c.carry_out.new.callers c.carry_out.new.net)
    supply mid (supply_of c.carry_out.new.callers.spare.word (g.R.Random.words c.carry_out.new.random))
    before between (outside_of g.O.Sink g.K.Kernel c.carry_out.new.out c.carry_out.new.kernel)
    c.loop-line.is_ok so_far.2
    (λ front. StaysOrStopsIn c.args.store.now g.D.Disk.view c.args.files.now c.carry_out.new.files
    (ScriptPasses start supply front))
    (images_join g.D.Disk.view c.args.store.now c.loop-line.store c.args.files.now c.loop-line.files
    c.carry_out.new.files (ScriptPasses start supply so_far.0) (LinePasses world line)
    (ScriptPasses start supply (so_far.0 ++ line ∷ []))
    stays.same (stays.files.ready (stays.ready (λ e. cc e)))
    (front_passes start supply so_far.0 (line ∷ []) (so_far.0 ++ line ∷ []) refl)
    (line_passes start world so_far.0 before between c.loop-line.is_ok supply mid so_far.2 line)
    so_far.3 c.in-Err.ensures.images)
    (g.D.Disk.view c.args.files.now).faults (g.T.Disk.view c.args.staged.now).faults
    (g.D.Disk.view c.loop-line.files).faults (g.D.Disk.view c.carry_out.new.files).faults
    (g.T.Disk.view c.loop-line.staged).faults (g.T.Disk.view c.carry_out.new.staged).faults
    stays.same.later stays.follows.later c.in-Err.stop c.in-Err.ensures.ends

pub returns-in-Err-clause-disks : goal.returns-in-Err-clause-disks
returns-in-Err-clause-disks g c =
    stays_both (tt {0}) (Err c.in-Err.stop) c.args.store.now c.loop-line.store c.carry_out.new.store
    (g.D.Disk.view c.args.files.now) (g.D.Disk.view c.loop-line.files) (g.D.Disk.view c.carry_out.new.files)
    (g.T.Disk.view c.args.staged.now) (g.T.Disk.view c.loop-line.staged) (g.T.Disk.view c.carry_out.new.staged)
    c.loop-line.invariant.stays c.in-Err.ensures.disks

pub returns-in-Err-clause-random : goal.returns-in-Err-clause-random
returns-in-Err-clause-random g c = λ plain.
    let so = c.loop-line.invariant.random plain in
    c.carry_out.ensures.random (subst ArePlain c.in-Some.ensures.cases.0 so.1).0 ∙ so.0

pub returns-in-Err-clause-images : goal.returns-in-Err-clause-images
returns-in-Err-clause-images g c =
    let so_far = c.loop-line.invariant.ran in
    let line = c.in-Some.line.now in
    let others = c.in-Some.others.now in
    let start = world_of c.args.moment.now c.args.store.now c.args.callers.now c.args.net.now in
    let world = world_of c.loop-line.moment c.loop-line.store c.loop-line.callers c.loop-line.net in
    let supply = supply_of c.args.callers.now.spare.word (g.R.Random.words c.args.random.now) in
    let mid = supply_of c.loop-line.callers.spare.word (g.R.Random.words c.loop-line.random) in
    let before = outside_of g.O.Sink g.K.Kernel c.args.out.now c.args.kernel.now in
    let between = outside_of g.O.Sink g.K.Kernel c.loop-line.out c.loop-line.kernel in
    let all : (so_far.0 ++ line ∷ []) ++ others ≡ c.args.lines.now =
    append_assoc so_far.0 (line ∷ []) others
    ∙ sym (so_far.1 ∙ ap (λ rest. so_far.0 ++ rest) c.in-Some.ensures.cases.0) in
    let stays = c.loop-line.invariant.stays in
    images_join g.D.Disk.view c.args.store.now c.loop-line.store c.args.files.now c.loop-line.files
    c.carry_out.new.files (ScriptPasses start supply so_far.0) (LinePasses world line)
    (ScriptPasses start supply c.args.lines.now) stays.same (stays.files.ready (stays.ready (λ e. cc e)))
    (λ found h. front_passes start supply (so_far.0 ++ line ∷ []) others c.args.lines.now all found
    (front_passes start supply so_far.0 (line ∷ []) (so_far.0 ++ line ∷ []) refl found h))
    (λ found h. front_passes start supply (so_far.0 ++ line ∷ []) others c.args.lines.now all found
    (line_passes start world so_far.0 before between c.loop-line.is_ok supply mid so_far.2 line found h))
    so_far.3 c.in-Err.ensures.images

pub returns-clause-ends : goal.returns-clause-ends
returns-clause-ends g c =
    let so_far = c.loop-line.invariant.ran in
    let start = world_of c.args.moment.now c.args.store.now c.args.callers.now c.args.net.now in
    let supply = supply_of c.args.callers.now.spare.word (g.R.Random.words c.args.random.now) in
    let all = all_done c.args.lines.now so_far.0 c.loop-line.rest.now so_far.1 c.in_default.ensures.cases in (
      subst (λ lines. Ran start lines
          (world_of c.loop-line.moment c.loop-line.store c.loop-line.callers c.loop-line.net)
          (record {
            before = supply;
            after = supply_of c.loop-line.callers.spare.word (g.R.Random.words c.loop-line.random);
          })
          (outside_of g.O.Sink g.K.Kernel c.args.out.now c.args.kernel.now)
          (outside_of g.O.Sink g.K.Kernel c.loop-line.out c.loop-line.kernel) c.loop-line.is_ok)
          all so_far.2,
      subst (λ lines. StaysOrStopsIn c.args.store.now g.D.Disk.view c.args.files.now c.loop-line.files
          (ScriptPasses start supply lines)) all so_far.3,
    )

pub returns-clause-disks : goal.returns-clause-disks
returns-clause-disks g c =
    stays_as (tt {0}) (Ok c.loop-line.is_ok) c.args.store.now c.loop-line.store
    (g.D.Disk.view c.args.files.now) (g.D.Disk.view c.loop-line.files)
    (g.T.Disk.view c.args.staged.now) (g.T.Disk.view c.loop-line.staged) c.loop-line.invariant.stays

pub returns-clause-images : goal.returns-clause-images
returns-clause-images g c =
    let so_far = c.loop-line.invariant.ran in
    let start = world_of c.args.moment.now c.args.store.now c.args.callers.now c.args.net.now in
    let supply = supply_of c.args.callers.now.spare.word (g.R.Random.words c.args.random.now) in
    subst (λ lines. StaysOrStopsIn c.args.store.now g.D.Disk.view c.args.files.now c.loop-line.files
    (ScriptPasses start supply lines))
    (all_done c.args.lines.now so_far.0 c.loop-line.rest.now so_far.1 c.in_default.ensures.cases) so_far.3

pub returns-clause-random : goal.returns-clause-random
returns-clause-random g c = λ plain. (c.loop-line.invariant.random plain).0
