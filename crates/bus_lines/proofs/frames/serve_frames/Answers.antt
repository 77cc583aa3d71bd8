use Rattle.std.proofs.Common.{◌≡◌, inl, [], ◌∷◌, ◌++◌, refl, ap, sym, subst, ◌∙◌, append_assoc}
use Rattle.std.specs.Prelude.{Ok, Err}
use Rattle.step_net.specs.Taken.{telled_of}
use Rattle.rpc_objects.specs.Kept.{faults_of}
use Rattle.bus_lines.specs.Passed.{FramePasses, FramesPass}
use Rattle.bus_lines.specs.Ended.{world_of}
use Rattle.plane_outside.specs.Supply.{supply_of}
use Rattle.bus_lines.specs.Calling.{seen_by}
use Rattle.bus_lines.specs.Frames.{HasServed}
use Rattle.bus_lines.proofs.WordLemmas.{uses_none}
use Rattle.bus_lines.proofs.KeptLemmas.{stays_itself, stays_both, stays_as, stays_stopped, disk_rose, images_join}
use Rattle.bus_lines.proofs.KernelLemmas.{nothing_asked}
use Rattle.bus_lines.proofs.FramesLemmas.{none_served, one_more, one_passes, one_stopped, all_done}
use Rattle.bus_lines.proofs.frames.serve_frames.Goals as goal

pub loop-frame-init : goal.loop-frame-init
loop-frame-init g c =
    let world = world_of c.args.now c.args.store.now c.args.callers.now c.args.net.now in
    let files = g.D.Disk.view c.args.files.now in
    let staged = g.T.Disk.view c.args.staged.now in
    let words = g.R.Random.words c.args.random.now in
    let seen = seen_by (telled_of g.K.Kernel c.args.kernel.now c.args.kernel.now) c.args.callers.now
    c.args.callers.now words words (faults_of files files staged staged) in
    record {
      served = (
        [],
        refl,
        none_served world c.args.number seen c.new-gathered.result
            (nothing_asked (g.K.Kernel.asked c.args.kernel.now) (g.K.Kernel.faults c.args.kernel.now))
            (uses_none (supply_of c.args.callers.now.spare.word words))
            c.new-gathered.ensures.sent c.new-gathered.ensures.requests c.new-gathered.ensures.refusal,
      );
      told = c.requires.told;
      of = c.requires.of;
      calls = refl;
      stays = stays_itself (Ok (tt {0})) c.args.store.now files staged c.requires.open;
      images = inl refl;
    }

pub loop-frame-preserved : goal.loop-frame-preserved
loop-frame-preserved g c =
    let so_far = c.loop-frame.invariant.served in
    let frame = c.in-Some.frame.now in
    let others = c.in-Some.others.now in
    let world = world_of c.args.now c.args.store.now c.args.callers.now c.args.net.now in
    let at = world_of c.args.now c.loop-frame.store c.loop-frame.callers c.loop-frame.net in
    let next = world_of c.args.now c.serve_frame.new.store c.serve_frame.new.callers c.serve_frame.new.net in
    let parts : c.args.frames.now ≡ so_far.0 ++ frame ∷ others =
    so_far.1 ∙ ap (λ rest. so_far.0 ++ rest) c.in-Some.ensures.cases.0 in
    let stays = c.loop-frame.invariant.stays in
    let first_files = g.D.Disk.view c.args.files.now in
    let mid_files = g.D.Disk.view c.loop-frame.files in
    let last_files = g.D.Disk.view c.serve_frame.new.files in
    let first_staged = g.T.Disk.view c.args.staged.now in
    let mid_staged = g.T.Disk.view c.loop-frame.staged in
    let last_staged = g.T.Disk.view c.serve_frame.new.staged in
    let words = supply_of c.args.callers.now.spare.word (g.R.Random.words c.args.random.now) in
    let mid_words = supply_of c.loop-frame.callers.spare.word (g.R.Random.words c.loop-frame.random) in
    let last_words = supply_of c.serve_frame.new.callers.spare.word (g.R.Random.words c.serve_frame.new.random) in
    record {
      served = (
        so_far.0 ++ frame ∷ [],
        parts ∙ sym (append_assoc so_far.0 (frame ∷ []) others),
        one_more (g.K.Kernel.asked c.args.kernel.now) (g.K.Kernel.asked c.loop-frame.kernel)
            (g.K.Kernel.asked c.serve_frame.new.kernel) (g.K.Kernel.faults c.args.kernel.now)
            (g.K.Kernel.faults c.loop-frame.kernel) (g.K.Kernel.faults c.serve_frame.new.kernel)
            words mid_words last_words
            (faults_of first_files mid_files first_staged mid_staged)
            (faults_of mid_files last_files mid_staged last_staged)
            (faults_of first_files last_files first_staged last_staged)
            world c.args.number so_far.0 at c.loop-frame.gathered so_far.2 frame next
            c.serve_frame.new.gathered c.in-Ok.ensures.ends,
      );
      told = c.in-Ok.ensures.told;
      of = c.serve_frame.ensures.of;
      calls = c.serve_frame.ensures.calls ∙ c.loop-frame.invariant.calls;
      stays = stays_both (tt {0}) (Ok (tt {0})) c.args.store.now c.loop-frame.store c.serve_frame.new.store
          first_files mid_files last_files first_staged mid_staged last_staged stays c.in-Ok.ensures.disks;
      images = images_join g.D.Disk.view c.args.store.now c.loop-frame.store c.args.files.now
          c.loop-frame.files c.serve_frame.new.files
          (FramesPass world c.args.number c.args.frames.now) (FramePasses at c.args.number frame)
          (FramesPass world c.args.number c.args.frames.now) stays.same
          (stays.files.ready (stays.ready (λ e. cc e)))
          (λ folder h. h)
          (one_passes world c.args.number so_far.0 at _ c.loop-frame.gathered so_far.2 frame c.args.frames.now others parts)
          c.loop-frame.invariant.images c.in-Ok.ensures.images;
    }

pub returns-in-Err-clause-ends : goal.returns-in-Err-clause-ends
returns-in-Err-clause-ends g c =
    let so_far = c.loop-frame.invariant.served in
    let frame = c.in-Some.frame.now in
    let others = c.in-Some.others.now in
    let world = world_of c.args.now c.args.store.now c.args.callers.now c.args.net.now in
    let at = world_of c.args.now c.loop-frame.store c.loop-frame.callers c.loop-frame.net in
    let next = world_of c.args.now c.serve_frame.new.store c.serve_frame.new.callers c.serve_frame.new.net in
    let parts : c.args.frames.now ≡ so_far.0 ++ frame ∷ others =
    so_far.1 ∙ ap (λ rest. so_far.0 ++ rest) c.in-Some.ensures.cases.0 in
    let stays = c.loop-frame.invariant.stays in
    let first_files = g.D.Disk.view c.args.files.now in
    let mid_files = g.D.Disk.view c.loop-frame.files in
    let last_files = g.D.Disk.view c.serve_frame.new.files in
    let first_staged = g.T.Disk.view c.args.staged.now in
    let mid_staged = g.T.Disk.view c.loop-frame.staged in
    let last_staged = g.T.Disk.view c.serve_frame.new.staged in
    let words = supply_of c.args.callers.now.spare.word (g.R.Random.words c.args.random.now) in
    let mid_words = supply_of c.loop-frame.callers.spare.word (g.R.Random.words c.loop-frame.random) in
    let last_words = supply_of c.serve_frame.new.callers.spare.word (g.R.Random.words c.serve_frame.new.random) in
    one_stopped (g.K.Kernel.asked c.args.kernel.now) (g.K.Kernel.asked c.loop-frame.kernel)
    (g.K.Kernel.asked c.serve_frame.new.kernel) (g.K.Kernel.faults c.args.kernel.now)
    (g.K.Kernel.faults c.loop-frame.kernel) (g.K.Kernel.faults c.serve_frame.new.kernel)
    words mid_words last_words
    (faults_of first_files mid_files first_staged mid_staged)
    (faults_of mid_files last_files mid_staged last_staged)
    (faults_of first_files last_files first_staged last_staged)
    world c.args.number so_far.0 at c.loop-frame.gathered so_far.2 frame c.args.frames.now others parts
    (Unit {0}) next c.loop-frame.gathered c.serve_frame.new.gathered c.in-Err.stop
    (disk_rose first_files.faults first_staged.faults mid_files.faults last_files.faults
    mid_staged.faults last_staged.faults stays.same.later stays.follows.later) c.in-Err.ensures.ends

pub returns-in-Err-clause-disks : goal.returns-in-Err-clause-disks
returns-in-Err-clause-disks g c =
    stays_both (tt {0}) (Err c.in-Err.stop) c.args.store.now c.loop-frame.store c.serve_frame.new.store
    (g.D.Disk.view c.args.files.now) (g.D.Disk.view c.loop-frame.files) (g.D.Disk.view c.serve_frame.new.files)
    (g.T.Disk.view c.args.staged.now) (g.T.Disk.view c.loop-frame.staged) (g.T.Disk.view c.serve_frame.new.staged)
    c.loop-frame.invariant.stays
    (stays_stopped c.in-Err.stop c.loop-frame.store c.serve_frame.new.store
    (g.D.Disk.view c.loop-frame.files) (g.D.Disk.view c.serve_frame.new.files)
    (g.T.Disk.view c.loop-frame.staged) (g.T.Disk.view c.serve_frame.new.staged) c.in-Err.ensures.disks)

pub returns-in-Err-clause-images : goal.returns-in-Err-clause-images
returns-in-Err-clause-images g c =
    let so_far = c.loop-frame.invariant.served in
    let frame = c.in-Some.frame.now in
    let others = c.in-Some.others.now in
    let world = world_of c.args.now c.args.store.now c.args.callers.now c.args.net.now in
    let at = world_of c.args.now c.loop-frame.store c.loop-frame.callers c.loop-frame.net in
    let parts : c.args.frames.now ≡ so_far.0 ++ frame ∷ others =
    so_far.1 ∙ ap (λ rest. so_far.0 ++ rest) c.in-Some.ensures.cases.0 in
    let stays = c.loop-frame.invariant.stays in
    images_join g.D.Disk.view c.args.store.now c.loop-frame.store c.args.files.now
    c.loop-frame.files c.serve_frame.new.files
    (FramesPass world c.args.number c.args.frames.now) (FramePasses at c.args.number frame)
    (FramesPass world c.args.number c.args.frames.now) stays.same
    (stays.files.ready (stays.ready (λ e. cc e)))
    (λ folder h. h)
    (one_passes world c.args.number so_far.0 at _ c.loop-frame.gathered so_far.2 frame c.args.frames.now others parts)
    c.loop-frame.invariant.images c.in-Err.ensures.images

pub returns-clause-ends : goal.returns-clause-ends
returns-clause-ends g c =
    let so_far = c.loop-frame.invariant.served in
    let all = all_done c.args.frames.now so_far.0 c.loop-frame.rest.now so_far.1 c.in_default.ensures.cases in
    subst (λ frames. HasServed (world_of c.args.now c.args.store.now c.args.callers.now c.args.net.now)
    c.args.number frames (world_of c.args.now c.loop-frame.store c.loop-frame.callers c.loop-frame.net)
    (seen_by (telled_of g.K.Kernel c.args.kernel.now c.loop-frame.kernel) c.args.callers.now
    c.loop-frame.callers (g.R.Random.words c.args.random.now) (g.R.Random.words c.loop-frame.random)
    (faults_of (g.D.Disk.view c.args.files.now) (g.D.Disk.view c.loop-frame.files)
    (g.T.Disk.view c.args.staged.now) (g.T.Disk.view c.loop-frame.staged)))
    c.loop-frame.gathered) all so_far.2

pub returns-clause-disks : goal.returns-clause-disks
returns-clause-disks g c =
    stays_as (tt {0}) (Ok c.loop-frame.gathered) c.args.store.now c.loop-frame.store
    (g.D.Disk.view c.args.files.now) (g.D.Disk.view c.loop-frame.files)
    (g.T.Disk.view c.args.staged.now) (g.T.Disk.view c.loop-frame.staged) c.loop-frame.invariant.stays
