use Rattle.std.proofs.Common.{subst, sym}
use Rattle.snap_disk.specs.Open.{KeepsFiles}
use Rattle.snap_disk.proofs.LoadLemmas.{same_phase}
use Rattle.snap_disk.proofs.ObjectLemmas.{opens_after, images_of_phase, undo_images, undo_shows, rolled_packages, put_within, put_long}
use Rattle.snap_disk.proofs.snap.Snap.rollback.Goals as goal

pub returns-in-Ok-clause-open : goal.returns-in-Ok-clause-open
returns-in-Ok-clause-open g c =
    let snap = c.args.self.now in
    let is = rolled_packages snap c.settle.new.self c.in-Some.kept c.in-Some.is c.settle.ensures.state in
    let files = subst (KeepsFiles _) c.in-Some.is c.requires.open.kept in
    opens_after snap c.settle.new.self _ _ _ _ _ c.in-Ok.ensures.phase c.requires.open c.if-self.false (put_long c.in-Some.kept.files _ _ is) (put_within _ c.in-Some.kept.files _ _ files c.requires.open.within is)
    (subst (KeepsFiles _) (sym c.settle.ensures.none) tt) (undo_shows _ snap c.settle.new.self c.in-Some.kept _ c.as_slice.ensures is c.settle.ensures.none)

pub returns-in-Ok-clause-images : goal.returns-in-Ok-clause-images
returns-in-Ok-clause-images g c =
    images_of_phase c.args.self.now _ _ _ _ _ _ c.in-Ok.ensures.phase c.requires.open (undo_images _ c.args.self.now _ _ c.in-Some.is c.as_slice.ensures c.requires.open.within)

pub returns-in-Err-clause-images : goal.returns-in-Err-clause-images
returns-in-Err-clause-images g c =
    images_of_phase c.args.self.now _ _ _ _ _ _ c.in-Err.ensures.phase c.requires.open (undo_images _ c.args.self.now _ _ c.in-Some.is c.as_slice.ensures c.requires.open.within)

pub returns-in-Ok-clause-same : goal.returns-in-Ok-clause-same
returns-in-Ok-clause-same g c = same_phase _ _ _ _ _ c.in-Ok.ensures.phase c.in-Ok.ensures.cause.later

pub returns-in-Err-clause-same : goal.returns-in-Err-clause-same
returns-in-Err-clause-same g c = same_phase _ _ _ _ _ c.in-Err.ensures.phase c.in-Err.ensures.cause.later
