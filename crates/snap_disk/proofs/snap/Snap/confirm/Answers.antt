use Rattle.std.proofs.Common.{refl}
use Rattle.snap_disk.proofs.LoadLemmas.{same_phase}
use Rattle.snap_disk.proofs.ObjectLemmas.{opens_after, images_of_phase, confirm_images, confirm_shows}
use Rattle.snap_disk.proofs.snap.Snap.confirm.Goals as goal

pub returns-in-Ok-clause-open : goal.returns-in-Ok-clause-open
returns-in-Ok-clause-open g c =
    opens_after c.args.self.now _ _ _ _ _ _ c.in-Ok.ensures.phase c.requires.open c.if-self.false refl c.requires.open.within tt (confirm_shows _ c.args.self.now _ refl refl)

pub returns-in-Ok-clause-images : goal.returns-in-Ok-clause-images
returns-in-Ok-clause-images g c =
    images_of_phase c.args.self.now _ _ _ _ _ _ c.in-Ok.ensures.phase c.requires.open (confirm_images _ c.args.self.now _ c.in-Some.is c.requires.open.within)

pub returns-in-Err-clause-images : goal.returns-in-Err-clause-images
returns-in-Err-clause-images g c =
    images_of_phase c.args.self.now _ _ _ _ _ _ c.in-Err.ensures.phase c.requires.open (confirm_images _ c.args.self.now _ c.in-Some.is c.requires.open.within)

pub returns-in-Ok-clause-same : goal.returns-in-Ok-clause-same
returns-in-Ok-clause-same g c = same_phase _ _ _ _ _ c.in-Ok.ensures.phase c.in-Ok.ensures.cause.later

pub returns-in-Err-clause-same : goal.returns-in-Err-clause-same
returns-in-Err-clause-same g c = same_phase _ _ _ _ _ c.in-Err.ensures.phase c.in-Err.ensures.cause.later
