use Rattle.std.proofs.Common.{Some, None, false, refl, arith}
use Rattle.snap_disk.specs.Opening.{read_as}
use Rattle.snap_disk.specs.declared.snap.Snap.{Snap}
use Rattle.snap_disk.proofs.ObjectLemmas.{put_within, put_long}
use Rattle.snap_disk.proofs.LoadLemmas.{same_phase, opens_same, opens_held, opens_after, rested_shows, restored_images, undone_images}
use Rattle.snap_disk.proofs.opening.settle.Goals as goal

pub returns-then-gates-ne-OPEN-clause-open : goal.returns-then-gates-ne-OPEN-clause-open
returns-then-gates-ne-OPEN-clause-open g c =
    let snap : Snap = record { packages = c.args.packages; kept = None; failed = false } in
    opens_held snap _ _ c.holding.ensures
    (opens_same snap _ (read_as c.args.gates c.args.body.now c.args.packages.items) c.requires.count c.requires.within tt c.requires.on (record { packages = refl; waits = c.if-gates-ne-OPEN.true }), refl)

pub restore-requires-clause-laid : goal.restore-requires-clause-laid
restore-requires-clause-laid g c = λ f seen. (read_as c.args.gates c.args.body.now c.args.packages.items, c.requires.on f seen)

pub undo-requires-clause-laid : goal.undo-requires-clause-laid
undo-requires-clause-laid g c = λ f seen. (read_as c.args.gates c.args.body.now c.args.packages.items, c.requires.on f seen)

pub returns-in-Ok-restore-clause-open : goal.returns-in-Ok-restore-clause-open
returns-in-Ok-restore-clause-open g c =
    let files = c.in-Ok.kept.files in
    let ps = c.args.packages.items in
    let is = c.rested.ensures.packages in
    let long = put_long files ps c.rested.result.packages.items is in (
      opens_after c.rested.result _ _ (read_as c.args.gates c.args.body.now ps) _ _ _ c.in-Ok-restore.ensures.phase (omega (arith, c.requires.count, long)) (put_within _ files ps _ c.in-Ok.ensures.packages c.requires.within is)
          c.rested.ensures.none c.requires.on (rested_shows _ c.rested.result files _ ps _ refl refl c.as_slice.ensures is c.rested.ensures.none),
      c.rested.ensures.good,
    )

pub returns-in-Ok-restore-clause-images : goal.returns-in-Ok-restore-clause-images
returns-in-Ok-restore-clause-images g c =
    let l = read_as c.args.gates c.args.body.now c.args.packages.items in
    restored_images c.args.now c.in-Ok.kept _ l _ _ _ _ c.in-Ok-restore.ensures.phase c.as_slice.ensures c.requires.on (record { gate = c.if-gates-ne-OPEN.false; second_gate = c.if-gates-ne-OPEN-2.true; body = c.in-Ok.ensures.reads })
    c.requires.within

pub returns-in-Err-restore-clause-images : goal.returns-in-Err-restore-clause-images
returns-in-Err-restore-clause-images g c =
    let l = read_as c.args.gates c.args.body.now c.args.packages.items in
    restored_images c.args.now c.in-Ok.kept _ l _ _ _ _ c.in-Err-restore.ensures.phase c.as_slice.ensures c.requires.on (record { gate = c.if-gates-ne-OPEN.false; second_gate = c.if-gates-ne-OPEN-2.true; body = c.in-Ok.ensures.reads })
    c.requires.within

pub returns-then-now-kept-clause-open : goal.returns-then-now-kept-clause-open
returns-then-now-kept-clause-open g c =
    let snap : Snap = record { packages = c.args.packages; kept = Some c.in-Ok.kept; failed = false } in
    opens_held snap _ _ c.holding-then-now-kept.ensures (
      opens_same snap _ (read_as c.args.gates c.args.body.now c.args.packages.items) c.requires.count c.requires.within c.in-Ok.ensures.packages c.requires.on
          (record { packages = refl; waits = record { gate = c.if-gates-ne-OPEN.false; second_gate = c.if-gates-ne-OPEN-2.false; body = c.in-Ok.ensures.reads } }),
      refl,
    )

pub returns-in-Ok-undo-clause-open : goal.returns-in-Ok-undo-clause-open
returns-in-Ok-undo-clause-open g c =
    let files = c.in-Ok.kept.files in
    let ps = c.args.packages.items in
    let is = c.rested-in-Ok-undo.ensures.packages in
    let long = put_long files ps c.rested-in-Ok-undo.result.packages.items is in (
      opens_after c.rested-in-Ok-undo.result _ _ (read_as c.args.gates c.args.body.now ps) _ _ _ c.in-Ok-undo.ensures.phase (omega (arith, c.requires.count, long)) (put_within _ files ps _ c.in-Ok.ensures.packages c.requires.within is)
          c.rested-in-Ok-undo.ensures.none c.requires.on (rested_shows _ c.rested-in-Ok-undo.result files _ ps _ refl refl c.as_slice-2.ensures is c.rested-in-Ok-undo.ensures.none),
      c.rested-in-Ok-undo.ensures.good,
    )

pub returns-in-Ok-undo-clause-images : goal.returns-in-Ok-undo-clause-images
returns-in-Ok-undo-clause-images g c =
    let l = read_as c.args.gates c.args.body.now c.args.packages.items in
    undone_images c.args.now c.in-Ok.kept _ l _ _ _ _ c.in-Ok-undo.ensures.phase c.as_slice-2.ensures c.requires.on (record { gate = c.if-gates-ne-OPEN.false; second_gate = c.if-gates-ne-OPEN-2.false; body = c.in-Ok.ensures.reads })
    c.requires.within (omega (arith, c.if-now-kept.false))

pub returns-in-Err-undo-clause-images : goal.returns-in-Err-undo-clause-images
returns-in-Err-undo-clause-images g c =
    let l = read_as c.args.gates c.args.body.now c.args.packages.items in
    undone_images c.args.now c.in-Ok.kept _ l _ _ _ _ c.in-Err-undo.ensures.phase c.as_slice-2.ensures c.requires.on (record { gate = c.if-gates-ne-OPEN.false; second_gate = c.if-gates-ne-OPEN-2.false; body = c.in-Ok.ensures.reads })
    c.requires.within (omega (arith, c.if-now-kept.false))

pub returns-in-Ok-restore-clause-same : goal.returns-in-Ok-restore-clause-same
returns-in-Ok-restore-clause-same g c = same_phase _ _ _ _ _ c.in-Ok-restore.ensures.phase c.in-Ok-restore.ensures.cause.later

pub returns-in-Err-restore-clause-same : goal.returns-in-Err-restore-clause-same
returns-in-Err-restore-clause-same g c = same_phase _ _ _ _ _ c.in-Err-restore.ensures.phase c.in-Err-restore.ensures.cause.later

pub returns-in-Ok-undo-clause-same : goal.returns-in-Ok-undo-clause-same
returns-in-Ok-undo-clause-same g c = same_phase _ _ _ _ _ c.in-Ok-undo.ensures.phase c.in-Ok-undo.ensures.cause.later

pub returns-in-Err-undo-clause-same : goal.returns-in-Err-undo-clause-same
returns-in-Err-undo-clause-same g c = same_phase _ _ _ _ _ c.in-Err-undo.ensures.phase c.in-Err-undo.ensures.cause.later
