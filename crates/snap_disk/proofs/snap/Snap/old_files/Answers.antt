use Rattle.std.proofs.Common.{◌∙◌}
use Rattle.snap_disk.proofs.OldLemmas.{old_taken, old_passed}
use Rattle.snap_disk.proofs.snap.Snap.old_files.Goals as goal
use Rattle.snap_disk.proofs.snap.Snap.old_files.Goals.{then-has_number+in_ok-bytes+in_ok-push, else-has_number}

pub loop-index-preserved : goal.loop-index-preserved
loop-index-preserved c = elim c.if-has_number.branch [
  | then-has_number+in_ok-bytes+in_ok-push w ↦ old_taken c.args.new.now c.as_slice-packages.result.now _ _ _ c.loop-index.index _ _ _ c.loop-index-test.true w.if-has_number.true c.has_number.ensures w.in_ok-bytes.ensures
      w.index-packages-index.is c.loop-index.invariant (w.files-is ∙ w.in_ok-push.ensures.ok)
  | else-has_number w ↦ old_passed c.args.new.now c.as_slice-packages.result.now _ _ _ c.loop-index.index _ c.loop-index-test.true w.if-has_number.false c.has_number.ensures c.loop-index.invariant w.files-is
]
