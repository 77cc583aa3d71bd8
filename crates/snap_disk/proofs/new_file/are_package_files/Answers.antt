use Rattle.std.proofs.Common.{refl}
use Rattle.snap_disk.proofs.BodyLemmas.{are_more}
use Rattle.snap_disk.proofs.PutLemmas.{package_file_at}
use Rattle.snap_disk.proofs.new_file.are_package_files.Goals as goal

pub returns-then-not-is_package_file : goal.returns-then-not-is_package_file
returns-then-not-is_package_file c = (λ t. absurd (cc), λ are. c.if-not-is_package_file.ensures.1 (package_file_at _ c.args.files.now c.loop-file.file-index c.file-item.result are c.loop-file-test.true c.file-item.is))

pub loop-file-preserved : goal.loop-file-preserved
loop-file-preserved c = are_more _ _ _ c.file-item.result c.loop-file-test.true c.file-item.is c.loop-file.invariant (c.if-not-is_package_file.ensures.0 refl)
