use Rattle.std.proofs.Common.{subst, sym, arith}
use Rattle.snap_disk.proofs.BodyLemmas.{text_more, joined}
use Rattle.snap_disk.proofs.PutLemmas.{package_file_at}
use Rattle.snap_disk.specs.Phase.{ArePackageFiles}
use Rattle.snap_disk.proofs.body_text.body_text.Goals as goal

pub append_file-requires-clause-number : goal.append_file-requires-clause-number
append_file-requires-clause-number g c =
    let are = c.requires.files in
    let files = c.as_slice-files.ensures in
    (package_file_at _ c.as_slice-files.result.now c.loop-file.file-index c.file-item.result (subst (ArePackageFiles _) (sym files) are) c.loop-file-test.true c.file-item.is).number

pub append_file-requires-clause-short : goal.append_file-requires-clause-short
append_file-requires-clause-short g c =
    let is = package_file_at _ c.as_slice-files.result.now c.loop-file.file-index c.file-item.result (subst (ArePackageFiles _) (sym c.as_slice-files.ensures) c.requires.files) c.loop-file-test.true c.file-item.is in
    let placed = c.count-count.ensures.named.packages c.file-item.result.file is.low is.number in
    omega (arith, placed.named.short)

pub append_file-requires-clause-small : goal.append_file-requires-clause-small
append_file-requires-clause-small g c =
    let is = package_file_at _ c.as_slice-files.result.now c.loop-file.file-index c.file-item.result (subst (ArePackageFiles _) (sym c.as_slice-files.ensures) c.requires.files) c.loop-file-test.true c.file-item.is in
    omega (arith, is.small)

pub loop-file-preserved : goal.loop-file-preserved
loop-file-preserved g c =
    let names = (g.D.Disk.view c.args.disk.now).names in
    let more = text_more names c.as_slice-files.result.now c.loop-file.file-index c.file-item.result c.loop-file-test.true c.file-item.is in
    joined _ _ _ _ _ _ c.in_ok-append_file.ensures c.loop-file.invariant more
