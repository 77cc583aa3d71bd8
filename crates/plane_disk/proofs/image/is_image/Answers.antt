use Rattle.std.proofs.Common.{below_more, arith, subst, ◌∙◌, ◌≡◌, ◌<◌, [], length}
use Rattle.std.proofs.lemmas.List.{get_or_default}
use Rattle.plane_disk.specs.Files.{bytes_of}
use Rattle.plane_disk.specs.Images.{IsImageOf}
use Rattle.plane_disk.proofs.image.is_image.Goals as goal

pub loop-file-preserved : goal.loop-file-preserved
loop-file-preserved c =
    let file = c.loop-file.file in
    let within : file < length c.args.files.now = omega (arith, c.loop-file-test.true) in
    let inside : file < length c.args.synced.now = omega (arith, c.loop-file-test.true, c.if-files-synced.false) in
    let synced : c.as_bytes.result.now ≡ bytes_of c.args.synced.now file = c.as_bytes.ensures ∙ (c.index-synced-file.is ∙ get_or_default c.args.synced.now file c.index-synced-file.result [] inside) in
    let bytes : c.as_bytes-in-loop-file.result.now ≡ bytes_of c.args.files.now file = c.as_bytes-in-loop-file.ensures ∙ (c.index-files-file.is ∙ get_or_default c.args.files.now file c.index-files-file.result [] within) in
    below_more _ _ c.loop-file.invariant
    (subst (λ b. IsImageOf file (bytes_of c.args.synced.now file) c.args.since.now b) bytes
    (subst (λ s. IsImageOf file s c.args.since.now c.as_bytes-in-loop-file.result.now) synced (c.is_image_of.ensures.0 c.if-not-is_image_of.false)))
