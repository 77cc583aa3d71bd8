use Rattle.std.proofs.Common.{◌∙◌, ◌∷◌, [], length, length-append, ap, arith}
use Rattle.snap_disk.proofs.LoadLemmas.{quiet_join, load_later, package_read, small_push}
use Rattle.snap_disk.proofs.FillLemmas.{within_files}
use Rattle.snap_disk.proofs.opening.read_packages.Goals as goal

pub returns-in-Err-clause-refused : goal.returns-in-Err-clause-refused
returns-in-Err-clause-refused g c = load_later (g.D.Disk.view c.args.disk.now) (g.D.Disk.view c.loop-file.disk) (g.D.Disk.view c.read_package.new.disk) c.in-Err.error c.loop-file.invariant.quiet c.in-Err.ensures.refused

pub loop-file-preserved : goal.loop-file-preserved
loop-file-preserved g c =
    let so_far = c.loop-file.invariant in
    let pushed = c.in_ok-push.ensures.items in
    let long = ap length pushed in
    let e = length-append c.loop-file.packages.items (c.in-Ok.bytes ∷ []) in
    record {
      quiet = quiet_join _ _ _ so_far.quiet c.in-Ok.ensures.quiet;
      long = omega (arith, long, e, so_far.long);
      small = small_push _ _ c.in-Ok.bytes pushed so_far.small c.in-Ok.ensures.small;
      bytes = λ files seen. package_read _ _ c.in-Ok.bytes c.loop-file.file files pushed so_far.long (within_files _ (g.met.D.Disk.sound c.args.disk.now) files c.loop-file.file seen (omega arith)) (so_far.bytes files seen)
          (c.in-Ok.ensures.bytes files (so_far.quiet.seen ∙ seen));
    }
