use Rattle.std.proofs.Common.{ap, sym, arith, length, length-drop, subst}
use Rattle.snap_disk.specs.Phase.{ArePackageFiles}
use Rattle.snap_disk.proofs.BodyLemmas.{loop_read, loop_refused, are_push}
use Rattle.snap_disk.proofs.body.read_files.Goals as goal

pub loop-more-preserved : goal.loop-more-preserved
loop-more-preserved g c =
    let long = ap length c.split_at.ensures.back in
    let dropped = length-drop c.in-Ok.next.1 c.loop-more.rest.now in
    record {
      room = omega (arith, long, dropped, c.in-Ok.ensures.fits, c.loop-more.invariant.room);
      so_far = loop_read (g.D.Disk.view c.args.disk.now).names c.args.count c.loop-more._more _ _ _ _ _ _ _ _ (omega arith) c.as_slice.ensures c.in-Ok.ensures.reads c.in_ok-push.ensures.ok c.split_at.ensures.back
          c.loop-more.invariant.so_far;
      packages = subst (ArePackageFiles _) (sym c.in_ok-push.ensures.ok) (are_push _ _ _ c.loop-more.invariant.packages c.in-Ok.ensures.package);
    }

pub returns-in-Err-clause-reads : goal.returns-in-Err-clause-reads
returns-in-Err-clause-reads g c = loop_refused (g.D.Disk.view c.args.disk.now).names c.args.count c.loop-more._more _ _ _ _ _ _ (omega arith) c.as_slice.ensures c.loop-more.invariant.so_far c.in-Err.ensures.reads
