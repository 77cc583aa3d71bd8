use Rattle.std.proofs.Common.{◌∙◌, ap, Some, length, arith}
use Rattle.plane_disk.specs.Files.{TornAt, CutAt}
use Rattle.snap_disk.proofs.Moments.{tells_step, tells_join, Run, told, started, steps_on}
use Rattle.snap_disk.proofs.LayoutLemmas.{filled_same, filled_step}
use Rattle.snap_disk.proofs.FillLemmas.{FromFilled, filled, within_files}
use Rattle.snap_disk.proofs.phases.fill.Goals as goal

pub returns-clause-fills : goal.returns-clause-fills
returns-clause-fills g c =
    let old = g.D.Disk.view c.args.disk.now in
    let file = c.args.file in
    let size = length c.args.bytes.now in
    let P = FromFilled old file size in
    let cut = c.cut.ensures in
    let write = c.write_at.ensures in
    let start = started old P (g.met.D.Disk.sound c.args.disk.now) (λ d left. (d, left, filled_same file size d)) in
    let after_cut : Run old (g.D.Disk.view c.cut.new.self) P = steps_on old old _ P _ start cut.time cut.crash (λ d e from at. (from.0, from.1, filled_step file size _ from.0 d e from.2 at (omega (arith, at.here.no_longer)))) in
    let after_write : Run old (g.D.Disk.view c.write_at.new.self) P = steps_on old _ _ P _ after_cut write.time write.crash (λ d e from at. (from.0, from.1, filled_step file size _ from.0 d e from.2 at (omega (arith, at.here.no_longer))))
    in
    record {
      names = write.time.names ∙ cut.time.names;
      silent = λ none. write.time.silent (cut.time.silent none);
      tells = tells_join (g.D.Disk.view c.args.disk.now).seen (g.D.Disk.view c.cut.new.self).seen (g.D.Disk.view c.write_at.new.self).seen
          (tells_step (CutAt file 0) (g.D.Disk.view c.args.disk.now).seen (g.D.Disk.view c.cut.new.self).seen cut.torn)
          (tells_step (TornAt file 0 size) (g.D.Disk.view c.cut.new.self).seen (g.D.Disk.view c.write_at.new.self).seen write.torn);
      images = after_write.leaves;
      seen = λ f seen.
          let was = told _ _ _ c.in_ok-cut.ensures.cut seen in
          let is = told _ _ _ c.in_ok-write_at.ensures.written was in
          is ∙ ap (λ (x : _). Some x) (filled f file c.args.bytes.now (within_files old (g.met.D.Disk.sound c.args.disk.now) f file seen c.requires));
    }
