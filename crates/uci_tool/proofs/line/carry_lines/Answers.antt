use Rattle.uci_tool.proofs.JoinLemmas.{lines_stop, lines_left, lines_more}
use Rattle.uci_tool.proofs.StopLemmas.{lines_images}
use Rattle.uci_tool.proofs.line.carry_lines.Goals as goal

pub returns-in-Err-clause-carries : goal.returns-in-Err-clause-carries
returns-in-Err-clause-carries g c = lines_stop c.args.options.now c.args.store.now c.loop-line.store c.carry_line.new.store (g.D.Disk.view c.args.files.now) (g.D.Disk.view c.loop-line.files) (g.T.Disk.view c.args.staged.now)
    (g.T.Disk.view c.loop-line.staged)
    c.args.lines.now c.loop-line.line-index c.line-item.result c.in-Err.stop c.loop-line.output.items c.loop-line.told.items c.loop-line.refusal c.loop-line.invariant.so c.loop-line-test.true c.line-item.is c.in-Err.ensures.carries

pub returns-in_default-clause-carries : goal.returns-in_default-clause-carries
returns-in_default-clause-carries g c = lines_left c.args.options.now c.args.store.now c.loop-line.store c.carry_line.new.store (g.D.Disk.view c.args.files.now) (g.D.Disk.view c.loop-line.files) (g.T.Disk.view c.args.staged.now)
    (g.T.Disk.view c.loop-line.staged)
    c.args.lines.now c.loop-line.line-index c.line-item.result c.in-Ok.report c.loop-line.output.items c.loop-line.told.items c.loop-line.refusal c.loop-line.invariant.so c.loop-line-test.true c.line-item.is c.in-Ok.ensures.carries

pub returns-in-Err-clause-images : goal.returns-in-Err-clause-images
returns-in-Err-clause-images g c = lines_images g.D.Disk.view c.args.options.now c.args.store.now c.loop-line.store c.args.files.now c.loop-line.files c.carry_line.new.files (g.T.Disk.view c.args.staged.now)
    (g.T.Disk.view c.loop-line.staged)
    c.args.lines.now c.loop-line.line-index c.line-item.result c.loop-line.output.items c.loop-line.told.items c.loop-line.refusal c.loop-line.invariant.so c.loop-line-test.true c.line-item.is c.loop-line.invariant.images
    c.in-Err.ensures.images

pub returns-in_default-clause-images : goal.returns-in_default-clause-images
returns-in_default-clause-images g c = lines_images g.D.Disk.view c.args.options.now c.args.store.now c.loop-line.store c.args.files.now c.loop-line.files c.carry_line.new.files (g.T.Disk.view c.args.staged.now)
    (g.T.Disk.view c.loop-line.staged)
    c.args.lines.now c.loop-line.line-index c.line-item.result c.loop-line.output.items c.loop-line.told.items c.loop-line.refusal c.loop-line.invariant.so c.loop-line-test.true c.line-item.is c.loop-line.invariant.images
    c.in-Ok.ensures.images

pub loop-line-preserved : goal.loop-line-preserved
loop-line-preserved g c = record {
  so = lines_more c.args.options.now c.args.store.now c.loop-line.store c.carry_line.new.store (g.D.Disk.view c.args.files.now) (g.D.Disk.view c.loop-line.files) (g.D.Disk.view c.carry_line.new.files) (g.T.Disk.view c.args.staged.now)
      (g.T.Disk.view c.loop-line.staged) (g.T.Disk.view c.carry_line.new.staged)
      c.args.lines.now c.loop-line.line-index c.line-item.result c.in-Ok.report c.loop-line.output.items c.loop-line.told.items c.gather.new.output.items c.gather.new.told.items c.loop-line.refusal c.first_of-refusal.result
      c.loop-line.invariant.so c.loop-line-test.true c.line-item.is c.in-Ok.ensures.carries c.in-Ok.ensures.writes c.in-Ok-gather.ensures.output c.in-Ok-gather.ensures.told c.first_of-refusal.ensures;
  images = lines_images g.D.Disk.view c.args.options.now c.args.store.now c.loop-line.store c.args.files.now c.loop-line.files c.carry_line.new.files (g.T.Disk.view c.args.staged.now) (g.T.Disk.view c.loop-line.staged)
      c.args.lines.now c.loop-line.line-index c.line-item.result c.loop-line.output.items c.loop-line.told.items c.loop-line.refusal c.loop-line.invariant.so c.loop-line-test.true c.line-item.is c.loop-line.invariant.images
      c.in-Ok.ensures.images;
}
