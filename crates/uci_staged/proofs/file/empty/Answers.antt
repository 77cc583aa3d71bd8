use Rattle.plane_disk.specs.Files.{IsCut}
use Rattle.uci_staged.proofs.FillLemmas.{follows_step, changes_step}
use Rattle.uci_staged.proofs.file.empty.Goals as goal

pub returns-in_err-cut-clause-follows : goal.returns-in_err-cut-clause-follows
returns-in_err-cut-clause-follows g c = follows_step (g.T.Disk.view c.args.disk.now) (g.T.Disk.view c.cut.new.self) c.args.file (IsCut 0) c.in_err-cut.ensures.time c.in_err-cut.ensures.torn c.in_err-cut.ensures.cause.later

pub returns-in_err-cut-clause-changes : goal.returns-in_err-cut-clause-changes
returns-in_err-cut-clause-changes g c = changes_step (g.T.Disk.view c.args.disk.now) (g.T.Disk.view c.cut.new.self) c.args.file (IsCut 0) c.in_err-cut.ensures.torn

pub returns-clause-follows : goal.returns-clause-follows
returns-clause-follows g c = follows_step (g.T.Disk.view c.args.disk.now) (g.T.Disk.view c.cut.new.self) c.args.file (IsCut 0) c.in_ok-cut.ensures.time c.in_ok-cut.ensures.torn c.in_ok-cut.ensures.cause.later

pub returns-clause-changes : goal.returns-clause-changes
returns-clause-changes g c = changes_step (g.T.Disk.view c.args.disk.now) (g.T.Disk.view c.cut.new.self) c.args.file (IsCut 0) c.in_ok-cut.ensures.torn
