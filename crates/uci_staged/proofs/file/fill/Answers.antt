use Rattle.std.proofs.Common.{◌∙◌, ap, length, Some}
use Rattle.plane_disk.specs.Files.{IsTorn, IsCut}
use Rattle.uci_staged.proofs.KeptLemmas.{told, within_files}
use Rattle.uci_staged.proofs.FillLemmas.{filled, follows_step, follows_join, changes_step, changes_join}
use Rattle.uci_staged.proofs.file.fill.Goals as goal

pub returns-in_err-cut-clause-follows : goal.returns-in_err-cut-clause-follows
returns-in_err-cut-clause-follows g c = follows_step (g.T.Disk.view c.args.disk.now) (g.T.Disk.view c.cut.new.self) c.args.file (IsCut 0) c.in_err-cut.ensures.time c.in_err-cut.ensures.torn c.in_err-cut.ensures.cause.later

pub returns-in_err-cut-clause-changes : goal.returns-in_err-cut-clause-changes
returns-in_err-cut-clause-changes g c = changes_step (g.T.Disk.view c.args.disk.now) (g.T.Disk.view c.cut.new.self) c.args.file (IsCut 0) c.in_err-cut.ensures.torn

pub returns-in_err-write_at-clause-follows : goal.returns-in_err-write_at-clause-follows
returns-in_err-write_at-clause-follows g c = follows_join (g.T.Disk.view c.args.disk.now) (g.T.Disk.view c.cut.new.self) (g.T.Disk.view c.write_at.new.self)
    (follows_step (g.T.Disk.view c.args.disk.now) (g.T.Disk.view c.cut.new.self) c.args.file (IsCut 0) c.in_ok-cut.ensures.time c.in_ok-cut.ensures.torn c.in_ok-cut.ensures.cause.later)
    (follows_step (g.T.Disk.view c.cut.new.self) (g.T.Disk.view c.write_at.new.self) c.args.file (IsTorn 0 (length c.args.bytes.now)) c.in_err-write_at.ensures.time c.in_err-write_at.ensures.torn c.in_err-write_at.ensures.cause.later)

pub returns-in_err-write_at-clause-changes : goal.returns-in_err-write_at-clause-changes
returns-in_err-write_at-clause-changes g c = changes_join (g.T.Disk.view c.args.disk.now) (g.T.Disk.view c.cut.new.self) (g.T.Disk.view c.write_at.new.self) c.args.file
    (follows_step (g.T.Disk.view c.args.disk.now) (g.T.Disk.view c.cut.new.self) c.args.file (IsCut 0) c.in_ok-cut.ensures.time c.in_ok-cut.ensures.torn c.in_ok-cut.ensures.cause.later)
    (changes_step (g.T.Disk.view c.args.disk.now) (g.T.Disk.view c.cut.new.self) c.args.file (IsCut 0) c.in_ok-cut.ensures.torn)
    (changes_step (g.T.Disk.view c.cut.new.self) (g.T.Disk.view c.write_at.new.self) c.args.file (IsTorn 0 (length c.args.bytes.now)) c.in_err-write_at.ensures.torn)

pub returns-clause-follows : goal.returns-clause-follows
returns-clause-follows g c = follows_join (g.T.Disk.view c.args.disk.now) (g.T.Disk.view c.cut.new.self) (g.T.Disk.view c.write_at.new.self)
    (follows_step (g.T.Disk.view c.args.disk.now) (g.T.Disk.view c.cut.new.self) c.args.file (IsCut 0) c.in_ok-cut.ensures.time c.in_ok-cut.ensures.torn c.in_ok-cut.ensures.cause.later)
    (follows_step (g.T.Disk.view c.cut.new.self) (g.T.Disk.view c.write_at.new.self) c.args.file (IsTorn 0 (length c.args.bytes.now)) c.in_ok-write_at.ensures.time c.in_ok-write_at.ensures.torn c.in_ok-write_at.ensures.cause.later)

pub returns-clause-changes : goal.returns-clause-changes
returns-clause-changes g c = changes_join (g.T.Disk.view c.args.disk.now) (g.T.Disk.view c.cut.new.self) (g.T.Disk.view c.write_at.new.self) c.args.file
    (follows_step (g.T.Disk.view c.args.disk.now) (g.T.Disk.view c.cut.new.self) c.args.file (IsCut 0) c.in_ok-cut.ensures.time c.in_ok-cut.ensures.torn c.in_ok-cut.ensures.cause.later)
    (changes_step (g.T.Disk.view c.args.disk.now) (g.T.Disk.view c.cut.new.self) c.args.file (IsCut 0) c.in_ok-cut.ensures.torn)
    (changes_step (g.T.Disk.view c.cut.new.self) (g.T.Disk.view c.write_at.new.self) c.args.file (IsTorn 0 (length c.args.bytes.now)) c.in_ok-write_at.ensures.torn)

pub returns-clause-filled : goal.returns-clause-filled
returns-clause-filled g c = λ files seen.
    let was = told _ _ _ c.in_ok-cut.ensures.cut seen in
    let is = told _ _ _ c.in_ok-write_at.ensures.written was in
    is ∙ ap (λ (x : _). Some x) (filled files c.args.file c.args.bytes.now (within_files (g.T.Disk.view c.args.disk.now) (g.met.T.Disk.sound c.args.disk.now) files c.args.file seen c.requires))
