use Rattle.std.proofs.Common.{ℕ, ap, sym, subst, ◌∙◌}
use Rattle.uci_delta.specs.Printed.{lines_of}
use Rattle.uci_staged.specs.Change.{deltas_in, without}
use Rattle.uci_staged.specs.Kept.{HasFilled}
use Rattle.uci_staged.proofs.ChangeLemmas.{without_none}
use Rattle.uci_staged.proofs.KeptLemmas.{without_on}
use Rattle.uci_staged.proofs.staged.Staged.drop_package.Goals as goal

pub returns-in-Ok-clause-on : goal.returns-in-Ok-clause-on
returns-in-Ok-clause-on g c =
    let on = without_on (g.T.Disk.view c.args.disk.now) (g.T.Disk.view c.empty_own.new.disk) c.args.holder c.args.file c.args.self.now.changes.items c.drop_all.new.changes.items (g.met.T.Disk.sound c.args.disk.now) c.in-Ok.ensures.follows
    c.requires.number c.requires.on.lines c.requires.on.kept c.drop_all.ensures c.in-Ok.ensures.filled
    (λ other. ap g.T.Disk.view (c.in-Ok.ensures.aside other)) in
    record { lines = on.0; kept = on.1 }

pub returns-in-Ok-clause-text : goal.returns-in-Ok-clause-text
returns-in-Ok-clause-text g c = λ own.
    let file = c.args.file in
    let changes = c.args.self.now.changes.items in
    let after = c.drop_all.ensures ∙ ap (λ (h : ℕ). without h file changes) own in
    subst (HasFilled (g.T.Disk.view c.args.disk.now) (g.T.Disk.view c.empty_own.new.disk) file) (sym (ap lines_of (ap (deltas_in 0 file) after ∙ without_none 0 file changes))) (c.in-Ok.ensures.filled own)
