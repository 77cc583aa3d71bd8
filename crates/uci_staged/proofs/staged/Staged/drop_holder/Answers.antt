use Rattle.std.proofs.Common.{ap}
use Rattle.uci_staged.proofs.KeptLemmas.{forgotten_on}
use Rattle.uci_staged.proofs.staged.Staged.drop_holder.Goals as goal

pub returns-in-Ok-clause-on : goal.returns-in-Ok-clause-on
returns-in-Ok-clause-on g c =
    let on = forgotten_on (g.T.Disk.view c.args.disk.now) (g.T.Disk.view c.empty_all_own.new.disk) c.args.holder c.args.self.now.changes.items c.forget.new.changes.items c.in-Ok.ensures.follows c.requires.on.lines c.requires.on.kept
    c.forget.ensures c.in-Ok.ensures.emptied
    (λ other. ap g.T.Disk.view (c.in-Ok.ensures.aside other)) in
    record { lines = on.0; kept = on.1 }
