use Rattle.std.proofs.Common.{sym, ◌∙◌, false}
use Rattle.uci_store.specs.declared.store.Store.{Store}
use Rattle.uci_store.proofs.StoreLemmas.{opened_files, opened_staged}
use Rattle.uci_store.proofs.store.Store.open.Goals as goal

pub returns-clause-files : goal.returns-clause-files
returns-clause-files g c =
    let store : Store = record { packages = c.in-Ok-read_names.packages; snap = c.in-Ok.snap; staged = c.in-Ok-open.staged; failed = false } in
    opened_files store (g.D.Disk.view c.open.new.disk) c.in-Ok.ensures.open.0 c.in-Ok.ensures.open.1 c.in-Ok-read_names.ensures.is c.in-Ok-read_names.ensures.named

pub returns-clause-staged : goal.returns-clause-staged
returns-clause-staged g c =
    let store : Store = record { packages = c.in-Ok-read_names.packages; snap = c.in-Ok.snap; staged = c.in-Ok-open.staged; failed = false } in
    opened_staged store (g.D.Disk.view c.open.new.disk) (g.T.Disk.view c.open-2.new.disk) c.in-Ok.ensures.open.0 c.in-Ok-read_names.ensures.is c.in-Ok-read_names.ensures.named
    (c.in-Ok-open.ensures.reads.names ∙ c.requires ∙ sym c.in-Ok.ensures.same.names) c.in-Ok-open.ensures.on.lines c.in-Ok-open.ensures.on.kept
