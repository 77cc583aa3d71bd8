use Rattle.std.proofs.Common.{◌≡◌}
use Rattle.uci_store.specs.Store.{names_of, name_of}
use Rattle.uci_store.proofs.StoreLemmas.{stage_change}
use Rattle.uci_store.proofs.store.Store.stage.Goals as goal

pub stage-requires-clause-change : goal.stage-requires-clause-change
stage-requires-clause-change g c =
    let name : name_of (names_of c.args.self.now) c.in-Some.file ≡ c.args.delta.package = let a = c.in-Some.ensures.name in let b = c.as_bytes.ensures in cc in
    stage_change c.args.self.now (g.T.Disk.view c.args.staged.now) c.in_ok-view.view c.apply.new.«package» c.args.holder c.in-Some.file c.args.delta c.requires c.in-Some.ensures.low c.in-Some.ensures.number name c.in_ok-view.ensures.valid
    c.in-Ok.ensures.done
