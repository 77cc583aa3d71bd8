use Rattle.uci_store.proofs.ApplyLemmas.{package_files}
use Rattle.uci_store.proofs.store.Store.apply.Goals as goal

pub write_all-requires-clause-packages : goal.write_all-requires-clause-packages
write_all-requires-clause-packages g c = package_files c.args.self.now c.args.holder c.in_ok-new.new.items c.in_ok-new.ensures.planned.each
