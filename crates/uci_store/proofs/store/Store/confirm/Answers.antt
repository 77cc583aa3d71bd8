use Rattle.std.proofs.Common.{refl}
use Rattle.snap_disk.specs.Open.{confirmed}
use Rattle.uci_store.specs.Store.{files_of}
use Rattle.uci_store.specs.Waiting.{ConfirmsTo}
use Rattle.uci_store.proofs.StopLemmas.{stops_either}
use Rattle.uci_store.proofs.store.Store.confirm.Goals as goal

pub returns-in-Ok-clause-images : goal.returns-in-Ok-clause-images
returns-in-Ok-clause-images g c =
    stops_either c.args.self.now (g.D.Disk.view c.args.files.now) (g.D.Disk.view c.confirm.new.disk) (confirmed (files_of c.args.self.now)) (ConfirmsTo c.args.self.now c.args.holder)
    (record { waits = c.in_ok-refuse_other.ensures.ready; files = refl }) c.in-Ok.ensures.images

pub returns-in-Err-clause-images : goal.returns-in-Err-clause-images
returns-in-Err-clause-images g c =
    stops_either c.args.self.now (g.D.Disk.view c.args.files.now) (g.D.Disk.view c.confirm.new.disk) (confirmed (files_of c.args.self.now)) (ConfirmsTo c.args.self.now c.args.holder)
    (record { waits = c.in_ok-refuse_other.ensures.ready; files = refl }) c.in-Err.ensures.images
