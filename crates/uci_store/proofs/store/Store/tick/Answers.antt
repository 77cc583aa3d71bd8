use Rattle.std.proofs.Common.{refl}
use Rattle.snap_disk.specs.Open.{ticked}
use Rattle.uci_store.specs.Store.{files_of}
use Rattle.uci_store.specs.Waiting.{TicksTo}
use Rattle.uci_store.proofs.StopLemmas.{stops_either}
use Rattle.uci_store.proofs.store.Store.tick.Goals as goal

pub returns-in-Ok-clause-images : goal.returns-in-Ok-clause-images
returns-in-Ok-clause-images g c =
    stops_either c.args.self.now (g.D.Disk.view c.args.files.now) (g.D.Disk.view c.tick.new.disk) (ticked (files_of c.args.self.now) c.args.now) (TicksTo c.args.self.now c.args.now)
    (record { ready = c.in_ok-refuse_failed.ensures.ready; files = refl }) c.in-Ok.ensures.images

pub returns-in-Err-clause-images : goal.returns-in-Err-clause-images
returns-in-Err-clause-images g c =
    stops_either c.args.self.now (g.D.Disk.view c.args.files.now) (g.D.Disk.view c.tick.new.disk) (ticked (files_of c.args.self.now) c.args.now) (TicksTo c.args.self.now c.args.now)
    (record { ready = c.in_ok-refuse_failed.ensures.ready; files = refl }) c.in-Err.ensures.images
