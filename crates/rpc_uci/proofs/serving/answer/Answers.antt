use Rattle.rpc_uci.specs.Done.{Leads}
use Rattle.rpc_uci.proofs.ServeLemmas.{nothing_moved}
use Rattle.rpc_uci.proofs.serving.answer.Goals as goal

pub returns-in-Some-lacking-clause-images : goal.returns-in-Some-lacking-clause-images
returns-in-Some-lacking-clause-images g c =
    nothing_moved c.args.store.now (g.D.Disk.view c.args.files.now) (Leads c.args.sessions.now c.args.method.now c.args.args.now c.args.now c.args.store.now) (g.met.D.Disk.sound c.args.files.now) c.requires.files
