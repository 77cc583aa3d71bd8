use Rattle.rpc_objects.specs.Kept.{faults_of}
use Rattle.rpc_objects.proofs.StoreLemmas.{stays_as, stays_stopped, stops_in}
use Rattle.rpc_objects.specs.Ended.{parts_of}
use Rattle.rpc_objects.proofs.UciLemmas.{served_ends, stopped_ends, silent_behind}
use Rattle.rpc_objects.proofs.uci_call.call_uci.Goals as goal

pub returns-in-Ok-clause-ends : goal.returns-in-Ok-clause-ends
returns-in-Ok-clause-ends g c =
    let disks = faults_of (g.D.Disk.view c.args.files.now) (g.D.Disk.view c.serve_call.new.files)
    (g.T.Disk.view c.args.staged.now) (g.T.Disk.view c.serve_call.new.staged) in
    served_ends c.args.now c.args.method.now c.args.args.now c.args.sessions.now c.serve_call.new.sessions c.args.store.now c.serve_call.new.store
    c.args.net.now c.reload_after.new.net c.in-Ok.answer disks c.reload_after.result
    c.serve_call.ensures.sessions c.in-Ok.ensures.served (c.reload_after.ensures.reloads c.serve_call.new.sessions)

pub returns-in-Ok-clause-disks : goal.returns-in-Ok-clause-disks
returns-in-Ok-clause-disks g c =
    stays_as c.in-Ok.answer c.reload_after.result c.args.store.now c.serve_call.new.store
    (g.D.Disk.view c.args.files.now) (g.D.Disk.view c.serve_call.new.files)
    (g.T.Disk.view c.args.staged.now) (g.T.Disk.view c.serve_call.new.staged) c.in-Ok.ensures.disks

pub returns-in-Ok-clause-images : goal.returns-in-Ok-clause-images
returns-in-Ok-clause-images g c =
    stops_in c.args.now c.args.sessions.now c.args.method.now c.args.args.now c.args.store.now c.args.net.now
    (g.D.Disk.view c.args.files.now) (g.T.Disk.view c.args.staged.now) (g.D.Disk.view c.serve_call.new.files)
    c.requires.open c.serve_call.ensures.images

pub returns-in-Err-clause-ends : goal.returns-in-Err-clause-ends
returns-in-Err-clause-ends g c =
    let disks = faults_of (g.D.Disk.view c.args.files.now) (g.D.Disk.view c.serve_call.new.files)
    (g.T.Disk.view c.args.staged.now) (g.T.Disk.view c.serve_call.new.staged) in
    stopped_ends c.args.now c.args.method.now c.args.args.now c.args.sessions.now c.serve_call.new.sessions c.args.store.now c.serve_call.new.store
    c.args.net.now disks c.in-Err.stop c.in-Err.ensures.served c.in-Err.ensures.cause

pub returns-in-Err-clause-disks : goal.returns-in-Err-clause-disks
returns-in-Err-clause-disks g c =
    stays_stopped c.in-Err.stop c.args.store.now c.serve_call.new.store
    (g.D.Disk.view c.args.files.now) (g.D.Disk.view c.serve_call.new.files)
    (g.T.Disk.view c.args.staged.now) (g.T.Disk.view c.serve_call.new.staged) c.in-Err.ensures.disks

pub returns-in-Err-clause-images : goal.returns-in-Err-clause-images
returns-in-Err-clause-images g c =
    stops_in c.args.now c.args.sessions.now c.args.method.now c.args.args.now c.args.store.now c.args.net.now
    (g.D.Disk.view c.args.files.now) (g.T.Disk.view c.args.staged.now) (g.D.Disk.view c.serve_call.new.files)
    c.requires.open c.serve_call.ensures.images

pub returns-in-Ok-clause-told : goal.returns-in-Ok-clause-told
returns-in-Ok-clause-told g c =
    silent_behind (parts_of c.serve_call.new.sessions c.serve_call.new.store c.args.net.now) c.in-Ok.answer c.args.net.now
    c.reload_after.new.net c.reload_after.result (c.reload_after.ensures.reloads c.serve_call.new.sessions)
