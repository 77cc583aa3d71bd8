use Rattle.std.specs.Prelude.{Ok, Err}
use Rattle.step_net.specs.Taken.{telled_of}
use Rattle.step_net.proofs.RequestLemmas.{asks_nothing}
use Rattle.rpc_objects.specs.declared.uci_answer.CallStop.TheVariants as stop
use Rattle.rpc_objects.specs.declared.local_object.LocalObject.TheVariants.{Session, Uci, Network}
use Rattle.rpc_objects.specs.Ended.{parts_of}
use Rattle.rpc_objects.specs.Kept.{faults_of}
use Rattle.rpc_objects.proofs.StoreLemmas.{stays_itself, stays_open}
use Rattle.rpc_objects.proofs.ObjectLemmas.{ends_of, stops_of}
use Rattle.rpc_objects.proofs.LocalSessionLemmas.{session_ends, session_halts}
use Rattle.rpc_objects.proofs.NetworkLemmas.{network_ends, network_halts, network_silent}
use Rattle.rpc_objects.proofs.call.call_object.Goals as goal

pub returns-in-Ok-clause-ends : goal.returns-in-Ok-clause-ends
returns-in-Ok-clause-ends g c =
    let files = g.D.Disk.view c.args.files.now in
    let staged = g.T.Disk.view c.args.staged.now in
    let kernel = telled_of g.K.Kernel c.args.kernel.now c.args.kernel.now in
    ends_of c.args.object Session c.args.now c.args.word c.args.method.now c.args.args.now
    (parts_of c.args.sessions.now c.args.store.now c.args.net.now)
    (parts_of c.answer_session.new.sessions c.answer_session.new.store c.args.net.now) kernel (faults_of files files staged staged)
    (Ok c.of_session.result) c.in-Session.is
    (session_ends c.args.now c.args.word c.args.method.now c.args.args.now c.args.sessions.now c.answer_session.new.sessions
    c.args.store.now c.answer_session.new.store c.args.net.now kernel c.in-Ok.told c.of_session.result c.of_session.ensures
    (asks_nothing (g.K.Kernel.asked c.args.kernel.now) (g.K.Kernel.faults c.args.kernel.now))
    c.answer_session.ensures.stays c.in-Ok.ensures.done)

pub returns-in-Ok-clause-disks : goal.returns-in-Ok-clause-disks
returns-in-Ok-clause-disks g c =
    stays_open (Ok c.of_session.result) c.args.store.now c.answer_session.new.store
    (g.D.Disk.view c.args.files.now) (g.T.Disk.view c.args.staged.now) c.requires.open c.answer_session.ensures.stays

pub returns-in-Err-clause-ends : goal.returns-in-Err-clause-ends
returns-in-Err-clause-ends g c =
    let files = g.D.Disk.view c.args.files.now in
    let staged = g.T.Disk.view c.args.staged.now in
    let kernel = telled_of g.K.Kernel c.args.kernel.now c.args.kernel.now in
    ends_of c.args.object Session c.args.now c.args.word c.args.method.now c.args.args.now
    (parts_of c.args.sessions.now c.args.store.now c.args.net.now)
    (parts_of c.answer_session.new.sessions c.answer_session.new.store c.args.net.now) kernel (faults_of files files staged staged)
    (Err stop.Memory) c.in-Session.is
    (session_halts c.args.now c.args.word c.args.method.now c.args.args.now c.args.sessions.now c.answer_session.new.sessions
    c.args.store.now c.answer_session.new.store c.args.net.now kernel
    (asks_nothing (g.K.Kernel.asked c.args.kernel.now) (g.K.Kernel.faults c.args.kernel.now))
    c.answer_session.ensures.stays c.in-Err.ensures.kept)

pub returns-in-Err-clause-disks : goal.returns-in-Err-clause-disks
returns-in-Err-clause-disks g c =
    stays_open (Err stop.Memory) c.args.store.now c.answer_session.new.store
    (g.D.Disk.view c.args.files.now) (g.T.Disk.view c.args.staged.now) c.requires.open c.answer_session.ensures.stays

pub returns-in-Uci-clause-ends : goal.returns-in-Uci-clause-ends
returns-in-Uci-clause-ends g c =
    let kernel = telled_of g.K.Kernel c.args.kernel.now c.args.kernel.now in
    ends_of c.args.object Uci c.args.now c.args.word c.args.method.now c.args.args.now
    (parts_of c.args.sessions.now c.args.store.now c.args.net.now)
    (parts_of c.call_uci.new.sessions c.call_uci.new.store c.call_uci.new.net) kernel
    (faults_of (g.D.Disk.view c.args.files.now) (g.D.Disk.view c.call_uci.new.files)
    (g.T.Disk.view c.args.staged.now) (g.T.Disk.view c.call_uci.new.staged))
    c.call_uci.result c.in-Uci.is
    (c.call_uci.ensures.ends c.args.word kernel
    (asks_nothing (g.K.Kernel.asked c.args.kernel.now) (g.K.Kernel.faults c.args.kernel.now)))

pub returns-in-Uci-clause-images : goal.returns-in-Uci-clause-images
returns-in-Uci-clause-images g c =
    stops_of c.args.object Uci c.args.now c.args.method.now c.args.args.now
    (parts_of c.args.sessions.now c.args.store.now c.args.net.now) c.args.store.now
    g.D.Disk.view c.args.files.now c.call_uci.new.files c.in-Uci.is c.call_uci.ensures.images

pub returns-in-Ok-call_network-clause-ends : goal.returns-in-Ok-call_network-clause-ends
returns-in-Ok-call_network-clause-ends g c =
    let files = g.D.Disk.view c.args.files.now in
    let staged = g.T.Disk.view c.args.staged.now in
    let kernel = telled_of g.K.Kernel c.args.kernel.now c.call_network.new.kernel in
    ends_of c.args.object (Network c.in-Network.network) c.args.now c.args.word c.args.method.now c.args.args.now
    (parts_of c.args.sessions.now c.args.store.now c.args.net.now)
    (parts_of c.args.sessions.now c.args.store.now c.call_network.new.net) kernel (faults_of files files staged staged)
    (Ok c.of_network.result) c.in-Network.is
    (network_ends c.args.now c.args.word c.args.sessions.now c.args.store.now c.in-Network.network c.args.method.now c.args.args.now
    c.args.net.now c.call_network.new.net kernel c.in-Ok-call_network.told c.of_network.result c.of_network.ensures
    c.in-Ok-call_network.ensures.answers)

pub returns-in-Ok-call_network-clause-told : goal.returns-in-Ok-call_network-clause-told
returns-in-Ok-call_network-clause-told g c =
    network_silent c.args.store.now c.in-Network.network c.args.method.now c.args.args.now c.args.net.now c.call_network.new.net
    (telled_of g.K.Kernel c.args.kernel.now c.call_network.new.kernel) c.in-Ok-call_network.told c.requires.told
    c.in-Ok-call_network.ensures.answers

pub returns-in-Ok-call_network-clause-disks : goal.returns-in-Ok-call_network-clause-disks
returns-in-Ok-call_network-clause-disks g c =
    stays_itself (Ok c.of_network.result) c.args.store.now (g.D.Disk.view c.args.files.now) (g.T.Disk.view c.args.staged.now) c.requires.open

pub returns-in-Err-call_network-clause-ends : goal.returns-in-Err-call_network-clause-ends
returns-in-Err-call_network-clause-ends g c =
    let files = g.D.Disk.view c.args.files.now in
    let staged = g.T.Disk.view c.args.staged.now in
    let kernel = telled_of g.K.Kernel c.args.kernel.now c.call_network.new.kernel in
    ends_of c.args.object (Network c.in-Network.network) c.args.now c.args.word c.args.method.now c.args.args.now
    (parts_of c.args.sessions.now c.args.store.now c.args.net.now)
    (parts_of c.args.sessions.now c.args.store.now c.call_network.new.net) kernel (faults_of files files staged staged)
    (Err stop.Memory) c.in-Network.is
    (network_halts c.args.now c.args.word c.args.sessions.now c.args.store.now c.in-Network.network c.args.method.now c.args.args.now
    c.args.net.now c.call_network.new.net kernel c.in-Err-call_network.ensures.answers)

pub returns-in-Err-call_network-clause-disks : goal.returns-in-Err-call_network-clause-disks
returns-in-Err-call_network-clause-disks g c =
    stays_itself (Err stop.Memory) c.args.store.now (g.D.Disk.view c.args.files.now) (g.T.Disk.view c.args.staged.now) c.requires.open
