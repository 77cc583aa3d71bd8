use Rattle.net_plane.specs.Network.{moment_of}
use Rattle.step_net.specs.NetLine.{load_line}
use Rattle.uci_tool.specs.Folder.{folder_of}
use Rattle.step_net.specs.Loaded.{network_name, wireless_name}
use Rattle.step_net.specs.Taken.{IsNoted}
use Rattle.step_net.specs.Reload.{ReloadAsks}
use Rattle.step_net.proofs.RequestLemmas.{load_requests}
use Rattle.step_net.proofs.AnswerLemmas.{takes_this}
use Rattle.step_net.proofs.LoadLemmas.{takes_unread, of_fault}
use Rattle.step_net.proofs.loading.reload.Goals as goal

pub returns-in-Err-clause-takes : goal.returns-in-Err-clause-takes
returns-in-Err-clause-takes c =
    let folder = folder_of c.args.store.now in
    takes_unread folder c.in-Err.error c.args.net.now c.refuse_unread.result
    (λ fault is. ReloadAsks.no_network fault (of_fault folder network_name c.in-Err.error fault is c.in-Err.ensures.refused))
    c.requires.told c.refuse_unread.ensures

pub returns-in-Err-load_package-clause-takes : goal.returns-in-Err-load_package-clause-takes
returns-in-Err-load_package-clause-takes c =
    let folder = folder_of c.args.store.now in
    let why = c.in-Err-load_package.error in
    takes_unread folder why c.args.net.now c.refuse_unread-in-Err-load_package.result
    (λ fault is. ReloadAsks.no_wireless c.in-Ok.network c.in-Ok.ensures.found fault
    (of_fault folder wireless_name why fault is c.in-Err-load_package.ensures.refused))
    c.requires.told c.refuse_unread-in-Err-load_package.ensures

pub returns-clause-takes : goal.returns-clause-takes
returns-clause-takes c =
    let network = c.in-Ok.network in
    let wireless = c.in-Ok-load_package.wireless in
    takes_this IsNoted (ReloadAsks (folder_of c.args.store.now)) (load_line network wireless) c.args.net.now
    c.take_load.new.net c.take_load.result
    (ReloadAsks.loaded network wireless c.in-Ok.ensures.found c.in-Ok-load_package.ensures.found)
    (load_requests (moment_of c.args.net.now) network wireless) c.take_load.ensures.takes
