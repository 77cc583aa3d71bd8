use Rattle.std.proofs.Common.{sym, ◌∙◌}
use Rattle.uci_tool.specs.Folder.{folder_of}
use Rattle.step_net.specs.Reload.{ReloadAsks}
use Rattle.step_net.proofs.TakenLemmas.{told_one}
use Rattle.plane_step.specs.LineDone.{Front}
use Rattle.plane_step.proofs.TimeLemmas.{goes_nowhere, goes_on, goes_back, folder_ticked, tick_images}
use Rattle.plane_step.proofs.time.go_to.Goals as goal

pub returns-in-Ok-clause-goes : goal.returns-in-Ok-clause-goes
returns-in-Ok-clause-goes g c =
    let front : Front = record { now = c.args.moment.now; store = c.args.store.now; net = c.args.net.now } in
    (goes_nowhere c.args.next front 0 c.refuse.result c.if-next-moment.true c.requires.told c.refuse.ensures).0
    c.in-Ok.told c.in-Ok.is

pub returns-in-Ok-tell-clause-goes : goal.returns-in-Ok-tell-clause-goes
returns-in-Ok-tell-clause-goes g c =
    let front : Front = record { now = c.args.moment.now; store = c.args.store.now; net = c.args.net.now } in
    let ticked = c.in-Ok-true.ensures in
    (goes_back c.args.next front c.tick.new.self c.reload.new.net 0 0 c.tell.result c.if-next-moment.false
    (sym ticked.due ∙ c.in-Ok-true.field-0-test)
    (folder_ticked c.args.store.now c.tick.new.self c.args.next ticked.names ticked.done.files ticked.staged)
    (told_one (ReloadAsks (folder_of c.tick.new.self)) c.args.net.now c.reload.new.net c.reload.result c.tell.result
    c.reload.ensures.takes c.tell.ensures)).0 c.in-Ok-tell.told c.in-Ok-tell.is

pub returns-in-Ok-tell-clause-images : goal.returns-in-Ok-tell-clause-images
returns-in-Ok-tell-clause-images g c =
    tick_images g.D.Disk.view c.args.store.now c.args.moment.now c.args.next c.args.files.now
    c.tick.new.files c.if-next-moment.false c.tick.ensures.images

pub returns-in-Err-tell-clause-goes : goal.returns-in-Err-tell-clause-goes
returns-in-Err-tell-clause-goes g c =
    let front : Front = record { now = c.args.moment.now; store = c.args.store.now; net = c.args.net.now } in
    let ticked = c.in-Ok-true.ensures in
    (goes_back c.args.next front c.tick.new.self c.reload.new.net 0 0 c.tell.result c.if-next-moment.false
    (sym ticked.due ∙ c.in-Ok-true.field-0-test)
    (folder_ticked c.args.store.now c.tick.new.self c.args.next ticked.names ticked.done.files ticked.staged)
    (told_one (ReloadAsks (folder_of c.tick.new.self)) c.args.net.now c.reload.new.net c.reload.result c.tell.result
    c.reload.ensures.takes c.tell.ensures)).1 c.in-Err-tell.field-0 c.in-Err-tell.is

pub returns-in-Err-tell-clause-images : goal.returns-in-Err-tell-clause-images
returns-in-Err-tell-clause-images g c =
    tick_images g.D.Disk.view c.args.store.now c.args.moment.now c.args.next c.args.files.now
    c.tick.new.files c.if-next-moment.false c.tick.ensures.images

pub returns-in-Ok-false-clause-goes : goal.returns-in-Ok-false-clause-goes
returns-in-Ok-false-clause-goes g c =
    let front : Front = record { now = c.args.moment.now; store = c.args.store.now; net = c.args.net.now } in
    let ticked = c.in-Ok-false.ensures in
    goes_on c.args.next front c.tick.new.self 0 0 c.tell_nothing.result c.if-next-moment.false
    (sym ticked.due ∙ c.in-Ok-false.field-0-test)
    (folder_ticked c.args.store.now c.tick.new.self c.args.next ticked.names ticked.done.files ticked.staged)
    c.requires.told c.tell_nothing.ensures

pub returns-in-Err-tick-clause-images : goal.returns-in-Err-tick-clause-images
returns-in-Err-tick-clause-images g c =
    tick_images g.D.Disk.view c.args.store.now c.args.moment.now c.args.next c.args.files.now
    c.tick.new.files c.if-next-moment.false c.tick.ensures.images
