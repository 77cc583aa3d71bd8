use Rattle.std.proofs.Common.{refl}
use Rattle.std.specs.Prelude.{Some}
use Rattle.net_rules.specs.declared.event.Event.TheVariants as event
use Rattle.net_plane.specs.Network.{moment_of}
use Rattle.script_lines.specs.declared.script_line.ScriptLine.TheVariants as line
use Rattle.script_lines.specs.declared.line_error.LineError.TheVariants as error
use Rattle.step_net.specs.NetLine.{NetLine}
use Rattle.step_net.specs.Taken.{telled_of, IsNoted}
use Rattle.uci_tool.specs.Folder.{folder_of}
use Rattle.plane_step.specs.LineDone.{Front, Read, ground_at}
use Rattle.plane_step.specs.Means.{AnswerAsks, RadioRequests}
use Rattle.step_net.specs.Reload.{ReloadAsks}
use Rattle.step_net.proofs.RequestLemmas.{asks_nothing, interface_requests, interface_stays, device_requests, device_stays, radio_requests, radio_stays}
use Rattle.plane_step.proofs.ActLemmas.{net_does, does_one, refused_does, not_yet, read_does, shows_does}
use Rattle.step_net.proofs.RequestLemmas.{happening_requests}
use Rattle.step_net.proofs.TakenLemmas.{tries_alone, told_tries, told_one}
use Rattle.plane_step.proofs.plain_line.act_on_net.Goals as goal

pub returns-in-Device-clause-does : goal.returns-in-Device-clause-does
returns-in-Device-clause-does g c of now =
    let front : Front = record { now = now; store = c.args.store.now; net = c.args.net.now } in
    let kernel = telled_of g.K.Kernel c.args.kernel.now c.take_device.new.kernel in
    let read : Read = record { front = front; number = c.args.number; line = Some (line.Device c.in-Device.event) } in
    read_does front c.args.number c.args.line (line.Device c.in-Device.event) c.take_device.new.net kernel c.tell.result c.in-Device.is
    (net_does read (NetLine.happens (event.Device c.in-Device.event)) c.take_device.new.net kernel
    c.tell.result refl
    (told_tries (NetLine.happens (event.Device c.in-Device.event)) c.args.net.now c.take_device.new.net kernel
    c.take_device.result c.tell.result c.take_device.ensures.tries c.tell.ensures))

pub returns-in-Answer-clause-does : goal.returns-in-Answer-clause-does
returns-in-Answer-clause-does g c of now =
    let front : Front = record { now = now; store = c.args.store.now; net = c.args.net.now } in
    let kernel = telled_of g.K.Kernel c.args.kernel.now c.args.kernel.now in
    let read : Read = record { front = front; number = c.args.number; line = Some (line.Answer c.in-Answer.interface c.in-Answer.request c.in-Answer.json) } in
    read_does front c.args.number c.args.line (line.Answer c.in-Answer.interface c.in-Answer.request c.in-Answer.json) c.answer_interface.new.net kernel c.answer_interface.result c.in-Answer.is
    (does_one read (AnswerAsks c.args.number c.in-Answer.interface c.in-Answer.request c.in-Answer.json)
    c.answer_interface.new.net kernel c.answer_interface.result (λ act requests. requests)
    (asks_nothing (g.K.Kernel.asked c.args.kernel.now) (g.K.Kernel.faults c.args.kernel.now))
    c.answer_interface.ensures.takes)

pub returns-in-Radio-clause-does : goal.returns-in-Radio-clause-does
returns-in-Radio-clause-does g c of now =
    let front : Front = record { now = now; store = c.args.store.now; net = c.args.net.now } in
    let kernel = telled_of g.K.Kernel c.args.kernel.now c.args.kernel.now in
    let read : Read = record { front = front; number = c.args.number; line = Some (line.Radio c.in-Radio.radio c.in-Radio.request c.in-Radio.json) } in
    read_does front c.args.number c.args.line (line.Radio c.in-Radio.radio c.in-Radio.request c.in-Radio.json) c.answer_radio.new.net kernel c.answer_radio.result c.in-Radio.is
    (does_one read (RadioRequests c.args.number c.in-Radio.radio c.in-Radio.request c.in-Radio.json)
    c.answer_radio.new.net kernel c.answer_radio.result (λ act requests. requests)
    (asks_nothing (g.K.Kernel.asked c.args.kernel.now) (g.K.Kernel.faults c.args.kernel.now))
    c.answer_radio.ensures.takes)

pub returns-in-Operator-clause-does : goal.returns-in-Operator-clause-does
returns-in-Operator-clause-does g c of now =
    let front : Front = record { now = now; store = c.args.store.now; net = c.args.net.now } in
    let kernel = telled_of g.K.Kernel c.args.kernel.now c.args.kernel.now in
    let read : Read = record { front = front; number = c.args.number; line = Some (line.Operator c.in-Operator.interface c.in-Operator.up) } in
    read_does front c.args.number c.args.line (line.Operator c.in-Operator.interface c.in-Operator.up) c.take_operator.new.net kernel c.tell-in-Operator.result c.in-Operator.is
    (let what = event.Operator c.in-Operator.interface c.in-Operator.up in
    net_does read (NetLine.happens what) c.take_operator.new.net kernel c.tell-in-Operator.result refl
    (told_tries (NetLine.happens what) c.args.net.now c.take_operator.new.net kernel c.take_operator.result
    c.tell-in-Operator.result
    (tries_alone IsNoted (NetLine.happens what) c.args.net.now c.take_operator.new.net kernel
    c.take_operator.result (happening_requests (moment_of c.args.net.now) what tt)
    (asks_nothing (g.K.Kernel.asked c.args.kernel.now) (g.K.Kernel.faults c.args.kernel.now))
    c.take_operator.ensures.takes) c.tell-in-Operator.ensures))

pub returns-in-Reload-clause-does : goal.returns-in-Reload-clause-does
returns-in-Reload-clause-does g c of now =
    let front : Front = record { now = now; store = c.args.store.now; net = c.args.net.now } in
    let kernel = telled_of g.K.Kernel c.args.kernel.now c.args.kernel.now in
    let read : Read = record { front = front; number = c.args.number; line = Some (line.Reload) } in
    read_does front c.args.number c.args.line (line.Reload) c.reload.new.net kernel c.tell-in-Reload.result c.in-Reload.is
    (does_one read (ReloadAsks (folder_of c.args.store.now)) c.reload.new.net kernel c.tell-in-Reload.result
    (λ act requests. requests)
    (asks_nothing (g.K.Kernel.asked c.args.kernel.now) (g.K.Kernel.faults c.args.kernel.now))
    (told_one (ReloadAsks (folder_of c.args.store.now)) c.args.net.now c.reload.new.net c.reload.result
    c.tell-in-Reload.result c.reload.ensures.takes c.tell-in-Reload.ensures))

pub returns-in-Dump-clause-does : goal.returns-in-Dump-clause-does
returns-in-Dump-clause-does g c of now =
    let front : Front = record { now = now; store = c.args.store.now; net = c.args.net.now } in
    let kernel = telled_of g.K.Kernel c.args.kernel.now c.args.kernel.now in
    let read : Read = record { front = front; number = c.args.number; line = Some (line.Dump) } in
    read_does front c.args.number c.args.line (line.Dump) c.args.net.now kernel c.show_dump.result c.in-Dump.is
    (shows_does read NetLine.dump kernel c.show_dump.result refl refl refl c.requires.told
    (asks_nothing (g.K.Kernel.asked c.args.kernel.now) (g.K.Kernel.faults c.args.kernel.now))
    c.show_dump.ensures)

pub returns-in-InterfaceStatus-clause-does : goal.returns-in-InterfaceStatus-clause-does
returns-in-InterfaceStatus-clause-does g c of now =
    let front : Front = record { now = now; store = c.args.store.now; net = c.args.net.now } in
    let kernel = telled_of g.K.Kernel c.args.kernel.now c.args.kernel.now in
    let read : Read = record { front = front; number = c.args.number; line = Some (line.InterfaceStatus c.in-InterfaceStatus.name) } in
    read_does front c.args.number c.args.line (line.InterfaceStatus c.in-InterfaceStatus.name) c.args.net.now kernel c.show_interface.result c.in-InterfaceStatus.is
    (shows_does read (NetLine.interface c.in-InterfaceStatus.name) kernel c.show_interface.result refl
    (interface_requests (moment_of c.args.net.now) c.in-InterfaceStatus.name) (interface_stays (moment_of c.args.net.now) c.in-InterfaceStatus.name) c.requires.told
    (asks_nothing (g.K.Kernel.asked c.args.kernel.now) (g.K.Kernel.faults c.args.kernel.now))
    c.show_interface.ensures)

pub returns-in-DeviceStatus-clause-does : goal.returns-in-DeviceStatus-clause-does
returns-in-DeviceStatus-clause-does g c of now =
    let front : Front = record { now = now; store = c.args.store.now; net = c.args.net.now } in
    let kernel = telled_of g.K.Kernel c.args.kernel.now c.args.kernel.now in
    let read : Read = record { front = front; number = c.args.number; line = Some (line.DeviceStatus c.in-DeviceStatus.name) } in
    read_does front c.args.number c.args.line (line.DeviceStatus c.in-DeviceStatus.name) c.args.net.now kernel c.show_device.result c.in-DeviceStatus.is
    (shows_does read (NetLine.device c.in-DeviceStatus.name) kernel c.show_device.result refl
    (device_requests (moment_of c.args.net.now) c.in-DeviceStatus.name) (device_stays (moment_of c.args.net.now) c.in-DeviceStatus.name) c.requires.told
    (asks_nothing (g.K.Kernel.asked c.args.kernel.now) (g.K.Kernel.faults c.args.kernel.now))
    c.show_device.ensures)

pub returns-in-RadioStatus-clause-does : goal.returns-in-RadioStatus-clause-does
returns-in-RadioStatus-clause-does g c of now =
    let front : Front = record { now = now; store = c.args.store.now; net = c.args.net.now } in
    let kernel = telled_of g.K.Kernel c.args.kernel.now c.args.kernel.now in
    let read : Read = record { front = front; number = c.args.number; line = Some (line.RadioStatus c.in-RadioStatus.name) } in
    read_does front c.args.number c.args.line (line.RadioStatus c.in-RadioStatus.name) c.args.net.now kernel c.show_radio.result c.in-RadioStatus.is
    (shows_does read (NetLine.radio c.in-RadioStatus.name) kernel c.show_radio.result refl
    (radio_requests (moment_of c.args.net.now) c.in-RadioStatus.name) (radio_stays (moment_of c.args.net.now) c.in-RadioStatus.name) c.requires.told
    (asks_nothing (g.K.Kernel.asked c.args.kernel.now) (g.K.Kernel.faults c.args.kernel.now))
    c.show_radio.ensures)

pub returns-clause-does : goal.returns-clause-does
returns-clause-does g c of now =
    let front : Front = record { now = now; store = c.args.store.now; net = c.args.net.now } in
    let kernel = telled_of g.K.Kernel c.args.kernel.now c.args.kernel.now in
    let read : Read = record { front = front; number = c.args.number; line = Some c.args.line } in
    refused_does read (error.BadLine c.args.number) kernel c.refuse_line.result
    (not_yet (ground_at front) c.args.number c.args.line c.in-At.is of) c.requires.told
    (asks_nothing (g.K.Kernel.asked c.args.kernel.now) (g.K.Kernel.faults c.args.kernel.now))
    c.refuse_line.ensures
