use Rattle.std.proofs.Common.{refl}
use Rattle.net_rules.specs.declared.event.Event.TheVariants as event
use Rattle.net_plane.specs.Network.{moment_of}
use Rattle.uci_tool.specs.Folder.{folder_of}
use Rattle.step_net.specs.NetLine.{NetLine}
use Rattle.step_net.specs.Taken.{telled_of, IsNoted}
use Rattle.rpc_network.specs.declared.net_call.NetCall.TheVariants as call
use Rattle.step_net.proofs.RequestLemmas.{asks_nothing}
use Rattle.step_net.proofs.RequestLemmas.{happening_requests}
use Rattle.step_net.proofs.TakenLemmas.{tries_alone}
use Rattle.rpc_network.proofs.EventLemmas.{answer_tries}
use Rattle.rpc_network.proofs.CallLemmas.{tries_shown, carries, carries_load}
use Rattle.rpc_network.proofs.call.carry_out.Goals as goal

pub returns-in-Reload-clause-carries : goal.returns-in-Reload-clause-carries
returns-in-Reload-clause-carries g c =
    let kernel = telled_of g.K.Kernel c.args.kernel.now c.args.kernel.now in
    carries_load (folder_of c.args.store.now) c.args.call c.args.net.now c.reload.new.net kernel c.reload.result c.answer_event.result c.in-Reload.is
    (asks_nothing (g.K.Kernel.asked c.args.kernel.now) (g.K.Kernel.faults c.args.kernel.now)) c.reload.ensures.takes c.answer_event.ensures

pub returns-in-Dump-clause-carries : goal.returns-in-Dump-clause-carries
returns-in-Dump-clause-carries g c =
    let kernel = telled_of g.K.Kernel c.args.kernel.now c.args.kernel.now in
    let act = NetLine.dump in
    carries (folder_of c.args.store.now) c.args.call (call.Dump) act c.args.net.now c.args.net.now kernel c.answer_dump.result c.in-Dump.is refl
    (tries_shown act c.args.net.now kernel c.answer_dump.result refl refl c.requires.told
    (asks_nothing (g.K.Kernel.asked c.args.kernel.now) (g.K.Kernel.faults c.args.kernel.now)) c.answer_dump.ensures)

pub returns-in-InterfaceStatus-clause-carries : goal.returns-in-InterfaceStatus-clause-carries
returns-in-InterfaceStatus-clause-carries g c =
    let kernel = telled_of g.K.Kernel c.args.kernel.now c.args.kernel.now in
    let act = NetLine.interface c.in-InterfaceStatus.name in
    carries (folder_of c.args.store.now) c.args.call (call.InterfaceStatus c.in-InterfaceStatus.name) act c.args.net.now c.args.net.now kernel c.answer_interface_status.result c.in-InterfaceStatus.is refl
    (tries_shown act c.args.net.now kernel c.answer_interface_status.result refl refl c.requires.told
    (asks_nothing (g.K.Kernel.asked c.args.kernel.now) (g.K.Kernel.faults c.args.kernel.now)) c.answer_interface_status.ensures)

pub returns-in-Operator-clause-carries : goal.returns-in-Operator-clause-carries
returns-in-Operator-clause-carries g c =
    let kernel = telled_of g.K.Kernel c.args.kernel.now c.args.kernel.now in
    let what = event.Operator c.in-Operator.interface c.in-Operator.up in
    carries (folder_of c.args.store.now) c.args.call (call.Operator c.in-Operator.interface c.in-Operator.up) (NetLine.happens what) c.args.net.now c.take_operator.new.net kernel c.answer_event-in-Operator.result
    c.in-Operator.is refl
    (answer_tries (NetLine.happens what) c.args.net.now c.take_operator.new.net kernel c.take_operator.result c.answer_event-in-Operator.result (λ b. refl)
    (tries_alone IsNoted (NetLine.happens what) c.args.net.now c.take_operator.new.net kernel c.take_operator.result
    (happening_requests (moment_of c.args.net.now) what tt) (asks_nothing (g.K.Kernel.asked c.args.kernel.now) (g.K.Kernel.faults c.args.kernel.now)) c.take_operator.ensures.takes) c.answer_event-in-Operator.ensures)

pub returns-in-Answer-clause-carries : goal.returns-in-Answer-clause-carries
returns-in-Answer-clause-carries g c =
    let kernel = telled_of g.K.Kernel c.args.kernel.now c.args.kernel.now in
    let what = event.Answer c.in-Answer.interface c.in-Answer.number c.in-Answer.answer in
    carries (folder_of c.args.store.now) c.args.call (call.Answer c.in-Answer.interface c.in-Answer.number c.in-Answer.answer) (NetLine.happens what) c.args.net.now c.take_answer.new.net kernel c.answer_event-in-Answer.result
    c.in-Answer.is refl
    (answer_tries (NetLine.happens what) c.args.net.now c.take_answer.new.net kernel c.take_answer.result c.answer_event-in-Answer.result (λ b. refl)
    (tries_alone IsNoted (NetLine.happens what) c.args.net.now c.take_answer.new.net kernel c.take_answer.result
    (happening_requests (moment_of c.args.net.now) what tt) (asks_nothing (g.K.Kernel.asked c.args.kernel.now) (g.K.Kernel.faults c.args.kernel.now)) c.take_answer.ensures.takes) c.answer_event-in-Answer.ensures)

pub returns-in-DeviceStatus-clause-carries : goal.returns-in-DeviceStatus-clause-carries
returns-in-DeviceStatus-clause-carries g c =
    let kernel = telled_of g.K.Kernel c.args.kernel.now c.args.kernel.now in
    let act = NetLine.device c.in-DeviceStatus.name in
    carries (folder_of c.args.store.now) c.args.call (call.DeviceStatus c.in-DeviceStatus.name) act c.args.net.now c.args.net.now kernel c.answer_device_status.result c.in-DeviceStatus.is refl
    (tries_shown act c.args.net.now kernel c.answer_device_status.result refl refl c.requires.told
    (asks_nothing (g.K.Kernel.asked c.args.kernel.now) (g.K.Kernel.faults c.args.kernel.now)) c.answer_device_status.ensures)

pub returns-in-Device-clause-carries : goal.returns-in-Device-clause-carries
returns-in-Device-clause-carries g c =
    let kernel = telled_of g.K.Kernel c.args.kernel.now c.take_device.new.kernel in
    let what = event.Device c.in-Device.event in
    carries (folder_of c.args.store.now) c.args.call (call.Device c.in-Device.event) (NetLine.happens what) c.args.net.now
    c.take_device.new.net kernel c.answer_event-in-Device.result c.in-Device.is refl
    (answer_tries (NetLine.happens what) c.args.net.now c.take_device.new.net kernel c.take_device.result
    c.answer_event-in-Device.result (λ b. refl) c.take_device.ensures.tries c.answer_event-in-Device.ensures)

pub returns-in-RadioStatus-clause-carries : goal.returns-in-RadioStatus-clause-carries
returns-in-RadioStatus-clause-carries g c =
    let kernel = telled_of g.K.Kernel c.args.kernel.now c.args.kernel.now in
    let act = NetLine.radio c.in-RadioStatus.name in
    carries (folder_of c.args.store.now) c.args.call (call.RadioStatus c.in-RadioStatus.name) act c.args.net.now c.args.net.now kernel c.answer_radio_status.result c.in-RadioStatus.is refl
    (tries_shown act c.args.net.now kernel c.answer_radio_status.result refl refl c.requires.told
    (asks_nothing (g.K.Kernel.asked c.args.kernel.now) (g.K.Kernel.faults c.args.kernel.now)) c.answer_radio_status.ensures)

pub returns-in-Radio-clause-carries : goal.returns-in-Radio-clause-carries
returns-in-Radio-clause-carries g c =
    let kernel = telled_of g.K.Kernel c.args.kernel.now c.args.kernel.now in
    let what = event.Radio c.in-Radio.radio c.in-Radio.number c.in-Radio.ports in
    carries (folder_of c.args.store.now) c.args.call (call.Radio c.in-Radio.radio c.in-Radio.number c.in-Radio.ports) (NetLine.happens what) c.args.net.now c.take_radio.new.net kernel c.answer_event-in-Radio.result
    c.in-Radio.is refl
    (answer_tries (NetLine.happens what) c.args.net.now c.take_radio.new.net kernel c.take_radio.result c.answer_event-in-Radio.result (λ b. refl)
    (tries_alone IsNoted (NetLine.happens what) c.args.net.now c.take_radio.new.net kernel c.take_radio.result
    (happening_requests (moment_of c.args.net.now) what tt) (asks_nothing (g.K.Kernel.asked c.args.kernel.now) (g.K.Kernel.faults c.args.kernel.now)) c.take_radio.ensures.takes) c.answer_event-in-Radio.ensures)
