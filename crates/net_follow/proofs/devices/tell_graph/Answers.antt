use Rattle.std.proofs.Common.{Option, Some, ap}
use Rattle.std.specs.Option.{option_map}
use Rattle.kern_model.specs.declared.object.Device.{Device}
use Rattle.kern_model.specs.Kernel.{with_carrier}
use Rattle.graph_rules.specs.State.{State}
use Rattle.graph_rules.specs.After.{name_at}
use Rattle.net_follow.proofs.GraphLemmas.{id_within}
use Rattle.net_follow.proofs.TellLemmas.{told_counted, told_held, told_calm, come_below, set_below, come_held, set_held, gone_counted, gone_held, gone_calm}
use Rattle.known_inputs.specs.Steps.{name_of}
use Rattle.net_follow.proofs.devices.tell_graph.Goals as goal

pub set_present-requires : goal.set_present-requires
set_present-requires g c = id_within c.args.settling.now.graph.known.names (name_of c.args.event.now) c.args.id.0 c.requires.known

pub leave-requires-clause-within : goal.leave-requires-clause-within
leave-requires-clause-within g c = id_within c.args.settling.now.graph.known.names (name_of c.args.event.now) c.args.id.0 c.requires.known

pub set_carrier-requires : goal.set_carrier-requires
set_carrier-requires g c = id_within c.args.settling.now.graph.known.names (name_of c.args.event.now) c.args.id.0 c.requires.known

pub returns-in-Add-clause-counted : goal.returns-in-Add-clause-counted
returns-in-Add-clause-counted g c =
    let it = c.in-Add in
    let d : Device = record { carrier = it.carrier; mtu = it.mtu; mac = it.mac } in
    told_counted c.args.settling.now c.args.id.0 (Some d) c.set_present.new.self c.set_present.ensures.state c.args.event.now
    (come_below c.args.event.now c.args.settling.now.graph c.args.id.0 c.requires.known it.name it.carrier it.mtu it.mac it.is)

pub returns-in-Add-clause-held : goal.returns-in-Add-clause-held
returns-in-Add-clause-held g c = λ inputs below free.
    let it = c.in-Add in
    let d : Device = record { carrier = it.carrier; mtu = it.mtu; mac = it.mac } in
    come_held c.args.settling.now (record c.args.settling.now { graph = c.set_present.new.self }) c.args.event.now it.name it.carrier it.mtu it.mac it.is
    (told_held c.args.settling.now c.args.id.0 (Some d) c.set_present.new.self c.set_present.ensures.state)

pub returns-in-Add-clause-calm : goal.returns-in-Add-clause-calm
returns-in-Add-clause-calm g c =
    let it = c.in-Add in
    let d : Device = record { carrier = it.carrier; mtu = it.mtu; mac = it.mac } in
    told_calm c.args.settling.now c.args.id.0 (Some d) c.set_present.new.self c.set_present.ensures.state c.requires.ready

pub returns-in-Add-clause-loads : goal.returns-in-Add-clause-loads
returns-in-Add-clause-loads g c = ap (λ (s : State). s.loads) c.set_present.ensures.state

pub returns-in-Remove-clause-counted : goal.returns-in-Remove-clause-counted
returns-in-Remove-clause-counted g c = gone_counted c.args.settling.now c.leave.new.self c.args.id.0 c.args.event.now c.in-Remove.name c.in-Remove.is c.requires.known c.leave.ensures.graph c.leave.ensures.gifts

pub returns-in-Remove-clause-held : goal.returns-in-Remove-clause-held
returns-in-Remove-clause-held g c = gone_held c.args.settling.now c.leave.new.self c.args.id.0 c.args.event.now c.in-Remove.name c.in-Remove.is c.requires.known c.leave.ensures.graph c.leave.ensures.gifts c.leave.ensures.held

pub returns-in-Remove-clause-calm : goal.returns-in-Remove-clause-calm
returns-in-Remove-clause-calm g c = gone_calm c.args.settling.now c.leave.new.self c.args.id.0 c.args.event.now c.in-Remove.name c.in-Remove.is c.requires.known c.leave.ensures.graph c.leave.ensures.gifts c.leave.ensures.may_lose_link
    c.requires.ready

pub returns-in-Remove-clause-loads : goal.returns-in-Remove-clause-loads
returns-in-Remove-clause-loads g c = ap (λ (s : State). s.loads) c.leave.ensures.graph

pub returns-in-Carrier-clause-counted : goal.returns-in-Carrier-clause-counted
returns-in-Carrier-clause-counted g c =
    let s : State = c.args.settling.now.graph in
    let d : Option Device = option_map (with_carrier c.in-Carrier.on) (name_at s.known.names c.args.id.0).device in
    told_counted c.args.settling.now c.args.id.0 d c.set_carrier.new.self c.set_carrier.ensures.state c.args.event.now
    (set_below c.args.event.now s c.args.id.0 c.requires.known c.in-Carrier.name c.in-Carrier.on c.in-Carrier.is)

pub returns-in-Carrier-clause-held : goal.returns-in-Carrier-clause-held
returns-in-Carrier-clause-held g c = λ inputs below free.
    let s : State = c.args.settling.now.graph in
    let d : Option Device = option_map (with_carrier c.in-Carrier.on) (name_at s.known.names c.args.id.0).device in
    set_held c.args.settling.now (record c.args.settling.now { graph = c.set_carrier.new.self }) c.args.event.now c.in-Carrier.name c.in-Carrier.on c.in-Carrier.is
    (told_held c.args.settling.now c.args.id.0 d c.set_carrier.new.self c.set_carrier.ensures.state)

pub returns-in-Carrier-clause-calm : goal.returns-in-Carrier-clause-calm
returns-in-Carrier-clause-calm g c =
    let s : State = c.args.settling.now.graph in
    let d : Option Device = option_map (with_carrier c.in-Carrier.on) (name_at s.known.names c.args.id.0).device in
    told_calm c.args.settling.now c.args.id.0 d c.set_carrier.new.self c.set_carrier.ensures.state c.requires.ready

pub returns-in-Carrier-clause-loads : goal.returns-in-Carrier-clause-loads
returns-in-Carrier-clause-loads g c = ap (λ (s : State). s.loads) c.set_carrier.ensures.state
