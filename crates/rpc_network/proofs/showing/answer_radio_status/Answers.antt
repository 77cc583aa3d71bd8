use Rattle.std.proofs.Common.{refl}
use Rattle.serde_json.specs.View.{view}
use Rattle.net_plane.specs.declared.net_error.NetError.TheVariants as net_error
use Rattle.net_status.specs.Radios.{radio_status}
use Rattle.step_net.specs.NetLine.{NetLine}
use Rattle.rpc_network.proofs.ShowLemmas.{shows, shows_none}
use Rattle.rpc_network.proofs.showing.answer_radio_status.Goals as goal

pub returns-in-Ok : goal.returns-in-Ok
returns-in-Ok c =
    shows (NetLine.radio c.args.name.now) c.args.net.now
    (radio_status c.args.net.now.inputs c.args.name.now) c.show.result (view c.in-Ok.value) refl
    c.in-Ok.ensures c.show.ensures

pub returns-in-Err : goal.returns-in-Err
returns-in-Err c =
    shows_none (NetLine.radio c.args.name.now) c.args.net.now
    (radio_status c.args.net.now.inputs c.args.name.now) c.refuse_for.result c.in-Err.error
    net_error.NoRadio refl refl c.in-Err.ensures c.refuse_for.ensures
