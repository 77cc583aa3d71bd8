use Rattle.std.proofs.Common.{refl}
use Rattle.serde_json.specs.View.{view}
use Rattle.net_plane.specs.declared.net_error.NetError.TheVariants as net_error
use Rattle.net_status.specs.Radios.{radio_status}
use Rattle.script_lines.specs.declared.line_error.LineError.TheVariants as error
use Rattle.step_net.specs.NetLine.{NetLine}
use Rattle.step_net.proofs.FloatLemmas.{radio_status_has_none}
use Rattle.step_net.proofs.ShowLemmas.{shows, shows_none}
use Rattle.step_net.proofs.show.show_radio.Goals as goal

pub show-requires : goal.show-requires
show-requires c =
    radio_status_has_none c.args.net.now.inputs c.args.name.now (view c.in-Ok.value) c.in-Ok.ensures

pub returns-in-Ok : goal.returns-in-Ok
returns-in-Ok c =
    shows (NetLine.radio c.args.name.now) c.args.net.now error.NoRadio
    (radio_status c.args.net.now.inputs c.args.name.now) c.show.result (view c.in-Ok.value) refl
    c.in-Ok.ensures c.show.ensures

pub returns-in-Err : goal.returns-in-Err
returns-in-Err c =
    shows_none (NetLine.radio c.args.name.now) c.args.net.now error.NoRadio
    (radio_status c.args.net.now.inputs c.args.name.now) c.refuse_or.result c.in-Err.error
    net_error.NoRadio refl refl c.in-Err.ensures c.refuse_or.ensures
