use Rattle.std.proofs.Common.{ap, ◌∙◌, refl}
use Rattle.std.specs.Prelude.{Some}
use Rattle.serde_json.specs.Written.{has_float}
use Rattle.net_status.specs.Interfaces.{dump}
use Rattle.script_lines.specs.declared.line_error.LineError.TheVariants as error
use Rattle.step_net.specs.NetLine.{NetLine}
use Rattle.step_net.proofs.FloatLemmas.{dump_has_none}
use Rattle.step_net.proofs.ShowLemmas.{shows}
use Rattle.step_net.proofs.show.show_dump.Goals as goal

pub show-requires : goal.show-requires
show-requires c = ap has_float c.in-Ok.ensures ∙ dump_has_none c.args.net.now.inputs

pub returns : goal.returns
returns c =
    shows NetLine.dump c.args.net.now error.NoInterface (Some (dump c.args.net.now.inputs))
    c.show.result _ refl (ap Some c.in-Ok.ensures) c.show.ensures
