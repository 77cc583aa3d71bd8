use Rattle.std.proofs.Common.{ap, refl}
use Rattle.std.specs.Prelude.{Some}
use Rattle.net_status.specs.Interfaces.{dump}
use Rattle.step_net.specs.NetLine.{NetLine}
use Rattle.rpc_network.proofs.ShowLemmas.{shows}
use Rattle.rpc_network.proofs.showing.answer_dump.Goals as goal

pub returns : goal.returns
returns c =
    shows NetLine.dump c.args.net.now (Some (dump c.args.net.now.inputs))
    c.show.result _ refl (ap Some c.in-Ok.ensures) c.show.ensures
