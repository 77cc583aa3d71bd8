use Rattle.std.proofs.Common.{sym, subst}
use Rattle.rpc_network.specs.Reading.{Gives}
use Rattle.rpc_network.proofs.reading.asked_for.Goals as goal

pub returns-in-Up : goal.returns-in-Up
returns-in-Up c =
    subst (λ method. Gives method c.args.args.now c.operator_call.result) (sym c.in-Up.is) c.operator_call.ensures

pub returns-in-Down : goal.returns-in-Down
returns-in-Down c =
    subst (λ method. Gives method c.args.args.now c.operator_call-in-Down.result) (sym c.in-Down.is)
    c.operator_call-in-Down.ensures
