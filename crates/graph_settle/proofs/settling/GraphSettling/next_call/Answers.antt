use Rattle.std.proofs.Common.{Some, None, sym, ap, ◌∙◌}
use Rattle.graph_settle.proofs.NextLemmas.{starts_with_take, starts_below, starts_with_put}
use Rattle.graph_settle.proofs.settling.GraphSettling.next_call.Goals as goal

pub returns-in-Some : goal.returns-in-Some
returns-in-Some c = ap Some c.take_of.ensures ∙ starts_with_take c.args.self.now c.are_gifts.ensures c.requires c.in-Some.object c.in-Some.ensures.some

pub returns-in-Some-device_call : goal.returns-in-Some-device_call
returns-in-Some-device_call c = starts_below c.args.self.now c.are_gifts.ensures c.requires c.in_default.ensures.none c.in-Some-device_call.call (sym c.in-Some-device_call.is ∙ c.device_call.ensures)

pub returns-in-Some-first_put : goal.returns-in-Some-first_put
returns-in-Some-first_put c = starts_with_put c.args.self.now c.are_gifts.ensures c.requires c.in_default.ensures.none (sym c.in_default-device_call.is ∙ c.device_call.ensures) (Some c.in-Some-first_put.object)
    c.in-Some-first_put.ensures.some tt

pub returns-in-None : goal.returns-in-None
returns-in-None c = starts_with_put c.args.self.now c.are_gifts.ensures c.requires c.in_default.ensures.none (sym c.in_default-device_call.is ∙ c.device_call.ensures) None tt c.in-None.ensures.none
