use Rattle.std.proofs.Common.{sym, ◌∙◌}
use Rattle.bus_clients.proofs.BusLemmas.{not_answered}
use Rattle.bus_clients.proofs.script_bus.ScriptBus.reply.Goals as goal

pub returns-then-not-is_handed_out : goal.returns-then-not-is_handed_out
returns-then-not-is_handed_out c =
    not_answered c.args.self.now.broker c.args.self.now.clients.items c.args.call.now.caller c.args.call.now.seq c.args.call.now.object
    c.args.status c.args.payload c.args.told.now.items (sym c.is_handed_out.ensures ∙ c.if-not-is_handed_out.true)
