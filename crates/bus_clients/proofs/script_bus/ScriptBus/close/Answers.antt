use Rattle.std.proofs.Common.{sym, ap, ◌∙◌}
use Rattle.std.specs.Option.{option_copied}
use Rattle.bus_clients.specs.Clients.{client_at}
use Rattle.bus_clients.specs.Bus.{part_of}
use Rattle.bus_clients.proofs.BusLemmas.{closes}
use Rattle.bus_clients.proofs.script_bus.ScriptBus.close.Goals as goal

pub returns-in_ok-tell-in-Ok : goal.returns-in_ok-tell-in-Ok
returns-in_ok-tell-in-Ok c =
    closes (part_of c.args.self.now) c.args.key c.in-Some.client.now c.drop_client.new.clients.items c.disconnect.new.self c.in-Ok.served
    c.args.told.now.items c.tell.new.told.items tt (sym (ap option_copied c.in-Some.is) ∙ c.find_client.ensures ∙ ap (λ clients. client_at clients c.args.key) c.deref.ensures.value) c.drop_client.ensures c.in-Ok.ensures.ok
    c.in_ok-tell-in-Ok.ensures.lines
