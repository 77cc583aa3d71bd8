use Rattle.bus_clients.specs.Bus.{part_of, closed}
use Rattle.bus_lines.proofs.ToldLemmas.{tells_of}
use Rattle.bus_lines.proofs.told.close_client.Goals as goal

pub returns : goal.returns
returns c =
    tells_of (closed (part_of c.args.bus.now) c.args.client) (part_of c.args.bus.now)
    (part_of c.close-answered.new.self) c.new-sent.result.items c.close-answered.new.told.items c.close-answered.result
    c.tell_answer.result c.new-sent.ensures.items c.close-answered.ensures c.tell_answer.ensures
