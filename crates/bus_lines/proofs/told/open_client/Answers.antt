use Rattle.bus_clients.specs.Bus.{part_of, opened}
use Rattle.bus_lines.proofs.ToldLemmas.{tells_of}
use Rattle.bus_lines.proofs.told.open_client.Goals as goal

pub returns : goal.returns
returns c =
    tells_of (opened (part_of c.args.bus.now) c.args.client c.args.user.now c.args.group.now) (part_of c.args.bus.now)
    (part_of c.open-answered.new.self) c.new-sent.result.items c.open-answered.new.told.items c.open-answered.result
    c.tell_answer.result c.new-sent.ensures.items
    (rw (c.as_bytes.ensures, c.as_bytes-2.ensures) at c.open-answered.ensures) c.tell_answer.ensures
