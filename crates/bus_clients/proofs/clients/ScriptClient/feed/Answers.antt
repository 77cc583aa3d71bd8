use Rattle.std.proofs.Common.{refl}
use Rattle.bus_clients.proofs.FedLemmas.{taken}
use Rattle.bus_clients.proofs.clients.ScriptClient.feed.Goals as goal

pub returns-clause-fed : goal.returns-clause-fed
returns-clause-fed c = record {
  taken = taken c.args.piece.now c.args.self.now.feeder c.feed-fed.new.self c.take_all.new.feeder c.feed-fed.result
      c.in_ok-frames.frames c.in_ok-fault.fault c.in_ok-fault.ensures c.feed-fed.ensures.fed c.feed-fed.ensures.refused
      c.in_ok-frames.ensures.taken c.in_ok-frames.ensures.none c.in_ok-frames.ensures.rest;
  same = refl;
  number = refl;
}
