use Rattle.std.proofs.Common.{◌≡◌, ◌++◌, drop}
use Rattle.std.specs.List.{flat_map}
use Rattle.bus_clients.specs.Sends.{line_of}
use Rattle.bus_clients.proofs.sends.append_sends.Given as goal

-- the lines so far, and those of the others
abbrev pub invariant-loop-sent : goal.invariant-loop-sent
invariant-loop-sent l = l.told.items ++ flat_map (line_of l.clients) (drop l.sent-index l.out) ≡ l.initial.told.items ++ flat_map (line_of l.clients) l.out
