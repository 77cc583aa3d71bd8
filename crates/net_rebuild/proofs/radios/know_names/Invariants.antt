use Rattle.std.proofs.Common.{take}
use Rattle.net_rebuild.specs.Joined.{KnowsAll}
use Rattle.net_rebuild.proofs.radios.know_names.Given as goal

-- names so far are known
abbrev pub invariant-loop-name : goal.invariant-loop-name
invariant-loop-name l = KnowsAll l.initial.graph (take l.name-index l.names) l.graph
