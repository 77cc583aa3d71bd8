use Rattle.std.proofs.Common.{◌≡◌, drop}
use Rattle.std.specs.List.{list_all}
use Rattle.uci_types.specs.Values.{in_set}
use Rattle.uci_types.proofs.fault.all_accepted.Given as goal

-- the items so far did not decide it
abbrev pub invariant-loop-item : goal.invariant-loop-item
invariant-loop-item l = list_all (in_set l.datatype) (drop l.item-index l.items) ≡ list_all (in_set l.datatype) l.items
