use Rattle.std.proofs.Common.{◌≡◌, ◌+◌, ◌++◌, length}
use Rattle.std.specs.Vec.Iter.{into_iter_items}
use Rattle.net_rules.specs.After.{opened_interfaces}
use Rattle.net_after.proofs.opens.with_interfaces.Given as goal

-- the requests so far, and those that are left from the number on
abbrev pub invariant-loop-request : goal.invariant-loop-request
invariant-loop-request l = record {
  requests : l.now ++ opened_interfaces l.number (into_iter_items l.request-iterator) ≡ l.fn.current ++ opened_interfaces l.fn.next l.fn.requests;
  number : l.number + length (into_iter_items l.request-iterator) ≡ l.fn.next + length l.fn.requests;
}
