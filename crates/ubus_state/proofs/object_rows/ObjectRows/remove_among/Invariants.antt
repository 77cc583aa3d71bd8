use Rattle.std.proofs.Common.{◌≡◌, take}
use Rattle.ubus_state.specs.Among.{objects_but}
use Rattle.ubus_state.proofs.object_rows.ObjectRows.remove_among.Given as goal

-- the objects but those of the numbers so far
abbrev pub invariant-loop-number : goal.invariant-loop-number
invariant-loop-number l = record {
  rows : l.self.rows.items ≡ objects_but (take l.number-index l.numbers) l.fn.self.rows.items;
  next : l.self.next ≡ l.fn.self.next;
}
