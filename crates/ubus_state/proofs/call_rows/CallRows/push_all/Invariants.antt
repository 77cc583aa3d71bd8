use Rattle.std.proofs.Common.{◌≡◌, ◌≤◌, ◌++◌, take, filter}
use Rattle.ubus_state.specs.Calls.{calls_of, is_before}
use Rattle.ubus_state.proofs.call_rows.CallRows.push_all.Given as goal

-- the calls so far are added, and those that were there stand before them
abbrev pub invariant-loop-call : goal.invariant-loop-call
invariant-loop-call l = record {
  later : l.first ≤ l.self.next;
  before : filter (is_before l.first) l.self.rows.items ≡ l.fn.self.rows.items;
  added : calls_of l.self.rows.items ≡ calls_of l.fn.self.rows.items ++ calls_of (take l.call-index l.calls);
}
