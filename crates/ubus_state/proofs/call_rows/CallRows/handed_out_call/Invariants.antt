use Rattle.std.proofs.Common.{◌≡◌}
use Rattle.std.specs.List.{find}
use Rattle.ubus_table.specs.Clients.{is_handed_out}
use Rattle.ubus_state.specs.Calls.{call_of}
use Rattle.ubus_state.proofs.call_rows.CallRows.handed_out_call.Given as goal

-- what is found among the calls that are left is what is found among all
abbrev pub invariant-loop-call : goal.invariant-loop-call
invariant-loop-call l =
    find (λ call. is_handed_out l.caller l.seq l.object (call_of call)) l.call-iterator
    ≡ find (λ call. is_handed_out l.caller l.seq l.object (call_of call)) l.self.rows.items
