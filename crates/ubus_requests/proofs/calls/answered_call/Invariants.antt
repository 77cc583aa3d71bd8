use Rattle.std.proofs.Common.{◌≡◌}
use Rattle.std.specs.List.{find}
use Rattle.ubus_table.specs.Calls.{is_answered}
use Rattle.ubus_state.specs.Calls.{call_of}
use Rattle.ubus_state.specs.State.{table_of}
use Rattle.ubus_requests.proofs.calls.answered_call.Given as goal

-- what is found among the calls that are left is what is found among all
abbrev pub invariant-loop-call : goal.invariant-loop-call
invariant-loop-call l =
    find (λ call. is_answered (table_of l.bus) l.client l.frame (call_of call)) l.call-iterator
    ≡ find (λ call. is_answered (table_of l.bus) l.client l.frame (call_of call)) l.bus.calls.rows.items
