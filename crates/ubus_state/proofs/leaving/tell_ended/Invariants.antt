use Rattle.std.proofs.Common.{◌≡◌, ◌++◌, map, drop}
use Rattle.std.specs.Prelude.{filter, Some}
use Rattle.ubus_table.specs.Objects.{told, is_on}
use Rattle.ubus_state.specs.Calls.{calls_of}
use Rattle.ubus_send.specs.Out.{out_of}
use Rattle.ubus_state.proofs.leaving.tell_ended.Given as goal

-- what is sent so far, and what is left
abbrev pub invariant-loop-call : goal.invariant-loop-call
invariant-loop-call l =
    l.out ++ out_of (map (told (Some 10)) (filter (is_on l.number) (calls_of (drop l.call-index l.calls))))
    ≡ l.fn.out ++ out_of (map (told (Some 10)) (filter (is_on l.number) (calls_of l.calls)))
