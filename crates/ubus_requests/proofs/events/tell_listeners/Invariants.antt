use Rattle.std.proofs.Common.{◌≡◌, ◌++◌, drop}
use Rattle.std.specs.List.{flat_map}
use Rattle.ubus_table.specs.Table.{owner_of}
use Rattle.ubus_table.specs.Frames.{to_owner}
use Rattle.ubus_table.specs.Events.{event_frame}
use Rattle.ubus_send.specs.Fits.{fits}
use Rattle.ubus_state.specs.State.{table_of}
use Rattle.ubus_send.specs.Out.{out_of}
use Rattle.ubus_requests.proofs.events.tell_listeners.Given as goal

-- what is sent so far, and what is left
abbrev pub invariant-loop-object : goal.invariant-loop-object
invariant-loop-object l =
    l.out ++ out_of (flat_map (λ object. to_owner fits (owner_of (table_of l.bus) object) (event_frame l.id l.values object)) (drop l.object-index l.listeners))
    ≡ l.fn.out ++ out_of (flat_map (λ object. to_owner fits (owner_of (table_of l.bus) object) (event_frame l.id l.values object)) l.listeners)
